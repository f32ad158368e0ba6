-- A route on copper without an item, and with another in its place, is what an offer lays that makes way so.
use Rattle.std.proofs.Common.{◌≡◌, ℕ, ◌+◌, List, [], ◌∷◌, ◌++◌, length, Option, Some, None, sym, ap, ◌∙◌, subst}
use Rattle.std.proofs.Common.{arith, All}
use Rattle.std.specs.Prelude.{Contains, slice_get}
use Rattle.std.proofs.lemmas.Option.{get_or_from_slice_get}
use Rattle.std.proofs.lemmas.List.Elements.{All-contains}
use Rattle.geo_kernel.specs.declared.point.Point.{Point}
use Rattle.pcb_model.specs.declared.item.Item.{Item}
use Rattle.pcb_model.specs.declared.design.Design.{Design}
use Rattle.pcb_model.specs.Copper.{Ascends}
use Rattle.route_lattice.specs.Mesh.{Mesh}
use Rattle.route_lattice.specs.Legal.{IsLegalNode, disc_at, legal_graph}
use Rattle.cut_certificate.specs.Same.{SameMoves}
use Rattle.cut_certificate.proofs.Same.{same_self}
use Rattle.board_offers.specs.declared.offer.Offer.{Offer}
use Rattle.board_offers.specs.declared.offer.Shoved.{Shoved}
use Rattle.board_offers.specs.Items.{item_at, reshaped, without}
use Rattle.pcb_board.specs.Boards.{BoardOf, given}
use Rattle.pcb_board.specs.Keeping.{IsBoard}
use Rattle.pcb_board.proofs.Taking.{removed_is}
use Rattle.least_offer.specs.Least.{cleared}
use Rattle.closing_pass.specs.Settled.{TakesOut}
use Rattle.closing_pass.specs.Ids.{beside}
use Rattle.closing_pass.specs.inner.Rooms.{IsPast}
use Rattle.closing_pass.specs.inner.Tries.{MovesTo}
use Rattle.closing_pass.proofs.Aside.{moved_on, out_of}
use Rattle.closing_pass.proofs.Ids.{ids_change_nothing}
use Rattle.closing_pass.proofs.Past.{Holds, moves_among, probe_among, put_back, put_over}

-- ---- the same moves, and the same legal nodes
pub record IsLike (d : Design) (m : Mesh) (net via_cost : ℕ) (xs ys : List Item) : Type 0 where
  pub moves : SameMoves (legal_graph d m xs net via_cost) (legal_graph d m ys net via_cost)
  pub over : (node : ℕ) → IsLegalNode d m xs net node → IsLegalNode d m ys net node
  pub back : (node : ℕ) → IsLegalNode d m ys net node → IsLegalNode d m xs net node

module _ (d : Design) (m : Mesh) (net via_cost : ℕ) where
  pub like_same : (xs ys : List Item) → xs ≡ ys → IsLike d m net via_cost xs ys
  like_same xs ys e = subst (IsLike d m net via_cost xs) e
      (record { moves = same_self (legal_graph d m xs net via_cost); over = λ node h. h; back = λ node h. h })

  pub like_among : (xs ys : List Item) → Holds xs ys → Holds ys xs → IsLike d m net via_cost xs ys
  like_among xs ys over back = record {
    moves = moves_among d m net via_cost xs ys over back;
    over = λ node. probe_among d m net xs ys over (disc_at d m net node);
    back = λ node. probe_among d m net ys xs back (disc_at d m net node);
  }

  pub like_on : (xs ys zs : List Item) → IsLike d m net via_cost xs ys → IsLike d m net via_cost ys zs
      → IsLike d m net via_cost xs zs
  like_on xs ys zs a b = record {
    moves = record {
      count = a.moves.count ∙ b.moves.count;
      arity = a.moves.arity ∙ b.moves.arity;
      leads = λ node i. a.moves.leads node i ∙ b.moves.leads node i;
      opens = λ node i. (
        λ h. (b.moves.opens node i).0 ((a.moves.opens node i).0 h),
        λ h. (a.moves.opens node i).1 ((b.moves.opens node i).1 h),
      );
      costs = λ node i price. (
        λ h. (b.moves.costs node i price).0 ((a.moves.costs node i price).0 h),
        λ h. (a.moves.costs node i price).1 ((b.moves.costs node i price).1 h),
      );
    };
    over = λ node h. b.over node (a.over node h);
    back = λ node h. a.back node (b.back node h);
  }

  -- whatever the id of a wire is
  pub like_ids : (xs : List Item) (a : Item) (chain : List Point) (i k : ℕ)
      → IsLike d m net via_cost (beside d xs a chain i) (beside d xs a chain k)
  like_ids xs a chain i k = record {
    moves = (ids_change_nothing d m net via_cost xs a chain i k).0;
    over = (ids_change_nothing d m net via_cost xs a chain i k).1;
    back = (ids_change_nothing d m net via_cost xs a chain k i).1;
  }

-- ---- the copper, and what the offer leaves
module _ (m : Mesh) (via_cost : ℕ) (b : BoardOf) (o : Offer) (id : ℕ) (kept : IsBoard b) (up : Ascends b.items) where
  -- the copper without the item
  rest_is : (moved : Option Item) (past : List Item) (is : IsPast b.items id moved past)
      → is.rest ≡ without (id ∷ []) b.items
  rest_is moved past is = is.removed.rest_is ∙ removed_is b.items is.removed.place is.item up is.removed.there
      ∙ ap (λ (x : ℕ). without (x ∷ []) b.items) is.id_is

  pub like_out : (past : List Item) → IsPast b.items id None past → TakesOut o id
      → IsLike b.design m o.net via_cost past (cleared b o)
  like_out past is takes = like_same b.design m o.net via_cost past (cleared b o)
      (is.put ∙ rest_is None past is ∙ sym (out_of b o id takes))

  -- and with it where it is moved to
  pub like_aside : (x : Item) (chain : List Point) (past : List Item) → Contains b.items x → x.id ≡ id
      → IsPast b.items id (Some (reshaped b.design id chain x)) past → MovesTo id chain o
      → IsLike b.design m o.net via_cost past (cleared b o)
  like_aside x chain past there id_is is moves =
      let d = b.design in
      let a = reshaped d id chain x in
      let rest = is.rest in
      let out = without (id ∷ []) b.items in
      let known : slice_get (given b) x.id ≡ Some x =
      All-contains (λ (y : Item). slice_get (given b) y.id ≡ Some y) b.items x
      (subst (λ (xs : List Item). All (λ (y : Item). slice_get (given b) y.id ≡ Some y) xs) kept.replays
      (kept.from_given (length b.history) (omega arith))) there in
      let item_is : item_at (given b) id ≡ x = ap (item_at (given b)) (sym id_is)
      ∙ get_or_from_slice_get (given b) x.id x _ known in
      let s : Shoved = record { id = id; chain = chain } in
      let next = length (given b) + length o.add in
      let at_end : cleared b o ≡ beside d out x chain next = moved_on b o s moves.no_rip moves.shoves_are
      ∙ ap (λ (y : Item). beside d out y chain next) item_is in
      like_on d m o.net via_cost past (rest ++ a ∷ []) (cleared b o)
      (like_among d m o.net via_cost past (rest ++ a ∷ []) (put_over rest past a is.put) (put_back rest past a is.put))
      (like_on d m o.net via_cost (rest ++ a ∷ []) (beside d out x chain id) (cleared b o)
      (like_same d m o.net via_cost (rest ++ a ∷ []) (beside d out x chain id)
      (ap (λ (ys : List Item). ys ++ a ∷ []) (rest_is (Some a) past is)))
      (like_on d m o.net via_cost (beside d out x chain id) (beside d out x chain next) (cleared b o)
      (like_ids d m o.net via_cost out x chain id next)
      (like_same d m o.net via_cost (beside d out x chain next) (cleared b o) (sym at_end))))
