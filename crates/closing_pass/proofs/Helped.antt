-- After a settled move that helps, fewer connections are open.
use Rattle.std.proofs.Common.{◌≡◌, ◌≢◌, ℕ, ◌<◌, ◌≤◌, List, [], ◌∷◌, ◌++◌, length, Some, sym, ap, ◌∙◌, subst}
use Rattle.std.proofs.Common.{inl, inr, false, arith, All}
use Rattle.std.specs.Prelude.{Contains, slice_get, remove}
use Rattle.std.proofs.lemmas.List.Elements.{All-append, All-cons, All-contains, All-nil, Contains-append_left}
use Rattle.std.proofs.lemmas.List.Elements.{Contains-append_right, Contains-get_or}
use Rattle.std.proofs.lemmas.Option.{same_Some, slice_get_within}
use Rattle.pcb_model.specs.declared.item.Item.{Item}
use Rattle.pcb_model.specs.declared.design.Design.{Design}
use Rattle.pcb_model.specs.Board.{AreJoined, LeadsTo}
use Rattle.pcb_model.specs.Copper.{Ascends}
use Rattle.pcb_model.specs.Sound.{Serves}
use Rattle.pcb_islands.specs.declared.net.Island.{Island}
use Rattle.pcb_islands.specs.Islands.{AreIslands, HasItemAt}
use Rattle.pcb_islands.proofs.Others.{item_net}
use Rattle.route_lattice.specs.Mesh.{Mesh}
use Rattle.board_offers.specs.declared.offer.Offer.{Offer}
use Rattle.board_offers.specs.Items.{added, gone, new_items, replaced, without}
use Rattle.board_offers.specs.Offers.{IsWellFormed}
use Rattle.pcb_board.specs.Boards.{BoardOf, given}
use Rattle.pcb_board.specs.Answers.{joined, known}
use Rattle.pcb_board.specs.Keeping.{IsBoard}
use Rattle.least_offer.specs.Least.{JoinsLeast}
use Rattle.closing_pass.specs.OpenCount.{IsOpenCount}
use Rattle.closing_pass.specs.Settled.{HasAtMost}
use Rattle.closing_pass.specs.inner.Steps.{GrowsBy}
use Rattle.closing_pass.proofs.Alike.{islands_alike, still_some}
use Rattle.closing_pass.proofs.Counts.{HasFallen, counts_fall}
use Rattle.closing_pass.proofs.Gate.{same_or_not}
use Rattle.closing_pass.proofs.Helping.{grown_back, grown_over, joined_back, joined_is, joined_over, rest_back}
use Rattle.closing_pass.proofs.Helping.{rest_over, rest_serves, rest_up}
use Rattle.closing_pass.proofs.Joining.{Falls, Single}
use Rattle.closing_pass.proofs.Places.{other_place}

module _ (m : Mesh) (via_cost : ℕ) (b c : BoardOf) (o : Offer) (x : Item) (n : ℕ) (falls : Falls) (single : Single)
    (kept : IsBoard b) (up : Ascends b.items) (serves : Serves b.items b.design) (serves_c : Serves c.items b.design)
    (there : Contains b.items x) (routed : x.fixed ≡ false) (net_is : x.net ≡ Some n) (apart : n ≢ o.net)
    (gone_is : gone o ≡ x.id ∷ []) (own : All (λ (a : Item). a.net ≡ Some n) (replaced b.design (given b) o))
    (grows : GrowsBy n (joined b o) c) where
  abbrev d : Design
  d = b.design

  abbrev rest : List Item
  rest = without (x.id ∷ []) b.items

  abbrev come : List Item
  come = new_items d (given b) o

  -- nets that are neither's keep their islands
  alike : (k : ℕ) → k ≢ n → k ≢ o.net → (found : List Island) → AreIslands d b.items k found
      → AreIslands d c.items k found
  alike k one two found are = islands_alike d b.items c.items k kept.sound serves serves_c
      (λ a of_net h. grown_over (joined b o) c n grows k a of_net
      (joined_over b o x n up there net_is gone_is own k one a of_net h))
      (λ a of_net h. joined_back b o x n up there net_is gone_is own k one two a of_net
      (grown_back (joined b o) c n grows k one a of_net h)) found are

  -- what is kept is there at the end
  joined_in : (a : Item) → Contains rest a → Contains (joined b o).items a
  joined_in a h = subst (λ (xs : List Item). Contains xs a)
      (sym (joined_is b o x n up there net_is gone_is own)) (Contains-append_left rest come a h)

  new_in : (a : Item) → Contains come a → Contains (joined b o).items a
  new_in a h = subst (λ (xs : List Item). Contains xs a)
      (sym (joined_is b o x n up there net_is gone_is own)) (Contains-append_right rest come a h)

  later_in : (a : Item) → Contains (joined b o).items a → Contains c.items a
  later_in a h = subst (λ (xs : List Item). Contains xs a) (sym grows.items_are)
      (Contains-append_left (joined b o).items grows.added a h)

  -- an item of the offer's net stays
  stays_in : (a : Item) → a.net ≡ Some o.net → Contains b.items a → Contains rest a
  stays_in a of_net h =
      rest_over b o x n up there net_is gone_is own o.net (λ e. apart (sym e)) a of_net h

  -- the offer's ends are joined
  linked : IsWellFormed (known b) o → (from to : Item) → Contains b.items from → from.id ≡ o.from
      → Contains b.items to → to.id ≡ o.to → to.net ≡ Some o.net → AreJoined c.items from to
  linked formed from to from_there from_is to_there to_is to_net =
      let across = formed.across in
      let known_as : (a : Item) → Contains b.items a → slice_get (given b) a.id ≡ Some a =
      λ a h. All-contains (λ (y : Item). slice_get (given b) y.id ≡ Some y) b.items a
      (subst (λ (xs : List Item). All (λ (y : Item). slice_get (given b) y.id ≡ Some y) xs) kept.replays
      (kept.from_given (length b.history) (omega arith))) h in
      let first : across.from ≡ from = same_Some _ _ (sym across.from_is
      ∙ ap (λ (y : ℕ). slice_get (given b) y) (sym from_is) ∙ known_as from from_there) in
      let last : across.to ≡ to = same_Some _ _ (sym across.to_is
      ∙ ap (λ (y : ℕ). slice_get (given b) y) (sym to_is) ∙ known_as to to_there) in
      let new = added d (given b) o in
      record {
        chain = new ++ to ∷ [];
        there = All-append (Contains c.items) new (to ∷ [])
            (λ k y within. later_in _ (new_in _ (Contains-append_left new (replaced d (given b) o) _
            (Contains-get_or new k y within))))
            (All-cons (Contains c.items) to [] (later_in to (joined_in to (stays_in to to_net to_there)))
            (All-nil (Contains c.items)));
        leads = subst (λ (p : Item × Item). LeadsTo p.0 (new ++ p.1 ∷ []) p.1) (λ i. (first i, last i)) across.leads;
      }

  module _ (found : List Island) (place : ℕ) (island : Island) (islands : AreIslands d b.items o.net found)
      (at : slice_get found place ≡ Some island) (formed : IsWellFormed (known b) o)
      (joins : JoinsLeast m via_cost b o island (remove found place)) where
    -- the offer's net has fewer islands
    net_falls : (later : List Island) → AreIslands d c.items o.net later → length later < length found
    net_falls later are =
        let from = joins.from_anchored in
        let to = joins.to_anchored in
        let other = other_place found place joins.other joins.other_there in
        let from_at : HasItemAt found place from.item.id = record {
          island = island;
          there = at;
          has = subst (λ (y : ℕ). Contains island.items y) (sym from.id_is) from.asked;
        } in
        let to_at : HasItemAt found other.place to.item.id = record {
          island = joins.other;
          there = other.there;
          has = subst (λ (y : ℕ). Contains joins.other.items y) (sym to.id_is) to.asked;
        } in
        let from_net = item_net d b.items o.net place found from.item kept.sound up islands from.there from_at in
        let to_net = item_net d b.items o.net other.place found to.item kept.sound up islands to.there to_at in
        let on_rest = islands_alike d b.items rest o.net kept.sound serves
        (rest_serves b x up there routed serves)
        (rest_over b o x n up there net_is gone_is own o.net (λ e. apart (sym e)))
        (rest_back b o x n up there net_is gone_is own o.net) found islands in
        falls d rest c.items o.net found later kept.sound (rest_serves b x up there routed serves)
        (rest_up b x up there routed serves) (λ a h. later_in a (joined_in a h)) on_rest are place other.place
        from.item to.item (stays_in from.item from_net from.there) (stays_in to.item to_net to.there) from_at to_at
        other.other
        (λ never. never (linked formed from.item to.item from.there from.id_is to.there to.id_is to_net))

    fallen : o.net < length d.nets → HasFallen d b.items c.items o.net
    fallen net_there = record {
      there = net_there;
      fewer = λ old new old_are new_are.
          let same : found ≡ old = single d b.items o.net found old kept.sound serves islands old_are in
          let less = net_falls new new_are in
          let within = slice_get_within found place island at in
          let long = ap (λ (xs : List Island). length xs) same in (
            omega (arith, less, long),
            still_some d b.items c.items o.net found new islands new_are (omega (arith, within)),
          );
    }

    -- no net has more
    never_more : (before : List Island) → AreIslands d b.items n before → HasAtMost d c.items n (length before)
        → (k : ℕ) (old new : List Island) → AreIslands d b.items k old → AreIslands d c.items k new
        → length new ≤ length old
    never_more before before_are few k old new old_are new_are = elim (same_or_not k n) [
      | inl e ↦
          let old_n = subst (λ (i : ℕ). AreIslands d b.items i old) e old_are in
          let new_n = subst (λ (i : ℕ). AreIslands d c.items i new) e new_are in
          let one : before ≡ old = single d b.items n before old kept.sound serves before_are old_n in
          let two : few.found ≡ new = single d c.items n few.found new kept.sound serves_c few.islands new_n in
          let long_one = ap (λ (xs : List Island). length xs) one in
          let long_two = ap (λ (xs : List Island). length xs) two in
          omega (arith, few.few, long_one, long_two)
      | inr one ↦ elim (same_or_not k o.net) [
        | inl e ↦
            let old_o = subst (λ (i : ℕ). AreIslands d b.items i old) e old_are in
            let new_o = subst (λ (i : ℕ). AreIslands d c.items i new) e new_are in
            let same : found ≡ old = single d b.items o.net found old kept.sound serves islands old_o in
            let less = net_falls new new_o in
            let long = ap (λ (xs : List Island). length xs) same in
            omega (arith, less, long)
        | inr two ↦
            let same : old ≡ new = single d c.items k old new kept.sound serves_c (alike k one two old old_are) new_are
            in
            let long = ap (λ (xs : List Island). length xs) same in
            omega (arith, long)
      ]
    ]

    pub fewer_open : o.net < length d.nets → (before : List Island) → AreIslands d b.items n before
        → HasAtMost d c.items n (length before) → (i k : ℕ) → IsOpenCount d b.items i → IsOpenCount d c.items k → k < i
    fewer_open net_there before before_are few i k old new =
        counts_fall d b.items c.items i k old new (never_more before before_are few) o.net (fallen net_there)
