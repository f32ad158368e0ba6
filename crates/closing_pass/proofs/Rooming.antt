-- Copper without an item, and with another in its place: what changed there, and back.
use Rattle.std.proofs.Common.{◌≡◌, ℕ, zero, suc, List, [], ◌∷◌, Option, Some, None, refl, sym}
use Rattle.std.proofs.Common.{ap, subst, inl, inr, arith, ◌∙◌, Bool, false, cond, All}
use Rattle.std.specs.Prelude.{IfSome, filter, slice_get, remove}
use Rattle.std.proofs.lemmas.List.Elements.{All-cons, All-head, All-tail}
use Rattle.std.proofs.lemmas.Option.{slice_get_within, same_Some}
use Rattle.pcb_model.specs.declared.item.Item.{Item}
use Rattle.pcb_model.specs.declared.design.Design.{Design}
use Rattle.pcb_model.specs.Board.{is_fixed}
use Rattle.pcb_model.specs.Copper.{Removes}
use Rattle.pcb_model.specs.Sound.{IsItemOf, Serves}
use Rattle.pcb_tiles.specs.Spread.{Spread}
use Rattle.copper_change.specs.Changes.{IsMerge, IsChange}
use Rattle.route_lattice.specs.Mesh.{Mesh}
use Rattle.route_lattice.specs.Legal.{legal_graph}
use Rattle.cut_certificate.specs.Same.{SameMoves}
use Rattle.cut_certificate.proofs.Same.{same_self}
use Rattle.pcb_board.specs.Boards.{SnapOf}
use Rattle.closing_pass.specs.inner.Rooms.{CanReplaceId, IfPut, IsPast, RoomOf, listed}

-- nothing, and a list
merge_none : {X : Type 0} (xs : List X) → IsMerge [] xs xs
merge_none [] = (refl, refl)
merge_none (x ∷ xs) = inr (xs, refl, merge_none xs)

-- an element, and the list without it
merge_one : {X : Type 0} (xs : List X) (k : ℕ) (x : X) → slice_get xs k ≡ Some x → IsMerge (x ∷ []) (remove xs k) xs
merge_one {X} [] k x at = absurd (let w = slice_get_within {A = X} [] k x at in omega (arith, w))
merge_one {X} (y ∷ xs) zero x at =
    let same : y ≡ x = same_Some y x at in
    inl ([], ap (λ (z : X). z ∷ []) (sym same), merge_none xs)
merge_one (y ∷ xs) (suc k) x at = inr (remove xs k, refl, merge_one xs k x at)

removed_merge : (items rest : List Item) (a : Item) → Removes items a rest → IsMerge (a ∷ []) rest items
removed_merge items rest a r =
    subst (λ (xs : List Item). IsMerge (a ∷ []) xs items) (sym r.rest_is) (merge_one items r.place a r.there)

put_merge : (rest past : List Item) (moved : Option Item) → IfPut rest moved past → IsMerge (listed moved) rest past
put_merge rest past None put = subst (λ (xs : List Item). IsMerge [] rest xs) (sym put) (merge_none rest)
put_merge rest past (Some a) put = removed_merge past rest a put

module _ (items past : List Item) (id : ℕ) (moved : Option Item) (is : IsPast items id moved past) where
  -- the item went, and what was put in its place came
  pub change_past : IsChange items (is.item ∷ []) (listed moved) past
  change_past = record {
    kept = is.rest;
    before = removed_merge items is.rest is.item is.removed;
    after = put_merge is.rest past moved is.put;
  }

  -- and back
  pub change_home : IsChange past (listed moved) (is.item ∷ []) items
  change_home = record {
    kept = is.rest;
    before = put_merge is.rest past moved is.put;
    after = removed_merge items is.rest is.item is.removed;
  }

-- ---- the design's fixed items, and what fits it
-- an item that isn't fixed
pub unfixed_out : (xs : List Item) (k : ℕ) (a : Item) → slice_get xs k ≡ Some a → a.fixed ≡ false
    → filter is_fixed (remove xs k) ≡ filter is_fixed xs
unfixed_out [] k a at off = absurd (let w = slice_get_within {A = Item} [] k a at in omega (arith, w))
unfixed_out (y ∷ xs) zero a at off =
    let same : y ≡ a = same_Some y a at in
    let mine : y.fixed ≡ false = ap (λ (z : Item). z.fixed) same ∙ off in
    sym (ap (λ (t : Bool). cond t (y ∷ filter is_fixed xs) (filter is_fixed xs)) mine)
unfixed_out (y ∷ xs) (suc k) a at off =
    ap (λ (zs : List Item). cond y.fixed (y ∷ zs) zs) (unfixed_out xs k a at off)

all_with : (P : Item → Type 0) (xs : List Item) (k : ℕ) (a : Item) → slice_get xs k ≡ Some a → P a
    → All P (remove xs k) → All P xs
all_with P [] k a at p all = absurd (let w = slice_get_within {A = Item} [] k a at in omega (arith, w))
all_with P (y ∷ xs) zero a at p all = All-cons P y xs (subst P (sym (same_Some y a at)) p) all
all_with P (y ∷ xs) (suc k) a at p all =
    All-cons P y xs (All-head P y (remove xs k) all) (all_with P xs k a at p (All-tail P y (remove xs k) all))

-- an item that is put in serves the design
pub put_serves : (d : Design) (rest past : List Item) (id : ℕ) (moved : Option Item) → Serves rest d
    → IfPut rest moved past → IfSome moved (CanReplaceId d id) → Serves past d
put_serves d rest past id None serves put fits = subst (λ (xs : List Item). Serves xs d) (sym put) serves
put_serves d rest past id (Some a) serves put fits = record {
  design_fits = serves.design_fits;
  fixed_there = sym (unfixed_out past put.place a put.there fits.routed)
      ∙ ap (filter is_fixed) (sym put.rest_is) ∙ serves.fixed_there;
  items_fit = all_with (IsItemOf d) past put.place a put.there fits.fits
      (subst (All (IsItemOf d)) put.rest_is serves.items_fit);
}

-- the moves that are asked in a room are those on its copper
pub same_room : (d : Design) (m : Mesh) (snap : SnapOf) (tiles : Spread) (via_cost : ℕ) (room : RoomOf) (d1 : Design)
    (m1 : Mesh) (tiles1 : Spread) (net1 via_cost1 net : ℕ) → d1 ≡ d → m1 ≡ m → tiles1 ≡ tiles → net1 ≡ net
    → via_cost1 ≡ via_cost
    → record { d = d; lat = m; snap = snap; items = tiles.items; via_cost = via_cost } ≡ room
    → SameMoves (legal_graph d1 m1 tiles1.items net1 via_cost1)
    (legal_graph room.d room.lat room.items net room.via_cost)
same_room d m snap tiles via_cost room d1 m1 tiles1 net1 via_cost1 net d_is m_is tiles_is net_is cost_is is =
    let own = legal_graph d m tiles.items net via_cost in
    subst (λ (y : RoomOf). SameMoves (legal_graph d1 m1 tiles1.items net1 via_cost1)
    (legal_graph y.d y.lat y.items net y.via_cost)) is
    (subst (λ (y : Design × Mesh × Spread × ℕ × ℕ). SameMoves (legal_graph y.0 y.1 y.2.items y.3 y.4) own)
    (λ i. (sym d_is i, sym m_is i, sym tiles_is i, sym net_is i, sym cost_is i)) (same_self own))
