-- Copper without an item: no other item has its id, so another may be put in with it.
use Rattle.std.proofs.Common.{◌≡◌, ◌∙◌, ℕ, ◌<◌, List, [], ◌∷◌, Option, Some, None, refl, sym, ap, subst, inl, inr}
use Rattle.std.proofs.Common.{arith, false, get_or, unwrap_or}
use Rattle.std.specs.Prelude.{Contains, IfSome, slice_get, remove}
use Rattle.std.proofs.lemmas.List.Elements.{All-contains, Contains-get_or}
use Rattle.std.proofs.lemmas.Option.{slice_get_within, unwrap_or-slice_get}
use Rattle.pcb_model.specs.declared.item.Item.{Item}
use Rattle.pcb_model.specs.declared.design.Design.{Design}
use Rattle.pcb_model.specs.Bounds.{HasClearancesWithin}
use Rattle.pcb_model.specs.Copper.{Ascends, Removes}
use Rattle.pcb_model.specs.Sound.{IsItemOf, Serves}
use Rattle.pcb_islands.proofs.Joined.{one_item}
use Rattle.pcb_islands.proofs.Touches.{below_or_same}
use Rattle.pcb_tiles.specs.Spread.{Loses, ServesSpread, Spread}
use Rattle.copper_change.specs.Changes.{IsChange}
use Rattle.route_lattice.specs.Mesh.{Mesh}
use Rattle.move_maps.specs.declared.map.GroupMap.{GroupMap}
use Rattle.move_maps.specs.Maps.{AreMapsOf, FollowFrom}
use Rattle.pcb_board.specs.Boards.{BoardOf, SnapOf}
use Rattle.pcb_board.specs.Answers.{snap_of}
use Rattle.pcb_board.specs.Keeping.{IsBoard}
use Rattle.route_plan.specs.declared.mapped.MappedSnap.{MappedSnap}
use Rattle.route_plan.specs.Mapped.{IsMapped}
use Rattle.closing_pass.specs.Closing.{CanClose}
use Rattle.closing_pass.specs.inner.Rooms.{CanPut, CanReplaceId, HasPut, IfPut, IsRoom, IsRoomOf, MakesRoom, listed}
use Rattle.closing_pass.proofs.Past.{removed_at, removed_in}
use Rattle.closing_pass.proofs.Places.{other_place}
use Rattle.closing_pass.proofs.Rooming.{change_home, change_past, put_serves, unfixed_out}

-- of two places the earlier has the lesser id
less_at : (items : List Item) (i j : ℕ) (a b : Item) → Ascends items → slice_get items i ≡ Some a
    → slice_get items j ≡ Some b → i < j → a.id < b.id
less_at items i j a b up at bt less =
    let one : get_or items i a ≡ a = sym (unwrap_or-slice_get items i a) ∙ ap (λ (o : Option Item). unwrap_or o a) at
    in
    let two : get_or items j a ≡ b = sym (unwrap_or-slice_get items j a) ∙ ap (λ (o : Option Item). unwrap_or o a) bt
    in
    subst (λ (x : Item). x.id < b.id) one
    (subst (λ (x : Item). (get_or items i a).id < x.id) two (up i j a less (slice_get_within items j b bt)))

-- an item that is left has another id
left_apart : (items rest : List Item) (x b : Item) → Ascends items → Removes items x rest → Contains rest b
    → b.id ≡ x.id → ⊥
left_apart items rest x b up r there same =
    let o = other_place items r.place b (subst (λ (ys : List Item). Contains ys b) r.rest_is there) in
    elim (below_or_same r.place o.place) [
      | inl h ↦ absurd (let l = less_at items r.place o.place x b up r.there o.there h in omega (arith, l, same))
      | inr n ↦ elim n [
        | inl h ↦ absurd (let l = less_at items o.place r.place b x up o.there r.there h in omega (arith, l, same))
        | inr e ↦ absurd (o.other e)
      ]
    ]

-- so an item with its id may be put in
pub can_put : (d : Design) (items rest : List Item) (x : Item) (id : ℕ) (moved : Option Item) → Ascends items
    → Removes items x rest → x.id ≡ id → IfSome moved (CanReplaceId d id) → CanPut rest moved
can_put d items rest x id None up r is fits = tt
can_put d items rest x id (Some a) up r is fits = (
  λ k e within same. left_apart items rest x (get_or rest k e) up r (Contains-get_or rest k e within)
      (same ∙ fits.id_is ∙ sym is),
  fits.fits.fits,
)

-- what is left serves the design
out_serves : (d : Design) (items rest : List Item) (x : Item) → Removes items x rest → x.fixed ≡ false
    → Serves items d → Serves rest d
out_serves d items rest x r routed serves =
    subst (λ (ys : List Item). Serves ys d) (sym r.rest_is) (record {
      design_fits = serves.design_fits;
      fixed_there = unfixed_out items r.place x r.there routed ∙ serves.fixed_there;
      items_fit = λ k e within. All-contains (IsItemOf d) items (get_or (remove items r.place) k e) serves.items_fit
          (removed_in items r.place (get_or (remove items r.place) k e)
          (Contains-get_or (remove items r.place) k e within));
    })

-- ---- what was put in
put_items : (moved : Option Item) (rest past : Spread) (come : List Item) → HasPut rest past moved come
    → IfPut rest.items moved past.items
put_items None rest past come h = ap (λ (t : Spread). t.items) h.0
put_items (Some a) rest past come h = h.2

put_listed : (moved : Option Item) (rest past : Spread) (come : List Item) → HasPut rest past moved come
    → come ≡ listed moved
put_listed None rest past come h = h.1
put_listed (Some a) rest past come h = h.3

put_reach : (moved : Option Item) (rest past : Spread) (come : List Item) → HasPut rest past moved come
    → past.reach ≡ rest.reach
put_reach None rest past come h = ap (λ (t : Spread). t.reach) h.0
put_reach (Some a) rest past come h = h.1

-- the tiles of the board without the item, and with another in its place
module _ (b : BoardOf) (id : ℕ) (moved : Option Item) (tiles rest past : Spread) (x : Item) (gone come : List Item)
    (up : Ascends tiles.items) (serves : ServesSpread tiles b.design) (items_is : tiles.items ≡ b.items)
    (id_is : x.id ≡ id) (loses : Loses tiles x rest) (makes : MakesRoom b id moved) where
  routed_out : x.fixed ≡ false
  routed_out =
      let there = subst (λ (ys : List Item). Contains ys makes.item) (sym items_is) makes.there in
      let mine = removed_at tiles.items loses.items.place x loses.items.there in
      let same : x ≡ makes.item = one_item tiles.items up x makes.item mine there (id_is ∙ sym makes.id_is) in
      ap (λ (y : Item). y.fixed) same ∙ makes.routed

  pub room_of : HasPut rest past moved come → gone ≡ x ∷ [] → IsRoomOf b id moved past gone come
  room_of put gone_is = record {
    serves = record {
      serves = put_serves b.design rest.items past.items id moved
          (out_serves b.design tiles.items rest.items x loses.items routed_out serves.serves)
          (put_items moved rest past come put) makes.moved_fits;
      reaches = subst (λ (k : ℕ). HasClearancesWithin k b.design)
          (sym (put_reach moved rest past come put ∙ loses.same_reach)) serves.reaches;
    };
    past = record {
      item = x;
      id_is = id_is;
      rest = rest.items;
      removed = subst (λ (ys : List Item). Removes ys x rest.items) items_is loses.items;
      put = put_items moved rest past come put;
    };
    gone_is = gone_is;
    come_is = put_listed moved rest past come put;
  }

-- ---- maps of the moves on it
module _ (d : Design) (m : Mesh) (b : BoardOf) (mapped : MappedSnap) (id : ℕ) (moved : Option Item) (tiles : Spread)
    (gone come : List Item) (d_is : d ≡ b.design) (serves : Serves b.items b.design)
    (is : IsMapped m (snap_of b) mapped) (room : IsRoomOf b id moved tiles gone come) where
  -- those of the board may follow there
  pub follows_there : FollowFrom d m gone come tiles.items mapped.maps
  follows_there = subst (λ (e : Design). FollowFrom e m gone come tiles.items mapped.maps) (sym d_is) (record {
    old = b.items;
    fit = serves.items_fit;
    maps_are = is.maps_are;
    change = subst (λ (p : List Item × List Item). IsChange b.items p.0 p.1 tiles.items)
        (λ i. (sym room.gone_is i, sym room.come_is i)) (change_past b.items tiles.items id moved room.past);
  })

  -- what is mapped there
  pub is_room : (via_cost : ℕ) (maps : List GroupMap) → IsBoard b → CanClose m via_cost b.design
      → AreMapsOf d m tiles.items maps → IsRoom d m via_cost mapped.snap tiles maps gone come
  is_room via_cost maps kept can maps_are = subst (λ (s : SnapOf). IsRoom d m via_cost s tiles maps gone come)
      (sym is.snap_is)
      (subst (λ (e : Design). IsRoom e m via_cost (snap_of b) tiles maps gone come) (sym d_is) (record {
        sound = kept.sound;
        fits = can.fits;
        small_cost = can.small_cost;
        own = refl;
        serves_snap = serves;
        serves = room.serves;
        maps_are = subst (λ (e : Design). AreMapsOf e m tiles.items maps) d_is maps_are;
        back = subst (λ (p : List Item × List Item). IsChange tiles.items p.1 p.0 b.items)
            (λ i. (sym room.gone_is i, sym room.come_is i)) (change_home b.items tiles.items id moved room.past);
      }))
