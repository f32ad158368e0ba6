-- What touches a rib does so still where copper comes behind the ribs.
use Rattle.std.proofs.Common.{◌≡◌, ℕ, suc, ◌<◌, ◌≤◌, ◌+◌, arith, refl, sym, ap, ◌∙◌, subst, Bool, List, [], ◌∷◌, ◌++◌}
use Rattle.std.proofs.Common.{length, ◌⊎◌, inl, inr, All, Contains, Option, Some, None}
use Rattle.std.specs.Prelude.{slice_get}
use Rattle.std.proofs.lemmas.List.{append-nil}
use Rattle.std.proofs.lemmas.List.Elements.{All-cons, All-contains, All-nil, Contains-append_cases}
use Rattle.std.proofs.lemmas.List.Elements.{Contains-append_left}
use Rattle.pcb_model.specs.declared.item.Item.{Item}
use Rattle.pcb_model.specs.declared.item.Metal.{Metal}
use Rattle.pcb_model.specs.declared.item.Probe.{Probe}
use Rattle.pcb_model.specs.declared.design.Design.{Design}
use Rattle.route_lattice.specs.Legal.{probe_at}
use Rattle.path_wire.specs.Lays.{laid_item}
use Rattle.plane_joins.specs.Stubs.{RibGround, Touches, TouchesRib, TriesPin, laid_from, with_items}
use Rattle.plane_stubs.specs.inner.Landings.{AreLandings, IsLandingRow}

-- ---- what comes, with ids past the ribs'
pub record Grows (g : RibGround) (after : List Item) : Type 0 where
  pub more : List Item
  pub is : after ≡ g.items ++ more
  pub past : All (λ (b : Item). g.last ≤ b.id) more

pub laid_past : (d : Design) (net last id : ℕ) (metals : List Metal) → last ≤ id
    → All (λ (b : Item). last ≤ b.id) (laid_from d net id metals)
laid_past d net last id [] h = All-nil (λ (b : Item). last ≤ b.id)
laid_past d net last id (a ∷ as') h =
    All-cons (λ (b : Item). last ≤ b.id) (laid_item d net id a) (laid_from d net (id + 1) as') h
    (laid_past d net last (id + 1) as' (omega (arith, h)))

stays : (g : RibGround) → Grows g g.items
stays g = record { more = []; is = sym (append-nil g.items); past = All-nil (λ (b : Item). g.last ≤ b.id) }

pub pin_grows : (g : RibGround) (net pin : ℕ) (after : List Item) → g.last ≤ length g.items → TriesPin g net pin after
    → Grows g after
pin_grows g net pin after h (TriesPin.inside found are none) = stays g
pin_grows g net pin after h (TriesPin.served found s are there begins served) = stays g
pin_grows g net pin after h (TriesPin.stub found s metals are there begins none is) = record {
  more = laid_from g.d net (length g.items) metals;
  is = refl;
  past = laid_past g.d net g.last (length g.items) metals h;
}

-- ---- what touches a rib does so still, and nothing else does
module _ (g : RibGround) (more : List Item) (behind : All (λ (b : Item). g.last ≤ b.id) more) where
  abbrev later : RibGround
  later = with_items g (g.items ++ more)

  touch_before : (net : ℕ) (p : Probe) → TouchesRib later net p → TouchesRib g net p
  touch_before net p h = record {
    rib = h.rib;
    there = by (Contains-append_cases g.items more h.rib h.there);
    from_first = h.from_first;
    below_last = h.below_last;
    touch = h.touch;
  }
    where
      by : Contains g.items h.rib ⊎ Contains more h.rib → Contains g.items h.rib
      by (inl there) = there
      by (inr there) =
          let past = All-contains (λ (b : Item). g.last ≤ b.id) more h.rib behind there in
          let before = h.below_last in
          absurd (omega (arith, past, before))

  touch_after : (net : ℕ) (p : Probe) → TouchesRib g net p → TouchesRib later net p
  touch_after net p h = record {
    rib = h.rib;
    there = Contains-append_left g.items more h.rib h.there;
    from_first = h.from_first;
    below_last = h.below_last;
    touch = h.touch;
  }

  touches_before : (net : ℕ) (o : Option Probe) → Touches later net o → Touches g net o
  touches_before net None h = h
  touches_before net (Some p) h = touch_before net p h

  touches_after : (net : ℕ) (o : Option Probe) → Touches g net o → Touches later net o
  touches_after net None h = h
  touches_after net (Some p) h = touch_after net p h

-- ---- the table is that of the later copper
pub landings_later : (g : RibGround) (net : ℕ) (rows : List (List Bool)) (after : List Item) → Grows g after
    → AreLandings g net rows → AreLandings (with_items g after) net rows
landings_later g net rows after grows h =
    subst (λ (xs : List Item). AreLandings (with_items g xs) net rows) (sym grows.is) (record {
      count = h.count;
      each = λ k row at. later k row (h.each k row at);
    })
  where
    later : (k : ℕ) (row : List Bool) → IsLandingRow g net (4 + k) row
        → IsLandingRow (with_items g (g.items ++ grows.more)) net (4 + k) row
    later k row r = record {
      count = r.count;
      each = λ v b at. let e = r.each v b at in (
        λ t. touches_after g grows.more grows.past net (probe_at g.d g.lat net v (4 + k)) (e.0 t),
        λ t. e.1 (touches_before g grows.more grows.past net (probe_at g.d g.lat net v (4 + k)) t),
      );
    }
