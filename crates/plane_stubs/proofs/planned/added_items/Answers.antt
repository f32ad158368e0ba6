use Rattle.std.proofs.Common.{◌+◌, List, length, ap, ap₂, ℕ, subst, sym}
use Rattle.pcb_model.specs.declared.item.Item.{Item}
use Rattle.plane_joins.specs.declared.area.PlaneArea.{PlaneArea}
use Rattle.plane_joins.specs.Ribs.{AreRibs}
use Rattle.plane_stubs.proofs.planned.added_items.Goals as goal

pub with_stubs-requires-clause-follow : goal.with_stubs-requires-clause-follow
with_stubs-requires-clause-follow c =
    (c.ribs_hold.ensures c.args.d.now c.args.planes.now c.in_ok-found.found c.requires.sound c.requires.planes
    c.in_ok-found.ensures.0).follow

pub with_stubs-requires-clause-ribs : goal.with_stubs-requires-clause-ribs
with_stubs-requires-clause-ribs c =
    subst (λ (planes : List PlaneArea). AreRibs c.args.d.now planes c.in_ok-found.found) (sym c.as_slice-3.ensures)
    c.in_ok-found.ensures.0

pub with_stubs-requires-clause-first : goal.with_stubs-requires-clause-first
with_stubs-requires-clause-first c = ap (λ (xs : List Item). length xs) c.as_slice.ensures

pub with_stubs-requires-clause-last : goal.with_stubs-requires-clause-last
with_stubs-requires-clause-last c =
    ap₂ (λ (a b : ℕ). a + b) (ap (λ (xs : List Item). length xs) c.as_slice.ensures)
    (ap (λ (xs : List Item). length xs) c.as_slice-2.ensures)
