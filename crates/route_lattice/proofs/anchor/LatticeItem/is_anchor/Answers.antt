use Rattle.std.proofs.Common.{◌≡◌, ◌↔◌, ◌<◌, length, sym, subst, ap, ◌∙◌, IsTrue, rules, tests}
use Rattle.std.specs.Prelude.{slice_get}
use Rattle.std.specs.Option.{IsSomeAnd}
use Rattle.geo_kernel.specs.declared.point.Point.{Point}
use Rattle.pcb_model.specs.declared.item.Metal.{Metal}
use Rattle.pcb_model.specs.declared.design.Pin.{Pin}
use Rattle.pcb_model.specs.Scale.{scale_of}
use Rattle.pcb_model.specs.Sound.{IsMetalInRange}
use Rattle.route_lattice.specs.Anchors.{rounded, IsAnchorOf}
use Rattle.route_lattice.specs.Found.{LatticeItemOf}
use Rattle.route_lattice.proofs.Gets.{one_value}
use Rattle.route_lattice.proofs.anchor.LatticeItem.is_anchor.Goals as goal

pub pin_anchor-requires : goal.pin_anchor-requires
pin_anchor-requires c =
    subst (λ (s : LatticeItemOf). c.in-Pad.pin < length s.d.pins) c.self.view_is
    (subst (IsMetalInRange c.self.inside.d.now) c.in-Pad.is c.self.invariant.item_fits.metal_in_range)

pub returns-in-Pad : goal.returns-in-Pad
returns-in-Pad c =
    let d = c.args.self.now.d in let pin = c.in-Pad.pin in
    let M : Metal → Type 0 = λ x. IsAnchorOf d x c.args.p in
    let same : IsTrue c.eq-in-Pad.result ↔ (c.pin_anchor.result ≡ c.args.p) = search (rules, tests) in
    let metal = ap (λ (s : LatticeItemOf). s.item.metal) (sym c.self.view_is) ∙ c.in-Pad.is in
    let at = c.pin_anchor.ensures in (
      λ t. subst M (sym metal)
          (subst (λ (p : Point). IsSomeAnd (slice_get d.pins pin)
          (λ (q : Pin). rounded (scale_of d).nm q.centre ≡ p)) (same.0 t) at),
      λ h. same.1 (one_value (λ (q : Pin). rounded (scale_of d).nm q.centre) (slice_get d.pins pin) c.pin_anchor.result
          c.args.p at (subst M metal h)),
    )
