use Rattle.std.proofs.Common.{◌∙◌, ℕ, List, sym, subst, true≢false}
use Rattle.std.specs.List.Sorted.{IsStrictlyIncreasing}
use Rattle.pcb_model.specs.declared.design.Design.{Design}
use Rattle.cut_certificate.specs.Cuts.{AreGoals}
use Rattle.cut_certificate.specs.Goals.{Meets}
use Rattle.wide_pass.proofs.Sizing.{Reaches, leads_there, reached_size}
use Rattle.wide_pass.proofs.join.WideCloser.size_of.Goals as goal

pub meets-led-requires : goal.meets-led-requires
meets-led-requires c = subst IsStrictlyIncreasing (sym c.as_slice.ensures) c.in_ok-reach.ensures.ascends

pub returns-then-led : goal.returns-then-led
returns-then-led c = λ island has.
    let met : Meets c.in_ok-reach.reach.nodes c.in-Ok.goals =
    subst (λ (p : List ℕ × List ℕ). Meets p.0 p.1) (λ i. (c.as_slice.ensures i, c.as_slice-2.ensures i))
    (c.meets-led.ensures.0 c.if-led.true) in
    leads_there c.args.snap.now.design c.args.self.now.lat.now c.args.self.now.via_cost c.args.snap.now.items
    c.args.net island c.args.others.now c.args.cut.now c.in_ok-reach.reach.nodes c.in-Ok.goals has
    (subst (λ (d : Design). AreGoals d c.args.self.now.lat.now c.args.snap.now.items c.args.others.now c.in-Ok.goals)
    c.design-d.ensures c.in-Ok.ensures)
    (subst (λ (d : Design). Reaches d c.args.self.now.lat.now c.args.snap.now.items c.args.net
    c.args.self.now.via_cost c.args.cut.now.reach.nodes c.in_ok-reach.reach.nodes) c.design-d.ensures
    c.in_ok-reach.ensures.whole) met

pub returns : goal.returns
returns c = λ island has.
    reached_size c.args.snap.now.design c.args.self.now.lat.now c.args.self.now.via_cost c.args.snap.now.items
    c.args.net island c.args.others.now c.args.cut.now c.in_ok-reach.reach.nodes c.in-Ok.goals has
    (subst (λ (d : Design). AreGoals d c.args.self.now.lat.now c.args.snap.now.items c.args.others.now c.in-Ok.goals)
    c.design-d.ensures c.in-Ok.ensures)
    (subst (λ (d : Design). Reaches d c.args.self.now.lat.now c.args.snap.now.items c.args.net
    c.args.self.now.via_cost c.args.cut.now.reach.nodes c.in_ok-reach.reach.nodes) c.design-d.ensures
    c.in_ok-reach.ensures.whole)
    (λ met. true≢false (sym (c.meets-led.ensures.1 (subst (λ (p : List ℕ × List ℕ). Meets p.0 p.1)
    (λ i. (sym c.as_slice.ensures i, sym c.as_slice-2.ensures i)) met)) ∙ c.if-led.false))
    c.len-size.result c.len-size.ensures
