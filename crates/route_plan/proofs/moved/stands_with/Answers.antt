use Rattle.std.proofs.Common.{◌↔◌, refl, subst, IsTrue}
use Rattle.std.proofs.lemmas.Bool.{false≢true}
use Rattle.pcb_model.specs.Pairs.{Agrees}
use Rattle.route_lattice.specs.Ground.{GroundOf}
use Rattle.shove.proofs.Touching.{unless}
use Rattle.route_plan.proofs.Standing.{stand, agree_so, touch_so}
use Rattle.route_plan.proofs.moved.stands_with.Goals as goal

pub are_touching-requires-clause-a_fits : goal.are_touching-requires-clause-a_fits
are_touching-requires-clause-a_fits g c = c.in-Some.ensures.2.fits

pub are_touching-requires-clause-b_fits : goal.are_touching-requires-clause-b_fits
are_touching-requires-clause-b_fits g c = c.in-Some-item.ensures.2.fits

pub returns-then-not-are_touching : goal.returns-then-not-are_touching
returns-then-not-are_touching g c =
    let items = c.args.on.now.items in
    let agrees = subst (λ (y : GroundOf). IsTrue c.agree.result ↔ Agrees y.d c.args.a.now c.args.b.now) c.on.view_is
    c.agree.ensures in (
      λ t. stand c.args.on.now.d items c.in_order.ensures.ascends c.args.a.now c.args.b.now c.in-Some.a_was.now
          c.in-Some-item.b_was.now c.requires.a_moved c.requires.b_moved
          c.in-Some.ensures.0 c.in-Some.ensures.1 c.in-Some-item.ensures.0 c.in-Some-item.ensures.1
          (agrees.0 c.if-not-agree.false)
          (λ touch. absurd (unless c.are_touching.result _ c.are_touching.ensures c.if-not-are_touching.true touch)),
      λ h. refl,
    )

pub returns : goal.returns
returns g c =
    let items = c.args.on.now.items in
    let agrees = subst (λ (y : GroundOf). IsTrue c.agree.result ↔ Agrees y.d c.args.a.now c.args.b.now) c.on.view_is
    c.agree.ensures in (
      λ t. stand c.args.on.now.d items c.in_order.ensures.ascends c.args.a.now c.args.b.now c.in-Some.a_was.now
          c.in-Some-item.b_was.now c.requires.a_moved c.requires.b_moved
          c.in-Some.ensures.0 c.in-Some.ensures.1 c.in-Some-item.ensures.0 c.in-Some-item.ensures.1
          (agrees.0 c.if-not-agree.false)
          (λ touch. c.are_touching-2.ensures.0 t),
      λ h. c.are_touching-2.ensures.1
          (touch_so c.args.on.now.d items c.in_order.ensures.ascends c.args.a.now c.args.b.now
          c.in-Some.a_was.now c.in-Some-item.b_was.now c.requires.a_moved c.requires.b_moved
          c.in-Some.ensures.0 c.in-Some.ensures.1 c.in-Some-item.ensures.0 c.in-Some-item.ensures.1 h
          (c.are_touching.ensures.0 c.if-not-are_touching.false)),
    )

pub agree-requires-clause-a_fits : goal.agree-requires-clause-a_fits
agree-requires-clause-a_fits g c = c.requires.a_moved.fits

pub agree-requires-clause-b_fits : goal.agree-requires-clause-b_fits
agree-requires-clause-b_fits g c = c.requires.b_moved.fits

pub are_touching-requires-2-clause-a_fits : goal.are_touching-requires-2-clause-a_fits
are_touching-requires-2-clause-a_fits g c = c.requires.a_moved.fits

pub are_touching-requires-2-clause-b_fits : goal.are_touching-requires-2-clause-b_fits
are_touching-requires-2-clause-b_fits g c = c.requires.b_moved.fits

pub returns-then-not-agree : goal.returns-then-not-agree
returns-then-not-agree g c =
    let items = c.args.on.now.items in
    let agrees = subst (λ (y : GroundOf). IsTrue c.agree.result ↔ Agrees y.d c.args.a.now c.args.b.now) c.on.view_is
    c.agree.ensures in (
      λ t. absurd (false≢true t),
      λ h. absurd (unless c.agree.result _ agrees c.if-not-agree.true
          (agree_so c.args.on.now.d items c.in_order.ensures.ascends c.args.a.now c.args.b.now c.in-Some.a_was.now
          c.in-Some-item.b_was.now c.requires.a_moved c.requires.b_moved c.in-Some.ensures.0 c.in-Some.ensures.1
          c.in-Some-item.ensures.0 c.in-Some-item.ensures.1 h)),
    )
