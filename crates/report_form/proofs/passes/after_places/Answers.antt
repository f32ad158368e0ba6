use Rattle.std.proofs.Common.{◌≡◌, ◌<◌, ◌-◌, ◌^◌, ℕ, length, subst, arith, rules}
use Rattle.std.specs.Prelude.{codes}
use Rattle.report_form.proofs.Loops.{places_stop, places_on, places_all, capped_below, one_shorter}
use Rattle.report_form.proofs.passes.after_places.Goals as goal

pub returns-in-None : goal.returns-in-None
returns-in-None c = λ p h page at e.
    places_stop p h c.loop-taken._taken c.loop-taken.rest.now (c.loop-taken.invariant.read p h page at e)
    (capped_below c.loop-taken._taken h.dropped (subst (λ (n : ℕ). c.loop-taken._taken < n) e c.loop-taken-test.true))
    c.in-None.ensures

pub loop-taken-preserved : goal.loop-taken-preserved
loop-taken-preserved c =
    let gone = one_shorter (codes "drop ") c.in-Some.field-0-0.now c.in-Some.next.now c.loop-taken.rest.now
    c.in-Some.ensures in record {
      read = λ p h page at e. places_on p h c.loop-taken._taken c.in-Some.field-0-0.now c.loop-taken.rest.now
          c.in-Some.next.now page (c.loop-taken.invariant.read p h page at e)
          (capped_below c.loop-taken._taken h.dropped
          (subst (λ (n : ℕ). c.loop-taken._taken < n) e c.loop-taken-test.true)) c.in-Some.ensures;
      shorter = omega (arith, gone, c.loop-taken.invariant.shorter);
    }

pub returns : goal.returns
returns c = λ p h page at e.
    let few : length c.args.text.now < 2 ^ 64 - 1 = search rules in
    let all : c.loop-taken._taken ≡ c.args.wanted = omega arith in
    places_all p h c.loop-taken._taken c.loop-taken.rest.now (c.loop-taken.invariant.read p h page at e)
    (omega (arith, all, e, few, c.loop-taken.invariant.shorter))
