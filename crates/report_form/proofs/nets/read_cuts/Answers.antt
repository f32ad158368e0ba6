use Rattle.std.proofs.Common.{◌≡◌, ◌<◌, ◌-◌, ◌^◌, ℕ, List, length, sym, subst, arith, rules}
use Rattle.std.specs.Option.{option_copied}
use Rattle.report_form.specs.declared.reading.ReadCut.{ReadCut}
use Rattle.report_form.specs.inner.Halts.{CutsRead}
use Rattle.report_form.proofs.Loops.{cuts_start, cuts_step, cuts_halt, cuts_all, capped_below}
use Rattle.report_form.proofs.nets.read_cuts.Goals as goal

pub loop-k-init : goal.loop-k-init
loop-k-init c = record {
  read = λ p h ns w page at so e own. subst
      (λ (ks : List ReadCut). CutsRead p h ns w 0 ks c.args.at.told c.args.at.rest.now)
      (sym c.requires) (cuts_start p h ns w c.args.at.rest.now c.args.at.told at so);
  shorter = omega arith;
}

pub loop-k-preserved : goal.loop-k-preserved
loop-k-preserved c =
    let gone : length c.in-Ok.field-0.rest.now < length c.loop-k.left.now = c.in-Ok.ensures.shorter in record {
      read = λ p h ns w page at so e own. cuts_step p h ns w c.loop-k.k c.loop-k.cuts c.push.new.values
          c.in-Ok.field-0.cut c.loop-k.told c.in-Ok.field-0.wide c.loop-k.left.now c.in-Ok.field-0.rest.now
          c.args.firsts.now (option_copied c.first_at.result) (c.loop-k.invariant.read p h ns w page at so e own)
          (capped_below c.loop-k.k w (subst (λ (n : ℕ). c.loop-k.k < n) e c.loop-k-test.true)) own c.first_at.ensures
          (λ cs before less told f. c.in-Ok.ensures.read p h ns w cs page before less told f)
          c.in_ok-push-in-Ok.ensures;
      shorter = omega (arith, c.loop-k.invariant.shorter, gone);
    }

pub returns-in-Err : goal.returns-in-Err
returns-in-Err c = λ p h ns w page at so e own. cuts_halt p h ns w c.loop-k.k c.loop-k.cuts c.loop-k.told
    c.loop-k.left.now c.args.firsts.now (option_copied c.first_at.result) c.in-Err.halt
    (c.loop-k.invariant.read p h ns w page at so e own)
    (capped_below c.loop-k.k w (subst (λ (n : ℕ). c.loop-k.k < n) e c.loop-k-test.true)) own c.first_at.ensures
    (λ cs before less told f. c.in-Err.ensures.read p h ns w cs page before less told f)

pub returns : goal.returns
returns c = λ p h ns w page at so e own.
    let few : length c.args.at.rest.now < 2 ^ 64 - 1 = search rules in
    let all : c.loop-k.k ≡ c.args.islands = omega arith in
    cuts_all p h ns w c.loop-k.k c.loop-k.cuts c.loop-k.told c.loop-k.left.now
    (c.loop-k.invariant.read p h ns w page at so e own)
    (omega (arith, all, e, few, c.loop-k.invariant.shorter))
