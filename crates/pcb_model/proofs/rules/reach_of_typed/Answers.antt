use Rattle.std.proofs.Common.{◌≤◌, None, take, arith}
use Rattle.std.proofs.lemmas.List.Elements.{All-more}
use Rattle.pcb_model.specs.declared.item.Kind.TheVariants.{Wire}
use Rattle.pcb_model.specs.declared.design.Typed.{Typed}
use Rattle.pcb_model.proofs.Growing.{All-weaken, All-whole, value_more}
use Rattle.pcb_model.proofs.rules.reach_of_typed.Goals as goal

pub loop-t-preserved : goal.loop-t-preserved
loop-t-preserved c =
    let P : Typed → Type 0 = λ t. t.value ≤ c.max-greatest.result in
    let before = All-weaken (λ (t : Typed). t.value ≤ c.loop-t.greatest) P (take c.loop-t.t-index c.args.ts.now)
    (value_more c.loop-t.greatest c.max-greatest.result (omega (arith, c.max-greatest.ensures)))
    c.loop-t.invariant.reaches in
    let first : Typed = record { a = Wire; b = None; value = 0 } in
    record {
      reaches = All-more P c.args.ts.now c.loop-t.t-index first c.loop-t-test.true before
          (omega (arith, c.max-greatest.ensures));
      least = omega (arith, c.max-greatest.ensures, c.loop-t.invariant.least);
      within = omega (
        arith,
        c.max-greatest.ensures,
        c.loop-t.invariant.within,
        c.requires.typed c.loop-t.t-index first c.loop-t-test.true,
      );
      lowest = λ m h all. omega (
        arith,
        c.max-greatest.ensures,
        c.loop-t.invariant.lowest m h all,
        all c.loop-t.t-index first c.loop-t-test.true,
      );
    }

pub returns-clause-reaches : goal.returns-clause-reaches
returns-clause-reaches c =
    All-whole (λ (t : Typed). t.value ≤ c.loop-t.greatest) c.args.ts.now c.loop-t.t-index (omega arith)
    c.loop-t.invariant.reaches

pub returns-clause-lowest : goal.returns-clause-lowest
returns-clause-lowest c = c.loop-t.invariant.lowest
