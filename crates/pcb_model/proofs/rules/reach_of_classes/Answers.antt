use Rattle.std.proofs.Common.{take, arith, sym, subst}
use Rattle.std.proofs.lemmas.List.Elements.{All-more}
use Rattle.pcb_model.specs.Bounds.{AreRulesWithin}
use Rattle.pcb_model.proofs.Growing.{All-weaken, All-whole, rules_more}
use Rattle.pcb_model.proofs.rules.reach_of_classes.Goals as goal

pub loop-rs-preserved : goal.loop-rs-preserved
loop-rs-preserved c =
    let r = c.reach_of_rules-greatest.result in
    let P = AreRulesWithin r in
    let e = c.reach_of_rules-greatest.ensures in
    let before = All-weaken (AreRulesWithin c.loop-rs.greatest) P (take c.loop-rs.rs-index c.args.classes.now)
    (rules_more c.loop-rs.greatest r e.least) c.loop-rs.invariant.reaches in
    record {
      reaches = All-more P c.args.classes.now c.loop-rs.rs-index c.rs-item.result c.loop-rs-test.true before
          (subst P c.rs-item.is e.reaches);
      least = omega (arith, e.least, c.loop-rs.invariant.least);
      within = e.within;
      lowest = λ m h all. e.lowest m (c.loop-rs.invariant.lowest m h all)
          (subst (AreRulesWithin m) (sym c.rs-item.is) (all c.loop-rs.rs-index _ c.loop-rs-test.true));
    }

pub returns-clause-reaches : goal.returns-clause-reaches
returns-clause-reaches c =
    All-whole (AreRulesWithin c.loop-rs.greatest) c.args.classes.now c.loop-rs.rs-index (omega arith)
    c.loop-rs.invariant.reaches

pub returns-clause-lowest : goal.returns-clause-lowest
returns-clause-lowest c = c.loop-rs.invariant.lowest
