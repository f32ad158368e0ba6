use Rattle.std.proofs.Common.{take, arith, sym, subst}
use Rattle.std.proofs.lemmas.List.Elements.{All-more}
use Rattle.pcb_model.specs.declared.design.ClassPair.{ClassPair}
use Rattle.pcb_model.specs.Bounds.{AreRulesWithin}
use Rattle.pcb_model.proofs.Growing.{All-weaken, All-whole, rules_more}
use Rattle.pcb_model.proofs.rules.reach_of_pairs.Goals as goal

pub loop-p-preserved : goal.loop-p-preserved
loop-p-preserved c =
    let r = c.reach_of_rules-greatest.result in
    let P : ClassPair → Type 0 = λ p. AreRulesWithin r p.rules in
    let e = c.reach_of_rules-greatest.ensures in
    let before = All-weaken (λ (p : ClassPair). AreRulesWithin c.loop-p.greatest p.rules) P
    (take c.loop-p.p-index c.args.pairs.now) (λ p. rules_more c.loop-p.greatest r e.least p.rules)
    c.loop-p.invariant.reaches in
    record {
      reaches = All-more P c.args.pairs.now c.loop-p.p-index c.p-item.result c.loop-p-test.true before
          (subst P c.p-item.is e.reaches);
      least = omega (arith, e.least, c.loop-p.invariant.least);
      within = e.within;
      lowest = λ m h all. e.lowest m (c.loop-p.invariant.lowest m h all)
          (subst (λ (p : ClassPair). AreRulesWithin m p.rules) (sym c.p-item.is)
          (all c.loop-p.p-index _ c.loop-p-test.true));
    }

pub returns-clause-reaches : goal.returns-clause-reaches
returns-clause-reaches c =
    All-whole (λ (p : ClassPair). AreRulesWithin c.loop-p.greatest p.rules) c.args.pairs.now c.loop-p.p-index
    (omega arith)
    c.loop-p.invariant.reaches

pub returns-clause-lowest : goal.returns-clause-lowest
returns-clause-lowest c = c.loop-p.invariant.lowest
