use Rattle.std.proofs.Common.{take, arith, sym, subst}
use Rattle.std.proofs.lemmas.List.Elements.{All-more}
use Rattle.pcb_model.specs.declared.design.Net.{Net}
use Rattle.pcb_model.specs.Bounds.{AreRulesWithin}
use Rattle.pcb_model.proofs.Growing.{All-weaken, All-whole, rules_more}
use Rattle.pcb_model.proofs.rules.reach_of_nets.Goals as goal

pub loop-n-preserved : goal.loop-n-preserved
loop-n-preserved c =
    let r = c.reach_of_rules-greatest.result in
    let P : Net → Type 0 = λ n. AreRulesWithin r n.rules in
    let e = c.reach_of_rules-greatest.ensures in
    let before = All-weaken (λ (n : Net). AreRulesWithin c.loop-n.greatest n.rules) P
    (take c.loop-n.n-index c.args.nets.now) (λ n. rules_more c.loop-n.greatest r e.least n.rules)
    c.loop-n.invariant.reaches in
    record {
      reaches = All-more P c.args.nets.now c.loop-n.n-index c.n-item.result c.loop-n-test.true before
          (subst P c.n-item.is e.reaches);
      least = omega (arith, e.least, c.loop-n.invariant.least);
      within = e.within;
      lowest = λ m h all. e.lowest m (c.loop-n.invariant.lowest m h all)
          (subst (λ (n : Net). AreRulesWithin m n.rules) (sym c.n-item.is)
          (all c.loop-n.n-index _ c.loop-n-test.true));
    }

pub returns-clause-reaches : goal.returns-clause-reaches
returns-clause-reaches c =
    All-whole (λ (n : Net). AreRulesWithin c.loop-n.greatest n.rules) c.args.nets.now c.loop-n.n-index (omega arith)
    c.loop-n.invariant.reaches

pub returns-clause-lowest : goal.returns-clause-lowest
returns-clause-lowest c = c.loop-n.invariant.lowest
