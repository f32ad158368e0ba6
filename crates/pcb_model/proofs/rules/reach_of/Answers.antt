use Rattle.std.proofs.Common.{All, arith, sym, subst}
use Rattle.pcb_model.specs.declared.design.Net.{Net}
use Rattle.pcb_model.specs.declared.design.ClassPair.{ClassPair}
use Rattle.pcb_model.specs.Bounds.{AreRulesWithin}
use Rattle.pcb_model.proofs.rules.reach_of.Goals as goal

pub returns-clause-lowest : goal.returns-clause-lowest
returns-clause-lowest c = λ m w.
    c.reach_of_pairs.ensures.lowest m
    (c.reach_of_nets-nets.ensures.lowest m
    (c.reach_of_classes-classes.ensures.lowest m
    (c.reach_of_rules-structure.ensures.lowest m (omega arith) w.structure)
    (subst (All (AreRulesWithin m)) (sym c.as_slice.ensures) w.classes_within))
    (subst (All (λ (n : Net). AreRulesWithin m n.rules)) (sym c.as_slice-2.ensures) w.nets_within))
    (subst (All (λ (p : ClassPair). AreRulesWithin m p.rules)) (sym c.as_slice-3.ensures) w.pairs_within)
