use Rattle.std.proofs.Common.{◌≡◌, take, filter}
use Rattle.pcb_model.specs.Rules.{names_pair, names_one, last_value, last_plain, joint_rules, is_of_classes}
use Rattle.pcb_model.proofs.rules.in_pairs.Given as goal

abbrev pub invariant-loop-p : goal.invariant-loop-p
invariant-loop-p l = record {
  exact : l.exact ≡ last_value (λ t. names_pair l.ka l.kb t.a t.b)
      (joint_rules (filter (is_of_classes l.a l.b) (take l.p-index l.pairs))).typed;
  wide : l.wide ≡ last_value (λ t. names_one l.ka l.kb t.a t.b)
      (joint_rules (filter (is_of_classes l.a l.b) (take l.p-index l.pairs))).typed;
  plain : l.plain ≡ last_plain (filter (is_of_classes l.a l.b) (take l.p-index l.pairs));
}
