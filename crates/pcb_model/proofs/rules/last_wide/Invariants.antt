use Rattle.std.proofs.Common.{◌≡◌, take}
use Rattle.pcb_model.specs.Rules.{last_value, names_one}
use Rattle.pcb_model.proofs.rules.last_wide.Given as goal

abbrev pub invariant-loop-t : goal.invariant-loop-t
invariant-loop-t l = l.last ≡ last_value (λ t. names_one l.ka l.kb t.a t.b) (take l.t-index l.ts)
