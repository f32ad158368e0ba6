-- What the private functions of the greatest clearance give.
use Rattle.std.specs.Prelude.{ℕ, ◌⊎◌}
use Rattle.pcb_model.specs.declared.design.ClassPair.{ClassPair}
use Rattle.pcb_model.specs.declared.design.Design.{Design}
use Rattle.pcb_model.specs.Bounds.{AreRulesWithin, IsPairWithin}

-- no value of the pair's own rules is above m, or none that the class pairs give nets of its two classes
abbrev pub IsPairCovered : Design → ℕ → ClassPair → Type 0
IsPairCovered d m p = AreRulesWithin m p.rules ⊎ IsPairWithin d m p
