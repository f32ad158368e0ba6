-- What holds of the refusal of a text, where it is refused.
use Rattle.std.specs.Prelude.{Result, Ok, Err}
use Rattle.pcb_model.specs.declared.design.Design.{Design}
use Rattle.dsn_shapes.specs.declared.refusal.Refusal.{Refusal}
use Rattle.dsn_shapes.specs.declared.refusal.DesignFault.{DesignFault}
use Rattle.dsn_shapes.specs.declared.refusal.DesignFault.TheVariants.{Spelling, Refused, Memory}

abbrev pub IfRefused : Result Design DesignFault → (Refusal → Type 0) → Type 0
IfRefused (Ok d) P = Unit {0}
IfRefused (Err (Spelling f)) P = Unit {0}
IfRefused (Err (Refused r)) P = P r
IfRefused (Err (Memory e)) P = Unit {0}
