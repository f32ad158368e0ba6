-- A design that starts from an earlier session: its free wiring is that session's, less what the design has as fixed.
use Rattle.std.specs.Prelude.{◌≡◌, ℕ, List, map}
use Rattle.pcb_model.specs.declared.design.FreeWire.{FreeWire}
use Rattle.pcb_model.specs.declared.design.Design.{Design}
use Rattle.pcb_model.specs.Scale.{scale_of}
use Rattle.ses_reader.specs.declared.item.SesItem.{SesItem}
use Rattle.ses_reader.specs.Reading.{HasSession}
use Rattle.ses_reader.specs.Wiring.{wire_of}
use Rattle.route_check.specs.Board.{left_of}

-- the design with other free wiring
abbrev pub with_free : Design → List FreeWire → Design
with_free d wires = record d { free = wires }

-- its free wiring is what is left of the session when each fixed item has taken away the first that is the same
abbrev pub started : Design → List SesItem → Design
started d old = with_free d (map wire_of (left_of d.fixed old))

-- d starts from an earlier session of the design that was read, and its own session has the scale of that design's
pub record IsLater (read d : Design) : Type 0 where
  pub told : List ℕ
  pub old : List SesItem
  pub reads : HasSession told read old
  pub design_is : d ≡ started read old
  pub scale_is : scale_of d ≡ scale_of read
