-- A design that starts from a session is sound.
use Rattle.std.proofs.Common.{List, All, map}
use Rattle.pcb_model.specs.declared.design.Design.{Design}
use Rattle.pcb_model.specs.Sound.{IsSound}
use Rattle.ses_reader.specs.declared.item.SesItem.{SesItem}
use Rattle.ses_reader.specs.Sound.{IsItemSound}
use Rattle.ses_reader.specs.Wiring.{wire_of}
use Rattle.ses_reader.proofs.FreeWires.{wires_sound}
use Rattle.route_check.specs.Board.{left_of}
use Rattle.route_check.proofs.Boards.{left_sound}
use Rattle.session_start.specs.Starting.{started}
use Rattle.session_start.proofs.Keeping.{sound_with}

pub started_sound : (d : Design) (old : List SesItem) → IsSound d → All (IsItemSound d) old → IsSound (started d old)
started_sound d old sound all = sound_with d (map wire_of (left_of d.fixed old)) sound
    (wires_sound d (left_of d.fixed old) sound.fits (left_sound d old all))
