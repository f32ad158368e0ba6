-- The session that is named, and its wiring.
use Rattle.std.proofs.Common.{◌≡◌, ℕ, Option, Some, None, List, map, sym, subst}
use Rattle.std.specs.Prelude.{All}
use Rattle.pcb_model.specs.declared.design.FreeWire.{FreeWire}
use Rattle.pcb_model.specs.declared.design.Design.{Design}
use Rattle.pcb_model.specs.Bounds.{IsDesignFit}
use Rattle.pcb_model.specs.Sound.{IsFreeSound}
use Rattle.ses_reader.specs.declared.item.SesItem.{SesItem}
use Rattle.ses_reader.specs.Sound.{IsItemSound}
use Rattle.ses_reader.specs.Reading.{HasSession}
use Rattle.ses_reader.specs.Wiring.{wire_of}
use Rattle.ses_reader.proofs.FreeWires as wiring
use Rattle.desk_io.specs.States.{Files}
use Rattle.picture_call.specs.Drawing.{IsInput, IsWiring}
use Rattle.picture_call.specs.Answers.{IsSessionIn}

-- its items are sound wires and vias
pub wires_sound : (d : Design) (items : List SesItem) → IsDesignFit d → All (IsItemSound d) items
    → All (IsFreeSound d) (map wire_of items)
wires_sound d items fit all = wiring.wires_sound d items fit all

-- ---- the session that is named
pub session_named : (session : Option (List ℕ)) (name : List ℕ) (files : Option Files) (text : List ℕ)
    → session ≡ Some name → IsInput name files text → IsSessionIn session files text
session_named session name files text named is =
    subst (λ (s : Option (List ℕ)). IsSessionIn s files text) (sym named) is

-- its wiring is what is drawn
pub wiring_of : (session : Option (List ℕ)) (files : Option Files) (d : Design) (text : List ℕ) (items : List SesItem)
    (wires : List FreeWire) → IsSessionIn session files text → HasSession text d items → wires ≡ map wire_of items
    → IsWiring session files d wires
wiring_of None files d text items wires is has same = absurd is
wiring_of (Some name) files d text items wires is has same = record {
  text = text;
  is_text = is;
  items = items;
  session = has;
  wires_are = same;
}
