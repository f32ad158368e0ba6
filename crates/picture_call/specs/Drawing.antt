-- What a picture shows: a design of a file, and the wiring of a session or its own.
use Rattle.std.specs.Prelude.{◌≡◌, ◌≤◌, ℕ, List, [], ◌∷◌, ◌++◌, length, map, Option, Some, None}
use Rattle.desk_io.specs.States.{Files}
use Rattle.desk_io.specs.Answers.{IsFile}
use Rattle.pcb_model.specs.declared.item.Item.{Item}
use Rattle.pcb_model.specs.declared.design.FreeWire.{FreeWire}
use Rattle.pcb_model.specs.declared.design.Design.{Design}
use Rattle.pcb_board.specs.Boards.{free_item}
use Rattle.dsn_design.specs.Reading.{HasDesign}
use Rattle.ses_reader.specs.declared.item.SesItem.{SesItem}
use Rattle.ses_reader.specs.Reading.{HasSession}
use Rattle.ses_reader.specs.Wiring.{wire_of}
use Rattle.board_picture.specs.declared.open.OpenLine.{OpenLine}
use Rattle.board_picture.specs.Open.{AreOpenLines}
use Rattle.board_picture.specs.Picture.{picture_of}
use Rattle.picture_call.specs.declared.outcome.PictureCall.{PictureCall}
use Rattle.pcb_model.specs.declared.limits.TheConstants.{MOST_BYTES}

-- the most bytes of a design's file and of a session's
abbrev pub max_bytes : ℕ
max_bytes = MOST_BYTES

-- the text is that of the file of this name, where the files are told, and within the limit
pub record IsInput (name : List ℕ) (files : Option Files) (text : List ℕ) : Type 0 where
  pub file : IsFile files name text
  pub fits : length text ≤ max_bytes

-- the file of this name has this design
pub record IsDesignIn (name : List ℕ) (files : Option Files) (d : Design) : Type 0 where
  pub text : List ℕ
  pub is_text : IsInput name files text
  pub reads : HasDesign text d

-- ---- wiring
-- the file of this name has a session of the design, and these are its wires and vias
pub record IsSessionWiring (name : List ℕ) (files : Option Files) (d : Design) (wires : List FreeWire) : Type 0 where
  pub text : List ℕ
  pub is_text : IsInput name files text
  pub items : List SesItem
  pub session : HasSession text d items
  pub wires_are : wires ≡ map wire_of items

-- what is drawn besides the fixed items: the wiring of the session that is named, or else the design's own
abbrev pub IsWiring : Option (List ℕ) → Option Files → Design → List FreeWire → Type 0
IsWiring None files d wires = wires ≡ d.free
IsWiring (Some name) files d wires = IsSessionWiring name files d wires

-- the items with these wires and vias behind them, each with its place as id
abbrev pub laid_on : Design → List Item → List FreeWire → List Item
laid_on d items [] = items
laid_on d items (w ∷ wires) = laid_on d (items ++ free_item d items w ∷ []) wires

-- ---- the picture
-- of a design with its fixed items and this wiring, and of what is open there
pub record IsPictureOf (d : Design) (wires : List FreeWire) (page : List ℕ) : Type 0 where
  pub lines : List OpenLine
  pub lines_are : AreOpenLines d (laid_on d d.fixed wires) lines
  pub page_is : page ≡ picture_of d (laid_on d d.fixed wires) lines

-- the picture that is asked for
pub record IsPicture (call : PictureCall) (files : Option Files) (page : List ℕ) : Type 0 where
  pub design : Design
  pub is_design : IsDesignIn call.design files design
  pub wires : List FreeWire
  pub wiring : IsWiring call.session files design wires
  pub picture : IsPictureOf design wires page
