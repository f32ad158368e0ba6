-- What a call answers, and what it leaves.
use Rattle.std.specs.Prelude.{◌≡◌, ℕ, List, take, Option}
use Rattle.std.specs.Option.{IsSomeAnd}
use Rattle.desk_io.specs.States.{Files, DeskState}
use Rattle.desk_io.specs.Answers.{IsAbsent, IsTooLong, written, DeskFaulted}
use Rattle.pcb_model.specs.declared.design.Design.{Design}
use Rattle.dsn_tree.specs.declared.fault.TreeFault.{TreeFault}
use Rattle.dsn_tree.specs.Trees.{HasFault, Unless}
use Rattle.dsn_shapes.specs.declared.refusal.Refusal.{Refusal}
use Rattle.dsn_design.specs.Reading.{HasRefusal}
use Rattle.ses_reader.specs.Reading.{HasRefusal as IsSessionRefused}
use Rattle.picture_call.specs.declared.outcome.PictureCall.{PictureCall}
use Rattle.picture_call.specs.declared.outcome.Outcome.{Outcome}
use Rattle.picture_call.specs.declared.outcome.Outcome.TheVariants.{Drawn, DesignUnread, SessionUnread, DesignTooLong}
use Rattle.picture_call.specs.declared.outcome.Outcome.TheVariants.{SessionTooLong, DesignMisspelt, DesignRefused}
use Rattle.picture_call.specs.declared.outcome.Outcome.TheVariants.{SessionMisspelt, SessionRefused, Unwritten, Memory}
use Rattle.picture_call.specs.Drawing.{max_bytes, IsInput, IsDesignIn, IsPicture}

-- a session is named, and this is its file's text
abbrev pub IsSessionIn : Option (List ℕ) → Option Files → List ℕ → Type 0
IsSessionIn session files text = IsSomeAnd session (λ name. IsInput name files text)

-- ---- causes
-- the design's file has this text, which has no tree
pub record IsDesignMisspelt (call : PictureCall) (files : Option Files) (fault : TreeFault) : Type 0 where
  pub text : List ℕ
  pub is_text : IsInput call.design files text
  pub has : Unless fault (HasFault text fault)

-- the design's file has this text, which is refused
pub record IsDesignRefused (call : PictureCall) (files : Option Files) (refusal : Refusal) : Type 0 where
  pub text : List ℕ
  pub is_text : IsInput call.design files text
  pub has : HasRefusal text refusal

-- the session's file has this text, which has no tree
pub record IsSessionMisspelt (call : PictureCall) (files : Option Files) (fault : TreeFault) : Type 0 where
  pub text : List ℕ
  pub is_text : IsSessionIn call.session files text
  pub has : Unless fault (HasFault text fault)

-- the session's file has this text, which is refused as a session of the design
pub record IsNoSession (call : PictureCall) (files : Option Files) (number at : ℕ) : Type 0 where
  pub design : Design
  pub is_design : IsDesignIn call.design files design
  pub text : List ℕ
  pub is_text : IsSessionIn call.session files text
  pub has : IsSessionRefused text design number at

-- ---- outcomes
-- the output is the picture, whole
pub record IsWritten (call : PictureCall) (files later : Option Files) : Type 0 where
  pub page : List ℕ
  pub picture : IsPicture call files page
  pub written : later ≡ written files call.output page

-- the write failed, and the output holds a front of the picture
pub record IsCutShort (call : PictureCall) (files later : Option Files) : Type 0 where
  pub page : List ℕ
  pub picture : IsPicture call files page
  pub kept : ℕ
  pub written : later ≡ written files call.output (take kept page)

-- Each outcome has its cause. All files stay, but for the output of a picture that was to be written.
abbrev pub Leaves : PictureCall → DeskState → DeskState → Outcome → Type 0
Leaves call desk later Drawn = IsWritten call desk.files later.files
Leaves call desk later Unwritten = DeskFaulted desk later ⊥ × IsCutShort call desk.files later.files
Leaves call desk later DesignUnread =
    (later.files ≡ desk.files) × DeskFaulted desk later (IsAbsent desk.files call.design)
Leaves call desk later SessionUnread = (later.files ≡ desk.files)
    × DeskFaulted desk later (IsSomeAnd call.session (λ name. IsAbsent desk.files name))
Leaves call desk later DesignTooLong = (later.files ≡ desk.files) × IsTooLong desk.files call.design max_bytes
Leaves call desk later SessionTooLong = (later.files ≡ desk.files)
    × IsSomeAnd call.session (λ name. IsTooLong desk.files name max_bytes)
Leaves call desk later (DesignMisspelt f) = (later.files ≡ desk.files) × IsDesignMisspelt call desk.files f
Leaves call desk later (DesignRefused r) = (later.files ≡ desk.files) × IsDesignRefused call desk.files r
Leaves call desk later (SessionMisspelt f) = (later.files ≡ desk.files) × IsSessionMisspelt call desk.files f
Leaves call desk later (SessionRefused number at) =
    (later.files ≡ desk.files) × IsNoSession call desk.files number at
Leaves call desk later Memory = later.files ≡ desk.files
