-- An outcome counts from an earlier moment, between which and its start the files stayed.
use Rattle.std.proofs.Common.{◌≡◌, ℕ, ◌≤◌, Bool, Option, IsTrue, subst, arith}
use Rattle.desk_io.specs.States.{Files, DeskState}
use Rattle.desk_io.specs.Answers.{DeskFaulted}
use Rattle.picture_call.specs.declared.outcome.PictureCall.{PictureCall}
use Rattle.picture_call.specs.declared.outcome.Outcome.{Outcome}
use Rattle.picture_call.specs.declared.outcome.Outcome.TheVariants.{Drawn, DesignUnread, SessionUnread, DesignTooLong}
use Rattle.picture_call.specs.declared.outcome.Outcome.TheVariants.{SessionTooLong, DesignMisspelt, DesignRefused}
use Rattle.picture_call.specs.declared.outcome.Outcome.TheVariants.{SessionMisspelt, SessionRefused, Unwritten, Memory}
use Rattle.picture_call.specs.Answers.{Leaves}

abbrev at : Option Files → ℕ → Bool → DeskState
at files faults calm = record { files = files; faults = faults; calm = calm }

module _ (desk later : DeskState) (faults : ℕ) (calm : Bool) (le : desk.faults ≤ faults)
    (stays : IsTrue desk.calm → IsTrue calm) where
  faulted : {P : Type 0} → DeskFaulted (at desk.files faults calm) later P → DeskFaulted desk later P
  faulted f = let rose = f.rose in record { rose = omega (arith, le, rose); calm = λ c. f.calm (stays c) }

  since : (call : PictureCall) (o : Outcome) → Leaves call (at desk.files faults calm) later o
      → Leaves call desk later o
  since call Drawn h = h
  since call Unwritten h = (faulted h.0, h.1)
  since call DesignUnread h = (h.0, faulted h.1)
  since call SessionUnread h = (h.0, faulted h.1)
  since call DesignTooLong h = h
  since call SessionTooLong h = h
  since call (DesignMisspelt f) h = h
  since call (DesignRefused r) h = h
  since call (SessionMisspelt f) h = h
  since call (SessionRefused number place) h = h
  since call Memory h = h

pub from_before : (call : PictureCall) (desk mid later : DeskState) (o : Outcome) → mid.files ≡ desk.files
    → desk.faults ≤ mid.faults → (IsTrue desk.calm → IsTrue mid.calm) → Leaves call mid later o
    → Leaves call desk later o
from_before call desk mid later o same le stays h =
    since desk later mid.faults mid.calm le stays call o
    (subst (λ (files : Option Files). Leaves call (at files mid.faults mid.calm) later o) same h)
