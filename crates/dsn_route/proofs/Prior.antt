-- The design that starts from an earlier session, and the files that were read for it.
use Rattle.std.proofs.Common.{◌≡◌, ℕ, List, Option, Some, None, refl, subst, sym}
use Rattle.std.proofs.lemmas.Option.{none-some}
use Rattle.desk_io.specs.States.{DeskState}
use Rattle.pcb_model.specs.declared.design.Design.{Design}
use Rattle.ses_reader.specs.declared.item.SesItem.{SesItem}
use Rattle.session_start.specs.Starting.{started}
use Rattle.route_words.specs.declared.command.Command.{Command}
use Rattle.route_words.specs.declared.command.Command.TheVariants.{Route, Check, Gen}
use Rattle.dsn_route.specs.Commands.{IsInputOf, IsSessionOf, from_of}
use Rattle.dsn_route.specs.Judging.{IsDesignIn, IsDesignOf, IsStartedBy}
use Rattle.dsn_route.specs.inner.Said.{IsEarlier, IsReadFor}

-- the files of a command that names an earlier session
pub record AreFiles (command : Command) (old : List ℕ) (desk : DeskState) (read : Design) : Type 0 where
  pub input : List ℕ
  pub is_input : IsInputOf command input
  pub is_session : IsSessionOf command old
  pub first : IsDesignIn input desk read

pub files_of : (command : Command) (old : List ℕ) (desk : DeskState) (read : Design) → from_of command ≡ Some old
    → IsReadFor command desk read → AreFiles command old desk read
files_of (Route input output from diagonal knobs) old desk read named is = record {
  input = input;
  is_input = refl;
  is_session = named;
  first = record { text = is.text; is_text = is.is_text; reads = is.reads };
}
files_of (Check input session report) old desk read named is = absurd (none-some old named)
files_of (Gen n) old desk read named is = absurd (none-some old named)

-- the design that was read is routed where no session is named
pub read_alone : (command : Command) (desk : DeskState) (read : Design) → from_of command ≡ None
    → IsReadFor command desk read → IsDesignOf command desk read
read_alone command desk read none is = record {
  text = is.text;
  read = read;
  is_text = is.is_text;
  reads = is.reads;
  starts = subst (λ (f : Option (List ℕ)). IsStartedBy f desk read read) (sym none) refl;
}

-- and else the one that starts from it
pub started_from : (command : Command) (desk : DeskState) (read d : Design) (items : List SesItem)
    → IsReadFor command desk read → IsEarlier command desk read items → d ≡ started read items
    → IsDesignOf command desk d
started_from command desk read d items is old same = record {
  text = is.text;
  read = read;
  is_text = is.is_text;
  reads = is.reads;
  starts = subst (λ (f : Option (List ℕ)). IsStartedBy f desk read d) (sym old.name_is) (items, old.session, same);
}
