-- What refused words and the names of accepted ones are.
use Rattle.std.proofs.Common.{◌≡◌, ℕ, List, Some, Result, Err, inl, inr, refl, subst, sym, ◌∙◌}
use Rattle.std.proofs.lemmas.Option.{none-some, same_Some}
use Rattle.desk_io.specs.States.{DeskState}
use Rattle.desk_io.specs.Answers.{IsAbsent, IsTooLong, DeskFaulted}
use Rattle.route_words.specs.declared.command.Command.{Command}
use Rattle.route_words.specs.declared.command.Command.TheVariants.{Route, Check, Gen}
use Rattle.route_words.specs.declared.command.WordFault.{WordFault}
use Rattle.route_words.specs.declared.command.WordFault.TheVariants.{NoCommand, UnknownCommand, Usage, Memory}
use Rattle.route_words.specs.Words.{Says}
use Rattle.dsn_route.specs.Lines.{max_bytes, number_of, read_fault_line, limit_line}
use Rattle.dsn_route.specs.Answers.{IsUnread, IsOverlong}
use Rattle.pcb_model.specs.declared.design.Design.{Design}
use Rattle.dsn_route.specs.Commands.{IsInput, IsInputOf, IsSessionOf, IsText}
use Rattle.dsn_route.specs.Judging.{IsDesignIn}

-- a fault that has a number is that of the words
pub misworded : (told : Result Command WordFault) (fault : WordFault) (n : ℕ) → Says told (Err fault)
    → number_of fault ≡ Some n → told ≡ Err fault
misworded told NoCommand n says is = says
misworded told UnknownCommand n says is = says
misworded told Usage n says is = says
misworded told (Memory e) n says is = absurd (none-some n is)

-- the file that the command reads
pub unread_of : (command : Command) (name : List ℕ) (desk later : DeskState) → IsInputOf command name
    → DeskFaulted desk later (IsAbsent desk.files name) → IsUnread command desk later read_fault_line
unread_of (Route input output from diagonal knobs) name desk later is fault = (inl (rw is at fault), refl)
unread_of (Check input session report) name desk later is fault = (inl (rw is at fault), refl)
unread_of (Gen n) name desk later is fault = absurd is

pub overlong_of : (command : Command) (name : List ℕ) (desk : DeskState) → IsInputOf command name
    → IsTooLong desk.files name max_bytes → IsOverlong command desk limit_line
overlong_of (Route input output from diagonal knobs) name desk is long = (inl (rw is at long), refl)
overlong_of (Check input session report) name desk is long = (inl (rw is at long), refl)
overlong_of (Gen n) name desk is long = absurd is

-- the session that it reads behind that
pub second_unread : (command : Command) (input session : List ℕ) (desk later : DeskState) (d : Design)
    → IsInputOf command input → IsSessionOf command session → IsDesignIn input desk d
    → DeskFaulted desk later (IsAbsent desk.files session) → IsUnread command desk later read_fault_line
second_unread (Route name output from diagonal knobs) input session desk later d is named first fault =
    (inr (session, named, d, subst (λ (n : List ℕ). IsDesignIn n desk d) is first, fault), refl)
second_unread (Check name told report) input session desk later d is named first fault = (
  inr (d, subst (λ (n : List ℕ). IsDesignIn n desk d) is first, inl (rw named at fault)),
  refl,
)
second_unread (Gen n) input session desk later d is named first fault = absurd is

pub second_overlong : (command : Command) (input session : List ℕ) (desk : DeskState) (d : Design)
    → IsInputOf command input → IsSessionOf command session → IsDesignIn input desk d
    → IsTooLong desk.files session max_bytes → IsOverlong command desk limit_line
second_overlong (Route name output from diagonal knobs) input session desk d is named first long =
    (inr (session, named, d, subst (λ (n : List ℕ). IsDesignIn n desk d) is first, long), refl)
second_overlong (Check name told report) input session desk d is named first long = (
  inr (d, subst (λ (n : List ℕ). IsDesignIn n desk d) is first, inl (rw named at long)),
  refl,
)
second_overlong (Gen n) input session desk d is named first long = absurd is

-- ---- names
-- the text of the design's file is that of the command, both ways
pub input_text : (command : Command) (name : List ℕ) (desk : DeskState) (text : List ℕ) → IsInputOf command name
    → IsInput name desk text → IsText command desk text
input_text (Route input output from diagonal knobs) name desk text is h =
    subst (λ (n : List ℕ). IsInput n desk text) is h
input_text (Check input session report) name desk text is h = subst (λ (n : List ℕ). IsInput n desk text) is h
input_text (Gen n) name desk text is h = absurd is

pub text_input : (command : Command) (name : List ℕ) (desk : DeskState) (text : List ℕ) → IsInputOf command name
    → IsText command desk text → IsInput name desk text
text_input (Route input output from diagonal knobs) name desk text is h =
    subst (λ (n : List ℕ). IsInput n desk text) (sym is) h
text_input (Check input session report) name desk text is h = subst (λ (n : List ℕ). IsInput n desk text) (sym is) h
text_input (Gen n) name desk text is h = absurd is

-- a command has one design's file and one session's
pub one_input : (command : Command) (a b : List ℕ) → IsInputOf command a → IsInputOf command b → a ≡ b
one_input (Route input output from diagonal knobs) a b first second = first ∙ sym second
one_input (Check input session report) a b first second = first ∙ sym second
one_input (Gen n) a b first second = absurd first

pub one_name : (command : Command) (a b : List ℕ) → IsSessionOf command a → IsSessionOf command b → a ≡ b
one_name (Route input output from diagonal knobs) a b first second = same_Some a b (sym first ∙ second)
one_name (Check input session report) a b first second = first ∙ sym second
one_name (Gen n) a b first second = absurd first
