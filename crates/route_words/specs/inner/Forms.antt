-- The forms of the words as `clap` sees them, and what it finds; for private functions alone.
use Rattle.std.specs.Prelude.{◌≡◌, ⊤, ℕ, Bool, true, false, codes, List, [], ◌∷◌, slice_get, Option, Some, is_some}
use Rattle.std.specs.Prelude.{Result, Ok, Err, alloc_error, fold, All}
use Rattle.std.specs.Option.{option_map_or}
use Rattle.std.specs.Str.{bytes_eq}
use Rattle.clap.specs.Walk.{Rule, rows_of, rule_of}
use Rattle.clap.specs.Simple.{App, new_app, new_rule, with_rule, on_top, matches_of, is_simple}
use Rattle.clap.specs.Matches.{first_value, found_of}
use Rattle.clap.specs.Faults.{fault_of, is_simple_and_free}
use Rattle.clap.specs.declared.builder.arg.Arg.{Arg}
use Rattle.clap.specs.Kinds.{HasKind}
use Rattle.clap.specs.declared.builder.action.ArgAction.TheVariants.{SetTrue}
use Rattle.clap.specs.declared.parser.matches.ArgMatches.{ArgMatches}
use Rattle.clap.specs.declared.parser.matches.Found.{Found}
use Rattle.clap.specs.declared.error.Error.{Error}
use Rattle.clap.specs.declared.error.kind.ErrorKind.{ErrorKind}
use Rattle.clap.specs.declared.error.kind.ErrorKind.TheVariants.{OutOfMemory}
use Rattle.route_words.specs.Parts.{Form, Part, Word, fit, has, names_in, parts_of, value_in}
use Rattle.route_words.specs.Words.{check_form, gen_form, knobs_in, route_form}
use Rattle.route_words.specs.declared.command.Knobs.{Knobs}
use Rattle.route_words.specs.declared.command.WordFault.{WordFault}
use Rattle.route_words.specs.declared.command.WordFault.TheVariants.{Usage, Memory}

-- ---- forms

abbrev pub named : Word → Rule
named name = new_rule name

abbrev pub valued : Word → Rule
valued name = record (new_rule name) { long = Some name }

abbrev pub flag : Word → Rule
flag name = record (new_rule name) { long = Some name; action = Some SetTrue }

abbrev pub bare_app : App
bare_app = on_top (λ s. record s {
  no_binary_name = true;
  disable_help_flag = true;
  disable_version_flag = true;
}) (new_app (codes "dsnroute"))

-- the form with these rules behind its own
abbrev pub with_rules : App → List Rule → App
with_rules app [] = app
with_rules app (rule ∷ rules) = with_rules (with_rule app rule) rules

abbrev pub route_args : List Rule
route_args = named (codes "input") ∷ named (codes "output") ∷ valued (codes "grid") ∷ valued (codes "workers")
    ∷ valued (codes "passes") ∷ valued (codes "via-cost") ∷ valued (codes "tries") ∷ flag (codes "omit-fixed")
    ∷ valued (codes "from") ∷ flag (codes "diagonal") ∷ []

abbrev pub route_app : App
route_app = with_rules bare_app route_args

abbrev pub check_args : List Rule
check_args = named (codes "input") ∷ named (codes "session") ∷ named (codes "report") ∷ []

abbrev pub check_app : App
check_app = with_rules bare_app check_args

abbrev pub gen_app : App
gen_app = with_rule bare_app (named (codes "number"))

-- the bare form with these arguments is this one, and none of them is global
pub record Makes (args : List Arg) (app : App) : Type 0 where
  pub is : fold (λ (a : App) (x : Arg). with_rule a (rule_of x)) bare_app args ≡ app
  pub local : All (λ (a : Arg). a.global ≡ false) args

-- arguments of these rules come behind the others
abbrev pub Adds : List Rule → List Arg → List Arg → Type 0
Adds rules old new = (app : App) → Makes old app → Makes new (with_rules app rules)

-- what a form without subcommands and other plain options is for `clap`
pub record IsPlainForm (app : App) : Type 0 where
  pub simple : is_simple app ≡ true
  pub free : is_simple_and_free app ≡ true

-- ---- what is found

-- the words have no fault and these rows; or they have one of the faults, or memory was wanting
abbrev pub Reads : App → List Word → Result ArgMatches Error → Type 0
Reads app words (Ok m) = (fault_of app words ≡ []) × (rows_of (found_of m) ≡ matches_of app words)
Reads app words (Err e) = HasKind (fault_of app words) e

abbrev pub fault_by : ErrorKind → WordFault
fault_by OutOfMemory = Memory alloc_error
fault_by kind = Usage

-- what the parts of a form hold: the values of its options, and its names, which have these ids
pub record Holds (form : Form) (ids : List Word) (parts : List Part) (f : Found) : Type 0 where
  pub fits : fit form parts ≡ true
  pub values : (x : Word) → has form.valued x ≡ true → first_value f x ≡ value_in x parts
  pub names : (k : ℕ) (id : Word) → slice_get ids k ≡ Some id → first_value f id ≡ slice_get (names_in parts) k

abbrev pub Finds : Form → (List Part → Found → Type 0) → List Word → Result ArgMatches WordFault → Type 0
Finds form P words (Ok m) = P (parts_of form words) (found_of m)
Finds form P words (Err (Memory e)) = ⊤
Finds form P words (Err Usage) = fit form (parts_of form words) ≡ false
Finds form P words (Err fault) = ⊥

-- a flag's text
abbrev pub is_on : Option Word → Bool
is_on value = option_map_or (λ text. bytes_eq text (codes "true")) value false

pub record HoldsRoute (parts : List Part) (f : Found) : Type 0 where
  pub held : Holds route_form (codes "input" ∷ codes "output" ∷ []) parts f
  pub omits : is_on (first_value f (codes "omit-fixed")) ≡ is_some (value_in (codes "omit-fixed") parts)
  pub slants : is_on (first_value f (codes "diagonal")) ≡ is_some (value_in (codes "diagonal") parts)

abbrev pub FindsRoute : List Word → Result ArgMatches WordFault → Type 0
FindsRoute = Finds route_form HoldsRoute

abbrev pub HoldsCheck : List Part → Found → Type 0
HoldsCheck = Holds check_form (codes "input" ∷ codes "session" ∷ codes "report" ∷ [])

abbrev pub FindsCheck : List Word → Result ArgMatches WordFault → Type 0
FindsCheck = Finds check_form HoldsCheck

abbrev pub HoldsGen : List Part → Found → Type 0
HoldsGen = Holds gen_form (codes "number" ∷ [])

abbrev pub FindsGen : List Word → Result ArgMatches WordFault → Type 0
FindsGen = Finds gen_form HoldsGen

abbrev pub knobs_found : Found → Option Knobs
knobs_found f = knobs_in (first_value f (codes "grid")) (first_value f (codes "workers"))
    (first_value f (codes "passes"))
    (first_value f (codes "via-cost")) (first_value f (codes "tries")) (is_on (first_value f (codes "omit-fixed")))
