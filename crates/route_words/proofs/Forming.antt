-- What `clap` makes of arguments, and of the form of the words.
use Rattle.std.proofs.Common.{◌≡◌, ◌∙◌, refl, ap, ℕ, List, [], ◌∷◌, ◌++◌, All, false, true, Result, Ok, Err, Some}
use Rattle.std.proofs.Common.{inl, subst, sym}
use Rattle.std.specs.Prelude.{IfOk, IsErrAnd, fold}
use Rattle.std.proofs.lemmas.List.Elements.{All-head, All-nil, All-push, All-tail}
use Rattle.std.proofs.lemmas.List.Sums.{fold_push}
use Rattle.clap.specs.Built.{AddsArg, AddsInTurn}
use Rattle.clap.specs.Simple.{App, HasMatchesOf, app_of, with_rule}
use Rattle.clap.specs.Walk.{Rule, rule_of}
use Rattle.clap.specs.Faults.{fault_of, is_simple_and_free}
use Rattle.clap.specs.Kinds.{FailsBy}
use Rattle.clap.specs.Values.{kind_of}
use Rattle.clap.specs.declared.error.kind.ErrorKind.TheVariants.{OutOfMemory}
use Rattle.clap.specs.declared.builder.arg.Arg.{Arg}
use Rattle.clap.specs.declared.builder.command.Command.{Command}
use Rattle.clap.specs.declared.parser.matches.ArgMatches.{ArgMatches}
use Rattle.clap.specs.declared.error.Error.{Error}
use Rattle.clap.specs.Simple.{new_rule}
use Rattle.clap.specs.declared.builder.action.ArgAction.TheVariants.{SetTrue}
use denote.Bor.{Bor}
use Rattle.route_words.specs.inner.Forms.{Adds, IsPlainForm, Makes, Reads, bare_app, check_app, flag, gen_app}
use Rattle.route_words.specs.inner.Forms.{route_app}

abbrev step : App → Arg → App
step a x = with_rule a (rule_of x)

-- one more argument that isn't global
pub adds_one : (old new : List Arg) (x : Arg) (r : Rule) → new ≡ old ++ x ∷ [] → rule_of x ≡ r → x.global ≡ false
    → Adds (r ∷ []) old new
adds_one old new x r is rule local app made = record {
  is = ap (fold step bare_app) is ∙ fold_push step bare_app old x ∙ ap (λ (a : App). with_rule a (rule_of x)) made.is
      ∙ ap (with_rule app) rule;
  local = subst (All (λ (a : Arg). a.global ≡ false)) (sym is) (All-push (λ (a : Arg). a.global ≡ false) old x
      made.local local);
}

-- an argument that was given its long name and its action is a flag
pub flag_is : (name : Bor (List ℕ)) (x y z : Arg) → rule_of x ≡ new_rule name.now → x.global ≡ false
    → y ≡ record x { long = Some name } → z ≡ record y { action = Some SetTrue }
    → (rule_of z ≡ flag name.now) × (z.global ≡ false)
flag_is name x y z rule local long acts =
    rw (acts, long) (ap (λ (r : Rule). record r { long = Some name.now; action = Some SetTrue }) rule, local)

-- what comes in turn makes what the rules make
pub adds_in_turn : (args : List Arg) (old new : Command) → AddsInTurn AddsArg old args new
    → All (λ (a : Arg). a.global ≡ false) args → app_of new ≡ fold step (app_of old) args
adds_in_turn [] old new added local = ap app_of (sym added)
adds_in_turn (x ∷ args) old new (m, first, rest) local =
    adds_in_turn args m new rest (All-tail (λ (a : Arg). a.global ≡ false) x args local)
    ∙ ap (λ (a : App). fold step a args) (first.shape (All-head (λ (a : Arg). a.global ≡ false) x args local))

pub form_makes : (args : List Arg) (old new : Command) → app_of old ≡ bare_app → AddsInTurn AddsArg old args new
    → (app : App) → Makes args app → app_of new ≡ app
form_makes args old new bare added app made =
    adds_in_turn args old new added made.local ∙ ap (λ (a : App). fold step a args) bare ∙ made.is

pub none_make : Makes [] bare_app
none_make = record { is = refl; local = All-nil (λ (a : Arg). a.global ≡ false) }

pub route_is_plain : IsPlainForm route_app
route_is_plain = record { simple = refl; free = refl }

pub check_is_plain : IsPlainForm check_app
check_is_plain = record { simple = refl; free = refl }

pub gen_is_plain : IsPlainForm gen_app
gen_is_plain = record { simple = refl; free = refl }

read_by : (app : App) → IsPlainForm app → (words : List (List ℕ)) (r : Result ArgMatches Error)
    → IfOk r (HasMatchesOf app words)
    → (is_simple_and_free app ≡ true → FailsBy (fault_of app words) r) → Reads app words r
read_by app plain words (Ok m) matches kinds = (kinds plain.free, (matches plain.simple).0)
read_by app plain words (Err e) matches kinds = kinds plain.free

pub form_reads : (app is_app : App) → is_app ≡ app → IsPlainForm app → (words : List (List ℕ))
    (r : Result ArgMatches Error) → IfOk r (HasMatchesOf is_app words)
    → (is_simple_and_free is_app ≡ true → FailsBy (fault_of is_app words) r) → Reads app words r
form_reads app is_app is plain words r matches kinds =
    read_by app plain words r (subst (λ (a : App). IfOk r (HasMatchesOf a words)) is matches)
    (subst (λ (a : App). is_simple_and_free a ≡ true → FailsBy (fault_of a words) r) is kinds)

-- want of memory in place of what is read
pub read_without_memory : (app : App) (words : List (List ℕ)) (r : Result ArgMatches Error)
    → IsErrAnd r (λ (e : Error). kind_of e ≡ OutOfMemory) → Reads app words r
read_without_memory app words (Ok m) wanting = absurd wanting
read_without_memory app words (Err e) wanting = inl wanting
