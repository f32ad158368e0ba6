-- What a command means, by what `clap` holds of its words.
use Rattle.std.proofs.Common.{◌≡◌, ◌∙◌, ◌+◌, ◌≤◌, ℕ, Bool, true, refl, sym, ap, arith, nat_lt, true≢false}
use Rattle.std.proofs.Common.{List, [], ◌∷◌, length, Option, Some, None, slice_get, codes, is_some, Result, Err}
use Rattle.std.proofs.lemmas.Bool.{ltb-true}
use Rattle.clap.specs.Matches.{first_value}
use Rattle.clap.specs.declared.parser.matches.Found.{Found}
use Rattle.route_words.specs.inner.Forms.{FindsCheck, FindsGen, FindsRoute, Holds, HoldsCheck, HoldsRoute}
use Rattle.route_words.specs.inner.Forms.{is_on, knobs_found}
use Rattle.route_words.specs.Parts.{Form, Part, Word, fit_from, name, names_in, option, parts_of, stray, value_in}
use Rattle.route_words.specs.Words.{Says, check_form, check_of, check_with, gen_form, gen_of, gen_with, knobs_of}
use Rattle.route_words.specs.Words.{route_form, route_of, route_with}
use Rattle.route_words.specs.declared.command.Command.{Command}
use Rattle.route_words.specs.declared.command.WordFault.{WordFault}
use Rattle.route_words.specs.declared.command.Knobs.{Knobs}
use Rattle.route_words.specs.declared.command.WordFault.TheVariants.{Memory, NoCommand, UnknownCommand, Usage}
use Rattle.route_words.proofs.Bools.{and_left, and_right}

-- parts that fit have no more names than the form
few_names : (f : Form) (parts : List Part) (seen : List Word) (n : ℕ) → n ≤ f.names → fit_from f seen n parts ≡ true
    → n + length (names_in parts) ≤ f.names
few_names f [] seen n le fits = omega arith
few_names f (name t ∷ parts) seen n le fits =
    let below = ltb-true n f.names (and_left (nat_lt n f.names) (fit_from f seen (n + 1) parts) fits) in
    let next : n + 1 ≤ f.names = omega arith in
    let rest : n + 1 + length (names_in parts) ≤ f.names = few_names f parts seen (n + 1) next
    (and_right (nat_lt n f.names) (fit_from f seen (n + 1) parts) fits) in
    omega arith
few_names f (option x v ∷ parts) seen n le fits = few_names f parts (x ∷ seen) n le (and_right _ _ (and_right _ _ fits))
few_names f (stray ∷ parts) seen n le fits = absurd (true≢false (sym fits))

-- ---- route

two_names : (names : List Word) (a b : Word) → length names ≤ 2 → slice_get names 0 ≡ Some a → slice_get names 1
    ≡ Some b → names ≡ a ∷ b ∷ []
two_names [] a b few first second = cc
two_names (x ∷ []) a b few first second = cc
two_names (x ∷ y ∷ []) a b few first second = cc
two_names (x ∷ y ∷ z ∷ names) a b few first second = absurd (omega arith)

no_first : (names : List Word) (from : Option Word) (diagonal : Bool) (knobs : Option Knobs)
    → slice_get names 0 ≡ None → route_with names from diagonal knobs ≡ Err Usage
no_first [] from diagonal knobs none = refl
no_first (x ∷ names) from diagonal knobs none = cc

no_second : (names : List Word) (from : Option Word) (diagonal : Bool) (knobs : Option Knobs)
    → slice_get names 1 ≡ None → route_with names from diagonal knobs ≡ Err Usage
no_second [] from diagonal knobs none = refl
no_second (x ∷ []) from diagonal knobs none = refl
no_second (x ∷ y ∷ names) from diagonal knobs none = cc

without_knobs : (names : List Word) (from : Option Word) (diagonal : Bool)
    → route_with names from diagonal None ≡ Err Usage
without_knobs [] from diagonal = refl
without_knobs (x ∷ []) from diagonal = refl
without_knobs (x ∷ y ∷ []) from diagonal = refl
without_knobs (x ∷ y ∷ z ∷ names) from diagonal = refl

module _ (words : List Word) (f : Found) (holds : HoldsRoute (parts_of route_form words) f) where
  knobs_are : knobs_found f ≡ knobs_of (parts_of route_form words)
  knobs_are = rw (
    holds.held.values (codes "grid") refl,
    holds.held.values (codes "workers") refl,
    holds.held.values (codes "passes") refl,
    holds.held.values (codes "via-cost") refl,
    holds.held.values (codes "tries") refl,
    holds.omits,
  ) refl

  -- the file of the earlier session, if one is named
  abbrev from_found : Option Word
  from_found = first_value f (codes "from")

  -- whether moves at 45 degrees are asked for
  abbrev diagonal_found : Bool
  diagonal_found = is_on (first_value f (codes "diagonal"))

  -- the command by these
  abbrev made_of : Option Word → Bool → Option Knobs → Result Command WordFault
  made_of from diagonal knobs = route_with (names_in (parts_of route_form words)) from diagonal knobs

  route_is : route_of words ≡ made_of from_found diagonal_found (knobs_found f)
  route_is =
      rw holds.held.fits
      (ap (made_of (value_in (codes "from") (parts_of route_form words))
      (is_some (value_in (codes "diagonal") (parts_of route_form words)))) (sym knobs_are)
      ∙ ap (λ (from : Option Word). made_of from (is_some (value_in (codes "diagonal") (parts_of route_form words)))
      (knobs_found f)) (sym (holds.held.values (codes "from") refl))
      ∙ ap (λ (b : Bool). made_of from_found b (knobs_found f)) (sym holds.slants))

  pub no_input : first_value f (codes "input") ≡ None → route_of words ≡ Err Usage
  no_input none = route_is ∙ no_first _ _ _ _ (sym (holds.held.names 0 (codes "input") refl) ∙ none)

  pub no_output : first_value f (codes "output") ≡ None → route_of words ≡ Err Usage
  no_output none = route_is ∙ no_second _ _ _ _ (sym (holds.held.names 1 (codes "output") refl) ∙ none)

  pub no_knobs : knobs_found f ≡ None → route_of words ≡ Err Usage
  no_knobs none = route_is ∙ rw none (without_knobs (names_in (parts_of route_form words)) from_found diagonal_found)

  pub route_named : (a b : Word) (knobs : Knobs) → first_value f (codes "input") ≡ Some a
      → first_value f (codes "output") ≡ Some b
      → knobs_found f ≡ Some knobs
      → route_of words ≡ route_with (a ∷ b ∷ []) from_found diagonal_found (Some knobs)
  route_named a b knobs first second given =
      let few = few_names route_form (parts_of route_form words) [] 0 (omega arith) holds.held.fits in
      let names = two_names (names_in (parts_of route_form words)) a b (omega arith)
      (sym (holds.held.names 0 (codes "input") refl) ∙ first) (sym (holds.held.names 1 (codes "output") refl) ∙ second)
      in
      route_is ∙ rw (names, given) refl

-- words that don't fit the form of `route`
pub route_misfit : (words : List Word) (fault : WordFault) → FindsRoute words (Err fault)
    → Says (route_of words) (Err fault)
route_misfit words (Memory e) found = tt
route_misfit words Usage found = rw found refl
route_misfit words NoCommand found = absurd found
route_misfit words UnknownCommand found = absurd found

-- ---- check

-- words that don't fit the form of `check`
pub check_misfit : (words : List Word) (fault : WordFault) → FindsCheck words (Err fault)
    → Says (check_of words) (Err fault)
check_misfit words (Memory e) found = tt
check_misfit words Usage found = rw found refl
check_misfit words NoCommand found = absurd found
check_misfit words UnknownCommand found = absurd found

three_names : (names : List Word) (a b d : Word) → length names ≤ 3 → slice_get names 0 ≡ Some a
    → slice_get names 1 ≡ Some b → slice_get names 2 ≡ Some d → names ≡ a ∷ b ∷ d ∷ []
three_names [] a b d few first second third = cc
three_names (x ∷ []) a b d few first second third = cc
three_names (x ∷ y ∷ []) a b d few first second third = cc
three_names (x ∷ y ∷ z ∷ []) a b d few first second third = cc
three_names (x ∷ y ∷ z ∷ w ∷ names) a b d few first second third = absurd (omega arith)

without_first : (names : List Word) → slice_get names 0 ≡ None → check_with names ≡ Err Usage
without_first [] none = refl
without_first (x ∷ names) none = cc

without_second : (names : List Word) → slice_get names 1 ≡ None → check_with names ≡ Err Usage
without_second [] none = refl
without_second (x ∷ []) none = refl
without_second (x ∷ y ∷ names) none = cc

without_third : (names : List Word) → slice_get names 2 ≡ None → check_with names ≡ Err Usage
without_third [] none = refl
without_third (x ∷ []) none = refl
without_third (x ∷ y ∷ []) none = refl
without_third (x ∷ y ∷ z ∷ names) none = cc

module _ (words : List Word) (f : Found) (holds : HoldsCheck (parts_of check_form words) f) where
  check_is : check_of words ≡ check_with (names_in (parts_of check_form words))
  check_is = rw holds.fits refl

  pub no_design : first_value f (codes "input") ≡ None → check_of words ≡ Err Usage
  no_design none = check_is ∙ without_first _ (sym (holds.names 0 (codes "input") refl) ∙ none)

  pub no_session : first_value f (codes "session") ≡ None → check_of words ≡ Err Usage
  no_session none = check_is ∙ without_second _ (sym (holds.names 1 (codes "session") refl) ∙ none)

  pub no_report : first_value f (codes "report") ≡ None → check_of words ≡ Err Usage
  no_report none = check_is ∙ without_third _ (sym (holds.names 2 (codes "report") refl) ∙ none)

  pub check_named : (a b d : Word) → first_value f (codes "input") ≡ Some a → first_value f (codes "session") ≡ Some b
      → first_value f (codes "report") ≡ Some d → check_of words ≡ check_with (a ∷ b ∷ d ∷ [])
  check_named a b d first second third =
      let few = few_names check_form (parts_of check_form words) [] 0 (omega arith) holds.fits in
      let names = three_names (names_in (parts_of check_form words)) a b d (omega arith)
      (sym (holds.names 0 (codes "input") refl) ∙ first) (sym (holds.names 1 (codes "session") refl) ∙ second)
      (sym (holds.names 2 (codes "report") refl) ∙ third) in
      check_is ∙ rw names refl

-- ---- gen

-- words that don't fit the form of `gen`
pub gen_misfit : (words : List Word) (fault : WordFault) → FindsGen words (Err fault) → Says (gen_of words) (Err fault)
gen_misfit words (Memory e) found = tt
gen_misfit words Usage found = rw found refl
gen_misfit words NoCommand found = absurd found
gen_misfit words UnknownCommand found = absurd found

one_name : (names : List Word) (a : Word) → length names ≤ 1 → slice_get names 0 ≡ Some a → names ≡ a ∷ []
one_name [] a few first = cc
one_name (x ∷ []) a few first = cc
one_name (x ∷ y ∷ names) a few first = absurd (omega arith)

no_name : (names : List Word) → slice_get names 0 ≡ None → gen_with names ≡ Err Usage
no_name [] none = refl
no_name (x ∷ names) none = cc

module _ (words : List Word) (f : Found) (holds : Holds gen_form (codes "number" ∷ []) (parts_of gen_form words) f)
  where
    gen_is : gen_of words ≡ gen_with (names_in (parts_of gen_form words))
    gen_is = rw holds.fits refl

    pub no_number : first_value f (codes "number") ≡ None → gen_of words ≡ Err Usage
    no_number none = gen_is ∙ no_name _ (sym (holds.names 0 (codes "number") refl) ∙ none)

    pub gen_named : (a : Word) → first_value f (codes "number") ≡ Some a → gen_of words ≡ gen_with (a ∷ [])
    gen_named a first =
        let few = few_names gen_form (parts_of gen_form words) [] 0 (omega arith) holds.fits in
        let names = one_name (names_in (parts_of gen_form words)) a (omega arith)
        (sym (holds.names 0 (codes "number") refl) ∙ first) in
        gen_is ∙ rw names refl
