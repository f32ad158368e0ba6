-- What a parse by `clap` holds of the words after a command.
use Rattle.std.proofs.Common.{◌≡◌, ◌∙◌, ℕ, true, false, zero, suc, refl, sym, ap, arith, true≢false}
use Rattle.std.proofs.Common.{List, [], ◌∷◌, Some, is_some, slice_get, codes, nat_lt, subst, inl, inr, String, Ok, Err}
use Rattle.std.specs.Str.{bytes_eq}
use Rattle.std.specs.declared.alloc.Global.{Global}
use Rattle.clap.specs.Walk.{Row, first_of, rows_of, with_default}
use Rattle.clap.specs.Matches.{first_value, found_of}
use Rattle.clap.specs.Kinds.{IsAmong, Kinds}
use Rattle.clap.specs.Values.{kind_of}
use Rattle.clap.specs.Faults.{fault_of}
use Rattle.clap.specs.Simple.{matches_of}
use Rattle.clap.proofs.WalkLemmas.{first_value-rows}
use Rattle.clap.specs.declared.error.Error.{Error}
use Rattle.clap.specs.declared.error.kind.ErrorKind.{ErrorKind}
use Rattle.clap.specs.declared.error.kind.ErrorKind.TheVariants.{OutOfMemory}
use Rattle.clap.specs.declared.parser.matches.ArgMatches.{ArgMatches}
use Rattle.clap.specs.declared.parser.matches.Found.{Found}
use Rattle.route_words.specs.inner.Forms.{FindsCheck, FindsGen, FindsRoute, Holds, HoldsCheck, HoldsRoute, Reads}
use Rattle.route_words.specs.inner.Forms.{check_app, fault_by, gen_app, is_on, route_app}
use Rattle.route_words.specs.Parts.{Word, fit, has, parts_of, names_in, value_in}
use Rattle.route_words.specs.Words.{check_form, gen_form, route_form, texts}
use Rattle.route_words.proofs.Checks.{check_defaults, check_id, check_passes, check_rules, check_serves, file_id}
use Rattle.route_words.proofs.Finding.{flag_default, flag_text, name_found, option_found, other_default}
use Rattle.route_words.proofs.Fitting.{fits, rows_are}
use Rattle.route_words.proofs.Gens.{gen_defaults, gen_id, gen_passes, gen_rules, gen_serves}
use Rattle.route_words.proofs.Laying.{laid}
use Rattle.route_words.proofs.Routes.{IsNoFlag, flag_apart, name_id, route_id, route_defaults, route_passes}
use Rattle.route_words.proofs.Routes.{route_rules, route_serves, rule_at, with_flags}
use Rattle.route_words.proofs.Spelling.{words_spelt}
use Rattle.route_words.proofs.Walking.{clear}

-- an error that isn't want of memory comes of a fault
unclear : (ks : Kinds) (e : Error) → IsAmong (kind_of e) ks → clear ks ≡ false
unclear [] e among = absurd among
unclear (k ∷ ks) e among = refl

-- ---- route

route_fits : (words : List (String Global)) → clear (fault_of route_app (texts words))
    ≡ fit route_form (parts_of route_form (texts words))
route_fits words = fits route_form route_rules route_serves route_passes (texts words) (words_spelt words)

route_row : (words : List Word) → fit route_form (parts_of route_form words) ≡ true
    → matches_of route_app words ≡ with_flags (laid route_form route_rules route_serves 0 (parts_of route_form words))
route_row words fit_is = rows_are route_form route_rules route_serves words fit_is
    ∙ route_defaults (laid route_form route_rules route_serves 0 (parts_of route_form words))

module _ (words : List Word) (f : Found) (fit_is : fit route_form (parts_of route_form words) ≡ true)
    (rows_is : rows_of f ≡ matches_of route_app words) where
  abbrev route_rows : List Row
  route_rows = laid route_form route_rules route_serves 0 (parts_of route_form words)

  -- with the default of one flag
  abbrev first_rows : List Row
  first_rows = with_default route_rows (rule_at 7)

  route_found : (x : Word) → first_value f x ≡ first_of x (with_flags route_rows)
  route_found x = first_value-rows f x ∙ ap (first_of x) (rows_is ∙ route_row words fit_is)

  -- no default of a flag changes what another word has
  route_other : (x : Word) → IsNoFlag x → first_value f x ≡ first_of x route_rows
  route_other x apart =
      route_found x ∙ other_default x first_rows (rule_at 9) (codes "false") refl apart.1
      ∙ other_default x route_rows (rule_at 7) (codes "false") refl apart.0

  route_name : (m : ℕ) → nat_lt m 2 ≡ true → IsNoFlag (name_id m)
      → first_value f (name_id m) ≡ slice_get (names_in (parts_of route_form words)) m
  route_name m below apart =
      route_other (name_id m) apart
      ∙ subst (λ t. first_of t route_rows ≡ slice_get (names_in (parts_of route_form words)) m) (route_id m)
      (name_found route_form route_rules route_serves m m 0 (omega arith) below (parts_of route_form words) [] fit_is)

  route_names : (k : ℕ) (id : Word) → slice_get (codes "input" ∷ codes "output" ∷ []) k ≡ Some id
      → first_value f id ≡ slice_get (names_in (parts_of route_form words)) k
  route_names zero id is =
      let same : codes "input" ≡ id = cc in
      subst (λ t. first_value f t ≡ slice_get (names_in (parts_of route_form words)) 0) same
      (route_name 0 refl (refl, refl))
  route_names (suc zero) id is =
      let same : codes "output" ≡ id = cc in
      subst (λ t. first_value f t ≡ slice_get (names_in (parts_of route_form words)) 1) same
      (route_name 1 refl (refl, refl))
  route_names (suc (suc k)) id is = cc

  route_value : (x : Word) → has route_form.valued x ≡ true → first_value f x ≡ value_in x (parts_of route_form words)
  route_value x known =
      route_other x (flag_apart x known)
      ∙ option_found route_form route_rules route_serves x (rw known refl) (parts_of route_form words) [] 0 fit_is

  route_omits : is_on (first_value f (codes "omit-fixed"))
      ≡ is_some (value_in (codes "omit-fixed") (parts_of route_form words))
  route_omits =
      ap is_on (route_found (codes "omit-fixed")
      ∙ other_default (codes "omit-fixed") first_rows (rule_at 9) (codes "false") refl refl)
      ∙ flag_default route_rows (rule_at 7) refl
      ∙ ap is_on (option_found route_form route_rules route_serves (codes "omit-fixed") refl (parts_of route_form words)
      [] 0 fit_is)
      ∙ flag_text route_form (codes "omit-fixed") refl (parts_of route_form words) [] 0 fit_is

  route_slants : is_on (first_value f (codes "diagonal"))
      ≡ is_some (value_in (codes "diagonal") (parts_of route_form words))
  route_slants =
      ap is_on (route_found (codes "diagonal")) ∙ flag_default first_rows (rule_at 9) refl
      ∙ ap is_on (other_default (codes "diagonal") route_rows (rule_at 7) (codes "false") refl refl
      ∙ option_found route_form route_rules route_serves (codes "diagonal") refl (parts_of route_form words) [] 0
      fit_is)
      ∙ flag_text route_form (codes "diagonal") refl (parts_of route_form words) [] 0 fit_is

  route_holds : HoldsRoute (parts_of route_form words) f
  route_holds = record {
    held = record { fits = fit_is; values = route_value; names = route_names };
    omits = route_omits;
    slants = route_slants;
  }

pub route_found_in : (words : List (String Global)) (m : ArgMatches) → Reads route_app (texts words) (Ok m)
    → HoldsRoute (parts_of route_form (texts words)) (found_of m)
route_found_in words m reads = route_holds (texts words) (found_of m) (sym (route_fits words) ∙ ap clear reads.0)
    reads.1

pub route_refused : (words : List (String Global)) (e : Error) → Reads route_app (texts words) (Err e)
    → FindsRoute (texts words) (Err (fault_by (kind_of e)))
route_refused words e (inl memory) = rw memory tt
route_refused words e (inr among) = by (kind_of e) (sym (route_fits words) ∙ unclear _ e among)
  where
    by : (k : ErrorKind) → fit route_form (parts_of route_form (texts words)) ≡ false
        → FindsRoute (texts words) (Err (fault_by k))
    by OutOfMemory misfit = tt
    by _ misfit = misfit

-- ---- check

check_fits : (words : List (String Global)) → clear (fault_of check_app (texts words))
    ≡ fit check_form (parts_of check_form (texts words))
check_fits words = fits check_form check_rules check_serves check_passes (texts words) (words_spelt words)

check_row : (words : List Word) → fit check_form (parts_of check_form words) ≡ true
    → matches_of check_app words ≡ laid check_form check_rules check_serves 0 (parts_of check_form words)
check_row words fit_is = rows_are check_form check_rules check_serves words fit_is
    ∙ check_defaults (laid check_form check_rules check_serves 0 (parts_of check_form words))

module _ (words : List Word) (f : Found) (fit_is : fit check_form (parts_of check_form words) ≡ true)
    (rows_is : rows_of f ≡ matches_of check_app words) where
  check_name : (m : ℕ) → nat_lt m 3 ≡ true
      → first_value f (file_id m) ≡ slice_get (names_in (parts_of check_form words)) m
  check_name m below =
      first_value-rows f (file_id m) ∙ ap (first_of (file_id m)) (rows_is ∙ check_row words fit_is)
      ∙ subst (λ t. first_of t (laid check_form check_rules check_serves 0 (parts_of check_form words))
      ≡ slice_get (names_in (parts_of check_form words)) m)
      (check_id m) (name_found check_form check_rules check_serves m m 0 (omega arith) below (parts_of check_form words)
      [] fit_is)

  check_names : (k : ℕ) (id : Word) → slice_get (codes "input" ∷ codes "session" ∷ codes "report" ∷ []) k ≡ Some id
      → first_value f id ≡ slice_get (names_in (parts_of check_form words)) k
  check_names zero id is =
      let same : codes "input" ≡ id = cc in
      subst (λ t. first_value f t ≡ slice_get (names_in (parts_of check_form words)) 0) same (check_name 0 refl)
  check_names (suc zero) id is =
      let same : codes "session" ≡ id = cc in
      subst (λ t. first_value f t ≡ slice_get (names_in (parts_of check_form words)) 1) same (check_name 1 refl)
  check_names (suc (suc zero)) id is =
      let same : codes "report" ≡ id = cc in
      subst (λ t. first_value f t ≡ slice_get (names_in (parts_of check_form words)) 2) same (check_name 2 refl)
  check_names (suc (suc (suc k))) id is = cc

  check_holds : HoldsCheck (parts_of check_form words) f
  check_holds = record { fits = fit_is; values = λ x known. absurd (true≢false (sym known)); names = check_names }

pub check_found_in : (words : List (String Global)) (m : ArgMatches) → Reads check_app (texts words) (Ok m)
    → HoldsCheck (parts_of check_form (texts words)) (found_of m)
check_found_in words m reads = check_holds (texts words) (found_of m) (sym (check_fits words) ∙ ap clear reads.0)
    reads.1

pub check_refused : (words : List (String Global)) (e : Error) → Reads check_app (texts words) (Err e)
    → FindsCheck (texts words) (Err (fault_by (kind_of e)))
check_refused words e (inl memory) = rw memory tt
check_refused words e (inr among) = by (kind_of e) (sym (check_fits words) ∙ unclear _ e among)
  where
    by : (k : ErrorKind) → fit check_form (parts_of check_form (texts words)) ≡ false
        → FindsCheck (texts words) (Err (fault_by k))
    by OutOfMemory misfit = tt
    by _ misfit = misfit

-- ---- gen

gen_fits : (words : List (String Global)) → clear (fault_of gen_app (texts words))
    ≡ fit gen_form (parts_of gen_form (texts words))
gen_fits words = fits gen_form gen_rules gen_serves gen_passes (texts words) (words_spelt words)

gen_row : (words : List Word) → fit gen_form (parts_of gen_form words) ≡ true
    → matches_of gen_app words ≡ laid gen_form gen_rules gen_serves 0 (parts_of gen_form words)
gen_row words fit_is = rows_are gen_form gen_rules gen_serves words fit_is
    ∙ gen_defaults (laid gen_form gen_rules gen_serves 0 (parts_of gen_form words))

module _ (words : List Word) (f : Found) (fit_is : fit gen_form (parts_of gen_form words) ≡ true)
    (rows_is : rows_of f ≡ matches_of gen_app words) where
  gen_names : (k : ℕ) (id : Word) → slice_get (codes "number" ∷ []) k ≡ Some id
      → first_value f id ≡ slice_get (names_in (parts_of gen_form words)) k
  gen_names zero id is =
      let same : codes "number" ≡ id = cc in
      subst (λ t. first_value f t ≡ slice_get (names_in (parts_of gen_form words)) 0) same
      (first_value-rows f (codes "number") ∙ ap (first_of (codes "number")) (rows_is ∙ gen_row words fit_is)
      ∙ subst (λ t. first_of t (laid gen_form gen_rules gen_serves 0 (parts_of gen_form words))
      ≡ slice_get (names_in (parts_of gen_form words)) 0)
      (gen_id 0) (name_found gen_form gen_rules gen_serves 0 0 0 refl refl (parts_of gen_form words) [] fit_is))
  gen_names (suc k) id is = cc

  gen_holds : Holds gen_form (codes "number" ∷ []) (parts_of gen_form words) f
  gen_holds = record { fits = fit_is; values = λ x known. absurd (true≢false (sym known)); names = gen_names }

pub gen_found_in : (words : List (String Global)) (m : ArgMatches) → Reads gen_app (texts words) (Ok m)
    → Holds gen_form (codes "number" ∷ []) (parts_of gen_form (texts words)) (found_of m)
gen_found_in words m reads = gen_holds (texts words) (found_of m) (sym (gen_fits words) ∙ ap clear reads.0) reads.1

pub gen_refused : (words : List (String Global)) (e : Error) → Reads gen_app (texts words) (Err e)
    → FindsGen (texts words) (Err (fault_by (kind_of e)))
gen_refused words e (inl memory) = rw memory tt
gen_refused words e (inr among) = by (kind_of e) (sym (gen_fits words) ∙ unclear _ e among)
  where
    by : (k : ErrorKind) → fit gen_form (parts_of gen_form (texts words)) ≡ false
        → FindsGen (texts words) (Err (fault_by k))
    by OutOfMemory misfit = tt
    by _ misfit = misfit
