-- The rules of the form of `gen`.
use Rattle.std.proofs.Common.{◌≡◌, ◌+◌, ◌||◌, ℕ, Bool, true, false, zero, suc, refl, sym, arith, true≢false}
use Rattle.std.proofs.Common.{List, [], get_or, ◌∙◌, Some, None, if◌then◌else◌, nat_lt, codes, fold}
use Rattle.std.specs.Str.{bytes_eq}
use Rattle.std.proofs.lemmas.Bool.{ltb-true, ne_eqb}
use Rattle.clap.specs.Walk.{Row, Rule, arg_by_id, arg_by_index, with_default}
use Rattle.clap.specs.Simple.{built, new_rule}
use Rattle.clap.specs.Faults.{check_fault, defaults_fault}
use Rattle.route_words.specs.inner.Forms.{gen_app}
use Rattle.route_words.specs.Parts.{Word}
use Rattle.route_words.specs.Words.{gen_form}
use Rattle.route_words.proofs.Finding.{no_default}
use Rattle.route_words.proofs.Fitting.{PassesAfter}
use Rattle.route_words.proofs.Routes.{default_passes}
use Rattle.route_words.proofs.Walking.{P, Serves, shape_with}

abbrev pub gen_rules : List Rule
gen_rules = (built gen_app).top.rules

abbrev id : ℕ → Word
id n = codes "number"

abbrev rule_of_number : Rule
rule_of_number = get_or gen_rules 0 (new_rule [])

not_below : (n : ℕ) → nat_lt (suc n) 1 ≡ false
not_below n = by (nat_lt (suc n) 1) refl
  where
    by : (b : Bool) → nat_lt (suc n) 1 ≡ b → nat_lt (suc n) 1 ≡ false
    by true e = absurd (omega (arith, ltb-true (suc n) 1 e))
    by false e = e

by_index : (n : ℕ) → arg_by_index gen_rules (n + 1) ≡ (if nat_lt n 1 then Some (P (id n) (n + 1)) else None)
by_index zero = refl
by_index (suc n) = rw (ne_eqb 1 (suc n + 1) (λ e. omega (arith, e)), not_below n) refl

by_name : (n : ℕ) → nat_lt n 1 ≡ true → arg_by_id gen_rules (id n) ≡ Some (P (id n) (n + 1))
by_name zero lt = refl
by_name (suc n) lt = absurd (true≢false (sym lt ∙ not_below n))

counts : (m n : ℕ) → nat_lt m 1 ≡ true → nat_lt n 1 ≡ true → (nat_lt m n || (bytes_eq (id n) (id m) || false))
    ≡ nat_lt m (n + 1)
counts zero zero a b = refl
counts (suc m) n a b = absurd (true≢false (sym a ∙ not_below m))
counts zero (suc n) a b = absurd (true≢false (sym b ∙ not_below n))

pub gen_serves : Serves gen_form gen_rules
gen_serves = record {
  by_long = λ x. refl;
  by_id = λ x known. absurd (true≢false (sym known));
  id = id;
  by_index = by_index;
  by_name = by_name;
  no_short = λ x. refl;
  next = λ n lt. omega (arith, ltb-true n 1 lt);
  apart = λ m lt x mine. absurd (true≢false (sym mine));
  counts = counts;
}

defaults_pass : (rows : List Row) → defaults_fault rows gen_rules ≡ []
unfolding defaults_fault
defaults_pass rows = rw (default_passes rows (rule_of_number) refl) refl

pub gen_passes : PassesAfter gen_rules
gen_passes = record { defaults = defaults_pass; checks = checks_pass }
  where
    checks_pass : (rows : List Row) (entered : Bool) → check_fault (shape_with gen_rules) rows entered ≡ []
    checks_pass rows true = refl
    checks_pass rows false = refl

pub gen_defaults : (rows : List Row) → fold with_default rows gen_rules ≡ rows
gen_defaults rows = no_default rows rule_of_number refl

pub gen_id : (m : ℕ) → gen_serves.id m ≡ codes "number"
unfolding gen_serves
gen_id m = refl
