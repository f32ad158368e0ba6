-- The rules of the form of `check`.
use Rattle.std.proofs.Common.{◌≡◌, ◌+◌, ◌||◌, ℕ, Bool, true, false, zero, suc, refl, sym, arith, true≢false}
use Rattle.std.proofs.Common.{List, [], get_or, Some, None, if◌then◌else◌, nat_lt, codes, fold}
use Rattle.std.specs.Str.{bytes_eq}
use Rattle.std.proofs.lemmas.Bool.{ltb-true, ne_eqb}
use Rattle.clap.specs.Walk.{Row, Rule, arg_by_id, arg_by_index, with_default}
use Rattle.clap.specs.Simple.{built, new_rule}
use Rattle.clap.specs.Faults.{check_fault, defaults_fault}
use Rattle.route_words.specs.inner.Forms.{check_app}
use Rattle.route_words.specs.Parts.{Word}
use Rattle.route_words.specs.Words.{check_form}
use Rattle.route_words.proofs.Finding.{no_default}
use Rattle.route_words.proofs.Fitting.{PassesAfter}
use Rattle.route_words.proofs.Routes.{default_passes}
use Rattle.route_words.proofs.Walking.{P, Serves, shape_with}

abbrev pub check_rules : List Rule
check_rules = (built check_app).top.rules

abbrev pub file_id : ℕ → Word
file_id zero = codes "input"
file_id (suc zero) = codes "session"
file_id (suc (suc n)) = codes "report"

abbrev rule_at : ℕ → Rule
rule_at n = get_or check_rules n (new_rule [])

not_below : (n : ℕ) → nat_lt (suc (suc (suc n))) 3 ≡ false
not_below n = by (nat_lt (suc (suc (suc n))) 3) refl
  where
    by : (b : Bool) → nat_lt (suc (suc (suc n))) 3 ≡ b → nat_lt (suc (suc (suc n))) 3 ≡ false
    by true e = absurd (omega (arith, ltb-true (suc (suc (suc n))) 3 e))
    by false e = e

by_index : (n : ℕ) → arg_by_index check_rules (n + 1) ≡ (if nat_lt n 3 then Some (P (file_id n) (n + 1)) else None)
by_index zero = refl
by_index (suc zero) = refl
by_index (suc (suc zero)) = refl
by_index (suc (suc (suc n))) = rw (
  ne_eqb 1 (suc (suc (suc n)) + 1) (λ e. omega (arith, e)),
  ne_eqb 2 (suc (suc (suc n)) + 1)
      (λ e. omega (arith, e)),
  ne_eqb 3 (suc (suc (suc n)) + 1)
      (λ e. omega (arith, e)),
  not_below n,
) refl

by_name : (n : ℕ) → nat_lt n 3 ≡ true → arg_by_id check_rules (file_id n) ≡ Some (P (file_id n) (n + 1))
by_name zero lt = refl
by_name (suc zero) lt = refl
by_name (suc (suc zero)) lt = refl
by_name (suc (suc (suc n))) lt = absurd (omega (arith, ltb-true (suc (suc (suc n))) 3 lt))

counts : (m n : ℕ) → nat_lt m 3 ≡ true → nat_lt n 3 ≡ true → (nat_lt m n || (bytes_eq (file_id n) (file_id m) || false))
    ≡ nat_lt m (n + 1)
counts zero zero a b = refl
counts zero (suc zero) a b = refl
counts zero (suc (suc zero)) a b = refl
counts (suc zero) zero a b = refl
counts (suc zero) (suc zero) a b = refl
counts (suc zero) (suc (suc zero)) a b = refl
counts (suc (suc zero)) zero a b = refl
counts (suc (suc zero)) (suc zero) a b = refl
counts (suc (suc zero)) (suc (suc zero)) a b = refl
counts (suc (suc (suc m))) n a b = absurd (omega (arith, ltb-true (suc (suc (suc m))) 3 a))
counts zero (suc (suc (suc n))) a b = absurd (omega (arith, ltb-true (suc (suc (suc n))) 3 b))
counts (suc zero) (suc (suc (suc n))) a b = absurd (omega (arith, ltb-true (suc (suc (suc n))) 3 b))
counts (suc (suc zero)) (suc (suc (suc n))) a b = absurd (omega (arith, ltb-true (suc (suc (suc n))) 3 b))

pub check_serves : Serves check_form check_rules
check_serves = record {
  by_long = λ x. refl;
  by_id = λ x known. absurd (true≢false (sym known));
  id = file_id;
  by_index = by_index;
  by_name = by_name;
  no_short = λ x. refl;
  next = λ n lt. omega (arith, ltb-true n 3 lt);
  apart = λ m lt x mine. absurd (true≢false (sym mine));
  counts = counts;
}

defaults_pass : (rows : List Row) → defaults_fault rows check_rules ≡ []
unfolding defaults_fault
defaults_pass rows =
    rw (
      default_passes rows (rule_at 0) refl,
      default_passes _ (rule_at 1) refl,
      default_passes _ (rule_at 2) refl,
    ) refl

pub check_passes : PassesAfter check_rules
check_passes = record { defaults = defaults_pass; checks = checks_pass }
  where
    checks_pass : (rows : List Row) (entered : Bool) → check_fault (shape_with check_rules) rows entered ≡ []
    checks_pass rows true = refl
    checks_pass rows false = refl

pub check_defaults : (rows : List Row) → fold with_default rows check_rules ≡ rows
check_defaults rows =
    rw (no_default rows (rule_at 0) refl, no_default rows (rule_at 1) refl, no_default rows (rule_at 2) refl) refl

pub check_id : (m : ℕ) → check_serves.id m ≡ file_id m
unfolding check_serves
check_id m = refl
