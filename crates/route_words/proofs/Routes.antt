-- The rules of the form of `route`.
use Rattle.std.proofs.Common.{◌≡◌, ◌∙◌, ◌+◌, ◌||◌, ℕ, Bool, true, false, zero, suc, refl, sym, subst, arith, List, []}
use Rattle.std.proofs.Common.{Some, None, if◌then◌else◌, nat_lt, codes, true≢false, fold, get_or}
use Rattle.std.specs.Str.{bytes_eq}
use Rattle.std.proofs.lemmas.Bool.{ltb-true, ne_eqb}
use Rattle.std.proofs.lemmas.Slice.Eq.{bytes_eq-Decides}
use Rattle.clap.specs.Walk.{Row, Rule, arg_by_id, arg_by_index, arg_by_long, has_row, with_default}
use Rattle.clap.specs.Simple.{built, new_rule}
use Rattle.clap.specs.Faults.{check_fault, default_fault, defaults_fault}
use Rattle.route_words.specs.inner.Forms.{route_app}
use Rattle.route_words.specs.Parts.{Word, has}
use Rattle.route_words.specs.Words.{route_form}
use Rattle.route_words.proofs.Finding.{no_default}
use Rattle.route_words.proofs.Fitting.{PassesAfter}
use Rattle.route_words.proofs.Walking.{F, P, Serves, V, ours, shape_with}

or_true : (a : Bool) → (a || true) ≡ true
or_true true = refl
or_true false = refl

abbrev pub route_rules : List Rule
route_rules = (built route_app).top.rules

same : (lit x : Word) → bytes_eq lit x ≡ true → lit ≡ x
same lit x e = (bytes_eq-Decides lit x).0 e

abbrev ByLong : Word → Type 0
ByLong x = arg_by_long route_rules x
    ≡ (if has route_form.valued x then Some (V x) else (if has route_form.flags x then Some (F x) else None))

by_long : (x : Word) → ByLong x
by_long x = by (bytes_eq (codes "grid") x) refl (bytes_eq (codes "workers") x) refl (bytes_eq (codes "passes") x) refl
    (bytes_eq (codes "via-cost") x) refl (bytes_eq (codes "tries") x) refl (bytes_eq (codes "omit-fixed") x) refl
    (bytes_eq (codes "from") x) refl (bytes_eq (codes "diagonal") x) refl
  where
    by : (a : Bool) → bytes_eq (codes "grid") x ≡ a → (b : Bool) → bytes_eq (codes "workers") x ≡ b → (d : Bool)
        → bytes_eq (codes "passes") x ≡ d → (e : Bool) → bytes_eq (codes "via-cost") x ≡ e
        → (h : Bool) → bytes_eq (codes "tries") x ≡ h → (g : Bool) → bytes_eq (codes "omit-fixed") x ≡ g
        → (k : Bool) → bytes_eq (codes "from") x ≡ k → (l : Bool) → bytes_eq (codes "diagonal") x ≡ l → ByLong x
    by true p b q d r e s h u g t k v l z = subst ByLong (same (codes "grid") x p) refl
    by false p true q d r e s h u g t k v l z = subst ByLong (same (codes "workers") x q) refl
    by false p false q true r e s h u g t k v l z = subst ByLong (same (codes "passes") x r) refl
    by false p false q false r true s h u g t k v l z = subst ByLong (same (codes "via-cost") x s) refl
    by false p false q false r false s true u g t k v l z = subst ByLong (same (codes "tries") x u) refl
    by false p false q false r false s false u true t k v l z = subst ByLong (same (codes "omit-fixed") x t) refl
    by false p false q false r false s false u false t true v l z = subst ByLong (same (codes "from") x v) refl
    by false p false q false r false s false u false t false v true z = subst ByLong (same (codes "diagonal") x z) refl
    by false p false q false r false s false u false t false v false z = rw (p, q, r, s, u, t, v, z) refl

abbrev ById : Word → Type 0
ById x = has route_form.valued x ≡ true → arg_by_id route_rules x ≡ Some (V x)

by_id : (x : Word) → ById x
by_id x = by (bytes_eq (codes "grid") x) refl (bytes_eq (codes "workers") x) refl (bytes_eq (codes "passes") x) refl
    (bytes_eq (codes "via-cost") x) refl (bytes_eq (codes "tries") x) refl (bytes_eq (codes "from") x) refl
  where
    by : (a : Bool) → bytes_eq (codes "grid") x ≡ a → (b : Bool) → bytes_eq (codes "workers") x ≡ b → (d : Bool)
        → bytes_eq (codes "passes") x ≡ d → (e : Bool) → bytes_eq (codes "via-cost") x ≡ e
        → (h : Bool) → bytes_eq (codes "tries") x ≡ h → (k : Bool) → bytes_eq (codes "from") x ≡ k → ById x
    by true p b q d r e s h u k v = subst ById (same (codes "grid") x p) (λ known. refl)
    by false p true q d r e s h u k v = subst ById (same (codes "workers") x q) (λ known. refl)
    by false p false q true r e s h u k v = subst ById (same (codes "passes") x r) (λ known. refl)
    by false p false q false r true s h u k v = subst ById (same (codes "via-cost") x s) (λ known. refl)
    by false p false q false r false s true u k v = subst ById (same (codes "tries") x u) (λ known. refl)
    by false p false q false r false s false u true v = subst ById (same (codes "from") x v) (λ known. refl)
    by false p false q false r false s false u false v =
        λ known. absurd (true≢false (sym known ∙ rw (p, q, r, s, u, v) refl))

abbrev pub name_id : ℕ → Word
name_id zero = codes "input"
name_id (suc n) = codes "output"

not_below : (n : ℕ) → nat_lt (suc (suc n)) 2 ≡ false
not_below n = by (nat_lt (suc (suc n)) 2) refl
  where
    by : (b : Bool) → nat_lt (suc (suc n)) 2 ≡ b → nat_lt (suc (suc n)) 2 ≡ false
    by true e = absurd (omega (arith, ltb-true (suc (suc n)) 2 e))
    by false e = e

by_index : (n : ℕ) → arg_by_index route_rules (n + 1) ≡ (if nat_lt n 2 then Some (P (name_id n) (n + 1)) else None)
by_index zero = refl
by_index (suc zero) = refl
by_index (suc (suc n)) = rw (
  ne_eqb 1 (suc (suc n) + 1) (λ e. omega (arith, e)),
  ne_eqb 2 (suc (suc n) + 1)
      (λ e. omega (arith, e)),
  not_below n,
) refl

by_name : (n : ℕ) → nat_lt n 2 ≡ true → arg_by_id route_rules (name_id n) ≡ Some (P (name_id n) (n + 1))
by_name zero lt = refl
by_name (suc zero) lt = refl
by_name (suc (suc n)) lt = absurd (omega (arith, ltb-true (suc (suc n)) 2 lt))

abbrev Apart : Word → Word → Type 0
Apart name x = (bytes_eq x name ≡ false) × (bytes_eq name x ≡ false)

abbrev Both : Word → Type 0
Both t = Apart (codes "input") t × Apart (codes "output") t

apart_from : (x : Word) → ours route_form x ≡ true → Both x
apart_from x mine = by (bytes_eq (codes "grid") x) refl (bytes_eq (codes "workers") x) refl
    (bytes_eq (codes "passes") x) refl (bytes_eq (codes "via-cost") x) refl (bytes_eq (codes "tries") x) refl
    (bytes_eq (codes "omit-fixed") x) refl (bytes_eq (codes "from") x) refl (bytes_eq (codes "diagonal") x) refl
  where
    by : (a : Bool) → bytes_eq (codes "grid") x ≡ a → (b : Bool) → bytes_eq (codes "workers") x ≡ b → (d : Bool)
        → bytes_eq (codes "passes") x ≡ d → (e : Bool) → bytes_eq (codes "via-cost") x ≡ e
        → (h : Bool) → bytes_eq (codes "tries") x ≡ h
        → (g : Bool) → bytes_eq (codes "omit-fixed") x ≡ g
        → (k : Bool) → bytes_eq (codes "from") x ≡ k → (l : Bool) → bytes_eq (codes "diagonal") x ≡ l → Both x
    by true p b q d r e s h u g t k v l z = subst Both (same (codes "grid") x p) ((refl, refl), (refl, refl))
    by false p true q d r e s h u g t k v l z = subst Both (same (codes "workers") x q) ((refl, refl), (refl, refl))
    by false p false q true r e s h u g t k v l z = subst Both (same (codes "passes") x r) ((refl, refl), (refl, refl))
    by false p false q false r true s h u g t k v l z =
        subst Both (same (codes "via-cost") x s) ((refl, refl), (refl, refl))
    by false p false q false r false s true u g t k v l z =
        subst Both (same (codes "tries") x u) ((refl, refl), (refl, refl))
    by false p false q false r false s false u true t k v l z =
        subst Both (same (codes "omit-fixed") x t) ((refl, refl), (refl, refl))
    by false p false q false r false s false u false t true v l z =
        subst Both (same (codes "from") x v) ((refl, refl), (refl, refl))
    by false p false q false r false s false u false t false v true z =
        subst Both (same (codes "diagonal") x z) ((refl, refl), (refl, refl))
    by false p false q false r false s false u false t false v false z =
        absurd (true≢false (sym mine ∙ rw (p, q, r, s, u, t, v, z) refl))

apart : (m : ℕ) → nat_lt m 2 ≡ true → (x : Word) → ours route_form x ≡ true → (bytes_eq x (name_id m) ≡ false)
    × (bytes_eq (name_id m) x ≡ false)
apart zero lt x mine = (apart_from x mine).0
apart (suc n) lt x mine = (apart_from x mine).1

counts : (m n : ℕ) → nat_lt m 2 ≡ true → nat_lt n 2 ≡ true → (nat_lt m n || (bytes_eq (name_id n) (name_id m) || false))
    ≡ nat_lt m (n + 1)
counts zero zero a b = refl
counts zero (suc zero) a b = refl
counts (suc zero) zero a b = refl
counts (suc zero) (suc zero) a b = refl
counts (suc (suc m)) n a b = absurd (omega (arith, ltb-true (suc (suc m)) 2 a))
counts zero (suc (suc n)) a b = absurd (omega (arith, ltb-true (suc (suc n)) 2 b))
counts (suc zero) (suc (suc n)) a b = absurd (omega (arith, ltb-true (suc (suc n)) 2 b))

pub route_serves : Serves route_form route_rules
route_serves = record {
  by_long = by_long;
  by_id = by_id;
  id = name_id;
  by_index = by_index;
  by_name = by_name;
  no_short = λ x. refl;
  next = λ n lt. omega (arith, ltb-true n 2 lt);
  apart = apart;
  counts = counts;
}

abbrev pub rule_at : ℕ → Rule
rule_at n = get_or route_rules n (new_rule [])

pub default_passes : (rows : List Row) (a : Rule) → a.defaults ≡ [] → default_fault rows a ≡ []
default_passes rows a none = rw (none, or_true (has_row a.id rows)) refl

-- a flag's default passes
omits_pass : (rows : List Row) → default_fault rows (rule_at 7) ≡ []
omits_pass rows = by (has_row (rule_at 7).id rows) refl
  where
    by : (b : Bool) → has_row (rule_at 7).id rows ≡ b → default_fault rows (rule_at 7) ≡ []
    by true e = rw e refl
    by false e = rw e refl

slants_pass : (rows : List Row) → default_fault rows (rule_at 9) ≡ []
slants_pass rows = by (has_row (rule_at 9).id rows) refl
  where
    by : (b : Bool) → has_row (rule_at 9).id rows ≡ b → default_fault rows (rule_at 9) ≡ []
    by true e = rw e refl
    by false e = rw e refl

defaults_pass : (rows : List Row) → defaults_fault rows route_rules ≡ []
unfolding defaults_fault
defaults_pass rows =
    rw (
      default_passes rows (rule_at 0) refl,
      default_passes _ (rule_at 1) refl,
      default_passes _ (rule_at 2) refl,
      default_passes _ (rule_at 3) refl,
      default_passes _ (rule_at 4) refl,
      default_passes _ (rule_at 5) refl,
      default_passes _ (rule_at 6) refl,
      omits_pass _,
      default_passes _ (rule_at 8) refl,
      slants_pass _,
    ) refl

pub route_passes : PassesAfter route_rules
route_passes = record { defaults = defaults_pass; checks = checks_pass }
  where
    checks_pass : (rows : List Row) (entered : Bool) → check_fault (shape_with route_rules) rows entered ≡ []
    checks_pass rows true = refl
    checks_pass rows false = refl

-- the rows with the defaults of both flags
abbrev pub with_flags : List Row → List Row
with_flags rows = with_default (with_default rows (rule_at 7)) (rule_at 9)

-- flags alone have defaults
pub route_defaults : (rows : List Row) → fold with_default rows route_rules ≡ with_flags rows
route_defaults rows =
    rw (
      no_default rows (rule_at 0) refl,
      no_default rows (rule_at 1) refl,
      no_default rows (rule_at 2) refl,
      no_default rows (rule_at 3) refl,
      no_default rows (rule_at 4) refl,
      no_default rows (rule_at 5) refl,
      no_default rows (rule_at 6) refl,
      no_default (with_default rows (rule_at 7)) (rule_at 8) refl,
    ) refl

-- the word is none of the flags
abbrev pub IsNoFlag : Word → Type 0
IsNoFlag t = (bytes_eq (codes "omit-fixed") t ≡ false) × (bytes_eq (codes "diagonal") t ≡ false)

-- no flag is an option with a value
pub flag_apart : (x : Word) → has route_form.valued x ≡ true → IsNoFlag x
flag_apart x known = by (bytes_eq (codes "grid") x) refl (bytes_eq (codes "workers") x) refl
    (bytes_eq (codes "passes") x) refl
    (bytes_eq (codes "via-cost") x) refl (bytes_eq (codes "tries") x) refl (bytes_eq (codes "from") x) refl
  where
    by : (a : Bool) → bytes_eq (codes "grid") x ≡ a → (b : Bool) → bytes_eq (codes "workers") x ≡ b
        → (d : Bool) → bytes_eq (codes "passes") x ≡ d → (e : Bool) → bytes_eq (codes "via-cost") x ≡ e
        → (h : Bool) → bytes_eq (codes "tries") x ≡ h → (k : Bool) → bytes_eq (codes "from") x ≡ k → IsNoFlag x
    by true p b q d r e s h u k v = subst IsNoFlag (same (codes "grid") x p) (refl, refl)
    by false p true q d r e s h u k v = subst IsNoFlag (same (codes "workers") x q) (refl, refl)
    by false p false q true r e s h u k v = subst IsNoFlag (same (codes "passes") x r) (refl, refl)
    by false p false q false r true s h u k v = subst IsNoFlag (same (codes "via-cost") x s) (refl, refl)
    by false p false q false r false s true u k v = subst IsNoFlag (same (codes "tries") x u) (refl, refl)
    by false p false q false r false s false u true v = subst IsNoFlag (same (codes "from") x v) (refl, refl)
    by false p false q false r false s false u false v =
        absurd (true≢false (sym known ∙ rw (p, q, r, s, u, v) refl))

pub route_id : (m : ℕ) → route_serves.id m ≡ name_id m
unfolding route_serves
route_id m = refl
