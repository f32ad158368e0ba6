-- What is found so far.
use Rattle.std.proofs.Common.{◌≡◌, ◌∙◌, ◌+◌, ◌||◌, ℕ, Bool, true, false, not, refl, sym, ap, ap₂, subst, List, [], ◌∷◌}
use Rattle.std.proofs.Common.{◌++◌, Some, None, nat_lt, true≢false}
use Rattle.std.specs.Str.{bytes_eq}
use Rattle.std.proofs.lemmas.List.{append-nil}
use Rattle.std.proofs.lemmas.List.Folds.{list_any-append}
use Rattle.clap.specs.Walk.{Row, Rule, at_row, has_row, more_values, settled_rows, used, with_values, without}
use Rattle.clap.specs.Faults.{use_fault}
use Rattle.clap.specs.declared.builder.value_parser.Reading.{Reading}
use Rattle.clap.specs.declared.parser.matches.ValueSource.TheVariants.{CommandLine}
use Rattle.route_words.specs.Parts.{Form, Word, has}
use Rattle.route_words.proofs.Walking.{F, P, Serves, V, clear, debt, ours}

pub at_row_none : (id : Word) (change : Row → List Row) (missing rows : List Row) → has_row id rows ≡ false
    → at_row id change missing rows ≡ rows ++ missing
at_row_none id change missing [] none = refl
at_row_none id change missing (r ∷ rs) none = by (bytes_eq r.id id) refl (at_row_none id change missing rs)
  where
    by : (b : Bool) → bytes_eq r.id id ≡ b → (has_row id rs ≡ false → at_row id change missing rs ≡ rs ++ missing)
        → at_row id change missing (r ∷ rs) ≡ r ∷ rs ++ missing
    by true e rest = absurd (true≢false (rw e at none))
    by false e rest = rw e (ap (λ (xs : List Row). r ∷ xs) (rest (rw e at none)))

abbrev pub row_with : Word → Reading → List Word → Row
row_with id how values = record { id = id; values = values; count = None; source = Some CommandLine; reading = how }

pub added : (id : Word) (how : Reading) (values : List Word) (rows : List Row) → has_row id rows ≡ false
    → with_values id how CommandLine values (without id rows) ≡ rows ++ row_with id how values ∷ []
added id how values rows none =
    ap (with_values id how CommandLine values) (at_row_none id (λ _. []) [] rows none ∙ append-nil rows)
    ∙ at_row_none id (more_values CommandLine values) (row_with id how values ∷ []) rows none

or_swap : (a b : Bool) → (a || (b || false)) ≡ (b || a)
or_swap true true = refl
or_swap true false = refl
or_swap false true = refl
or_swap false false = refl

or_none : (a : Bool) → (a || (false || false)) ≡ a
or_none true = refl
or_none false = refl

module _ (f : Form) (c : List Rule) (serves : Serves f c) where
  -- the rows are those of these options and of so many names
  pub record Stands (rows : List Row) (seen : List Word) (n : ℕ) : Type 0 where
    pub options : (x : Word) → ours f x ≡ true → has_row x rows ≡ has seen x
    pub names : (m : ℕ) → nat_lt m f.names ≡ true → has_row (serves.id m) rows ≡ nat_lt m n

  with_option : (rows : List Row) (seen : List Word) (n : ℕ) (x : Word) (how : Reading) (values : List Word)
      → Stands rows seen n → ours f x ≡ true
      → Stands (rows ++ row_with x how values ∷ []) (x ∷ seen) n
  with_option rows seen n x how values stands known = record {
    options = λ y mine. list_any-append (λ r. bytes_eq r.id y) rows (row_with x how values ∷ [])
        ∙ ap (λ (a : Bool). a || (bytes_eq x y || false)) (stands.options y mine) ∙ or_swap (has seen y) (bytes_eq x y);
    names = λ m below. list_any-append (λ r. bytes_eq r.id (serves.id m)) rows (row_with x how values ∷ [])
        ∙ ap₂ (λ (a b : Bool). a || (b || false)) (stands.names m below) (serves.apart m below x known).0
        ∙ or_none (nat_lt m n);
  }

  with_name : (rows : List Row) (seen : List Word) (n : ℕ) (how : Reading) (values : List Word) → Stands rows seen n
      → nat_lt n f.names ≡ true
      → Stands (rows ++ row_with (serves.id n) how values ∷ []) seen (n + 1)
  with_name rows seen n how values stands below = record {
    options = λ y mine. list_any-append (λ r. bytes_eq r.id y) rows (row_with (serves.id n) how values ∷ [])
        ∙ ap₂ (λ (a b : Bool). a || (b || false)) (stands.options y mine) (serves.apart n below y mine).1
        ∙ or_none (has seen y);
    names = λ m lt. list_any-append (λ r. bytes_eq r.id (serves.id m)) rows (row_with (serves.id n) how values ∷ [])
        ∙ ap (λ (a : Bool). a || (bytes_eq (serves.id n) (serves.id m) || false)) (stands.names m lt)
        ∙ serves.counts m n lt below;
  }

  -- ---- uses
  pub valued_clear : (x v : Word) (rows : List Row) → clear (use_fault false (V x) (v ∷ []) rows) ≡ not (has_row x rows)
  valued_clear x v rows = by (has_row x rows) refl
    where
      by : (b : Bool) → has_row x rows ≡ b → clear (use_fault false (V x) (v ∷ []) rows) ≡ not b
      by true e = rw e refl
      by false e = rw e refl

  pub flag_clear : (x : Word) (rows : List Row) → clear (use_fault false (F x) [] rows) ≡ not (has_row x rows)
  flag_clear x rows = by (has_row x rows) refl
    where
      by : (b : Bool) → has_row x rows ≡ b → clear (use_fault false (F x) [] rows) ≡ not b
      by true e = rw e refl
      by false e = rw e refl

  name_clear : (x v : Word) (i : ℕ) (rows : List Row) → clear (use_fault false (P x i) (v ∷ []) rows)
      ≡ not (has_row x rows)
  name_clear x v i rows = by (has_row x rows) refl
    where
      by : (b : Bool) → has_row x rows ≡ b → clear (use_fault false (P x i) (v ∷ []) rows) ≡ not b
      by true e = rw e refl
      by false e = rw e refl

  pub value_debt : (x v : Word) (rows : List Row) → has f.valued x ≡ true → debt c (Some (x, v ∷ [])) rows
      ≡ not (has_row x rows)
  value_debt x v rows known = rw (serves.by_id x known) (valued_clear x v rows)

  pub no_value_debt : (x : Word) (rows : List Row) → has f.valued x ≡ true → debt c (Some (x, [])) rows ≡ false
  no_value_debt x rows known = rw (serves.by_id x known) refl

  pub name_debt : (n : ℕ) (v : Word) (rows : List Row) → nat_lt n f.names ≡ true → debt c (Some (serves.id n, v ∷ []))
      rows ≡ not (has_row (serves.id n) rows)
  name_debt n v rows below = rw (serves.by_name n below) (name_clear (serves.id n) v (n + 1) rows)

  pub value_stands : (rows : List Row) (seen : List Word) (n : ℕ) (x v : Word) → Stands rows seen n → has f.valued x
      ≡ true → has_row x rows ≡ false → Stands (used (V x) (v ∷ []) rows) (x ∷ seen) n
  value_stands rows seen n x v stands known none = subst (λ (rs : List Row). Stands rs (x ∷ seen) n)
      (sym (added x _ (v ∷ []) rows none)) (with_option rows seen n x _ (v ∷ []) stands (rw known refl))

  pub pending_value : (rows : List Row) (x v : Word) → has f.valued x ≡ true → settled_rows c (Some (x, v ∷ [])) rows
      ≡ used (V x) (v ∷ []) rows
  pending_value rows x v known = rw (serves.by_id x known) refl

  pub flag_stands : (rows : List Row) (seen : List Word) (n : ℕ) (x : Word) → Stands rows seen n → has f.flags x ≡ true
      → has_row x rows ≡ false → Stands (used (F x) [] rows) (x ∷ seen) n
  flag_stands rows seen n x stands known none = subst (λ (rs : List Row). Stands rs (x ∷ seen) n)
      (sym (added x _ _ rows none)) (with_option rows seen n x _ _ stands (mine (has f.valued x)))
    where
      mine : (b : Bool) → (b || has f.flags x) ≡ true
      mine true = refl
      mine false = known

  pub pending_name : (rows : List Row) (n : ℕ) (v : Word) → nat_lt n f.names ≡ true
      → settled_rows c (Some (serves.id n, v ∷ [])) rows ≡ used (P (serves.id n) (n + 1)) (v ∷ []) rows
  pending_name rows n v below = rw (serves.by_name n below) refl

  pub name_stands : (rows : List Row) (seen : List Word) (n : ℕ) (v : Word) → Stands rows seen n → nat_lt n f.names
      ≡ true → has_row (serves.id n) rows ≡ false
      → Stands (settled_rows c (Some (serves.id n, v ∷ [])) rows) seen (n + 1)
  name_stands rows seen n v stands below none = subst (λ (rs : List Row). Stands rs seen (n + 1))
      (sym (pending_name rows n v below ∙ added (serves.id n) _ (v ∷ []) rows none)) (with_name rows seen n _ (v ∷ [])
      stands below)
