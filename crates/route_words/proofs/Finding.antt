-- What stands in the rows of parts that fit a form: the value of each option, and each name.
use Rattle.std.proofs.Common.{◌≡◌, ◌∙◌, ◌+◌, ◌≤◌, ◌||◌, ℕ, Bool, true, false, zero, suc, refl, sym, ap, subst, arith}
use Rattle.std.proofs.Common.{true≢false}
use Rattle.std.proofs.Common.{List, [], ◌∷◌, Option, Some, None, is_some, nat_lt, slice_get, find, codes}
use Rattle.std.specs.Prelude.{option_and_then}
use Rattle.std.specs.Option.{option_or}
use Rattle.std.specs.Str.{bytes_eq}
use Rattle.std.proofs.lemmas.Bool.{ltb-true}
use Rattle.std.proofs.lemmas.List.Folds.{find-append}
use Rattle.std.proofs.lemmas.Slice.Eq.{bytes_eq-Decides}
use Rattle.clap.specs.Walk.{Row, Rule, first_of, has_row, with_default}
use Rattle.route_words.specs.inner.Forms.{is_on}
use Rattle.route_words.specs.Parts.{Form, Part, Word, fit_from, has, is_given_right, name, names_in, option, stray}
use Rattle.route_words.specs.Parts.{value_in}
use Rattle.route_words.proofs.Bools.{and_left, and_right}
use Rattle.route_words.proofs.Laying.{laid}
use Rattle.route_words.proofs.Rows.{at_row_none}
use Rattle.route_words.proofs.Walking.{Serves, ours, same_bytes}

or_alone : (a : Bool) → (a || false) ≡ a
or_alone true = refl
or_alone false = refl

not_before : (m n : ℕ) → n ≤ m → nat_lt m n ≡ false
not_before m n le = by (nat_lt m n) refl
  where
    by : (b : Bool) → nat_lt m n ≡ b → nat_lt m n ≡ false
    by true e = absurd (omega (arith, ltb-true m n e))
    by false e = e

module _ (f : Form) (c : List Rule) (serves : Serves f c) where
  given_is_ours : (x : Word) (v : Option Word) → is_given_right f x v ≡ true → ours f x ≡ true
  given_is_ours x (Some v) right = rw right refl
  given_is_ours x None right = by (has f.valued x)
    where
      by : (b : Bool) → (b || has f.flags x) ≡ true
      by true = refl
      by false = and_left _ _ right

  pub option_found : (x : Word) → ours f x ≡ true → (parts : List Part) (seen : List Word) (n : ℕ)
      → fit_from f seen n parts ≡ true
      → first_of x (laid f c serves n parts) ≡ value_in x parts
  option_found x mine [] seen n fits = refl
  option_found x mine (name t ∷ parts) seen n fits =
      rw ((serves.apart n (and_left _ _ fits) x mine).1) (option_found x mine parts seen (n + 1) (and_right _ _ fits))
  option_found x mine (option y (Some v) ∷ parts) seen n fits =
      by (bytes_eq y x) refl (option_found x mine parts (y ∷ seen) n (and_right _ _ (and_right _ _ fits)))
    where
      by : (b : Bool) → bytes_eq y x ≡ b → first_of x (laid f c serves n parts) ≡ value_in x parts
          → first_of x (laid f c serves n (option y (Some v) ∷ parts)) ≡ value_in x (option y (Some v) ∷ parts)
      by true e rest = rw e refl
      by false e rest = rw e rest
  option_found x mine (option y None ∷ parts) seen n fits =
      by (bytes_eq y x) refl (option_found x mine parts (y ∷ seen) n (and_right _ _ (and_right _ _ fits)))
    where
      by : (b : Bool) → bytes_eq y x ≡ b → first_of x (laid f c serves n parts) ≡ value_in x parts
          → first_of x (laid f c serves n (option y None ∷ parts)) ≡ value_in x (option y None ∷ parts)
      by true e rest = rw e refl
      by false e rest = rw e rest
  option_found x mine (stray ∷ parts) seen n fits = absurd (true≢false (sym fits))

  -- the name with number k of those from number n on
  pub name_found : (m k n : ℕ) → m ≡ n + k → nat_lt m f.names ≡ true → (parts : List Part) (seen : List Word)
      → fit_from f seen n parts ≡ true
      → first_of (serves.id m) (laid f c serves n parts) ≡ slice_get (names_in parts) k
  name_found m zero n is below [] seen fits = refl
  name_found m (suc k) n is below [] seen fits = refl
  name_found m zero n is below (name t ∷ parts) seen fits =
      let here : n ≡ m = omega arith in
      let same : bytes_eq (serves.id n) (serves.id m) ≡ true = subst (λ i. bytes_eq (serves.id n) (serves.id i) ≡ true)
      here (same_bytes (serves.id n)) in
      rw same refl
  name_found m (suc k) n is below (name t ∷ parts) seen fits =
      let counts = serves.counts m n below (and_left _ _ fits) in
      let before : nat_lt m n ≡ false = not_before m n (omega arith) in
      let after : nat_lt m (n + 1) ≡ false = not_before m (n + 1) (omega arith) in
      let other : bytes_eq (serves.id n) (serves.id m) ≡ false =
      sym (or_alone (bytes_eq (serves.id n) (serves.id m))) ∙ (rw before at counts) ∙ after in
      rw other (name_found m k (n + 1) (omega arith) below parts seen (and_right _ _ fits))
  name_found m k n is below (option y (Some v) ∷ parts) seen fits =
      rw ((serves.apart m below y (given_is_ours y (Some v) (and_left _ _ fits))).0)
      (name_found m k n is below parts (y ∷ seen) (and_right _ _ (and_right _ _ fits)))
  name_found m k n is below (option y None ∷ parts) seen fits =
      rw ((serves.apart m below y (given_is_ours y None (and_left _ _ fits))).0)
      (name_found m k n is below parts (y ∷ seen) (and_right _ _ (and_right _ _ fits)))
  name_found m k n is below (stray ∷ parts) seen fits = absurd (true≢false (sym fits))

-- a flag has the text `true` where it is given
pub flag_text : (f : Form) (x : Word) → has f.valued x ≡ false → (parts : List Part) (seen : List Word) (n : ℕ)
    → fit_from f seen n parts ≡ true
    → is_on (value_in x parts) ≡ is_some (value_in x parts)
flag_text f x flag [] seen n fits = refl
flag_text f x flag (name t ∷ parts) seen n fits = flag_text f x flag parts seen (n + 1) (and_right _ _ fits)
flag_text f x flag (option y (Some v) ∷ parts) seen n fits =
    by (bytes_eq y x) refl (flag_text f x flag parts (y ∷ seen) n (and_right _ _ (and_right _ _ fits)))
  where
    by : (b : Bool) → bytes_eq y x ≡ b → is_on (value_in x parts) ≡ is_some (value_in x parts)
        → is_on (value_in x (option y (Some v) ∷ parts)) ≡ is_some (value_in x (option y (Some v) ∷ parts))
    by true e rest =
        let same : y ≡ x = (bytes_eq-Decides y x).0 e in
        absurd (true≢false (sym (and_left (has f.valued y) _ fits) ∙ ap (has f.valued) same ∙ flag))
    by false e rest = rw e rest
flag_text f x flag (option y None ∷ parts) seen n fits =
    by (bytes_eq y x) refl (flag_text f x flag parts (y ∷ seen) n (and_right _ _ (and_right _ _ fits)))
  where
    by : (b : Bool) → bytes_eq y x ≡ b → is_on (value_in x parts) ≡ is_some (value_in x parts)
        → is_on (value_in x (option y None ∷ parts)) ≡ is_some (value_in x (option y None ∷ parts))
    by true e rest = rw e refl
    by false e rest = rw e rest
flag_text f x flag (stray ∷ parts) seen n fits = absurd (true≢false (sym fits))

-- ---- defaults

pub no_default : (rows : List Row) (a : Rule) → a.defaults ≡ [] → with_default rows a ≡ rows
no_default rows a none = by (has_row a.id rows) refl
  where
    by : (b : Bool) → has_row a.id rows ≡ b → with_default rows a ≡ rows
    by true e = rw e refl
    by false e = rw (e, none) refl

or_none : {X : Type 0} (o : Option X) → option_or o None ≡ o
or_none None = refl
or_none (Some x) = refl

absent : (x : Word) (rows : List Row) → has_row x rows ≡ false → find (λ r. bytes_eq r.id x) rows ≡ None
absent x [] none = refl
absent x (r ∷ rows) none = by (bytes_eq r.id x) refl (absent x rows)
  where
    by : (b : Bool) → bytes_eq r.id x ≡ b → (has_row x rows ≡ false → find (λ r. bytes_eq r.id x) rows ≡ None)
        → find (λ r. bytes_eq r.id x) (r ∷ rows) ≡ None
    by true e rest = absurd (true≢false (rw e at none))
    by false e rest = rw e (rest (rw e at none))

-- another row's default changes no look-up
pub other_default : (x : Word) (rows : List Row) (a : Rule) (t : Word) → a.defaults ≡ t ∷ [] → bytes_eq a.id x ≡ false
    → first_of x (with_default rows a) ≡ first_of x rows
other_default x rows a t default other = by (has_row a.id rows) refl
  where
    by : (b : Bool) → has_row a.id rows ≡ b → first_of x (with_default rows a) ≡ first_of x rows
    by true e = rw e refl
    by false e =
        rw (e, default, at_row_none a.id _ _ rows e)
        (ap (option_and_then (λ (r : Row). slice_get r.values 0)) (find-append (λ (r : Row). bytes_eq r.id x) rows _
        ∙ rw other (or_none _)))

-- nor does a flag's own default say that it is on
pub flag_default : (rows : List Row) (a : Rule) → a.defaults ≡ codes "false" ∷ []
    → is_on (first_of a.id (with_default rows a)) ≡ is_on (first_of a.id rows)
flag_default rows a default = by (has_row a.id rows) refl
  where
    by : (b : Bool) → has_row a.id rows ≡ b → is_on (first_of a.id (with_default rows a)) ≡ is_on (first_of a.id rows)
    by true e = rw e refl
    by false e =
        rw (
          e,
          default,
          at_row_none a.id _ _ rows e,
          find-append (λ (r : Row). bytes_eq r.id a.id) rows _,
          absent a.id
              rows e,
          same_bytes a.id,
        ) refl
