-- Lists that gain numbers, one index of a loop after another.
use Rattle.std.proofs.Common.{◌≡◌, ℕ, ◌+◌, ◌<◌, ◌≤◌, List, [], ◌∷◌, ◌++◌, ◌⊎◌, inl, inr, ⊎_elim, sym, subst, arith}
use Prim.Native.Nat.{zero, suc}
use Rattle.std.specs.Prelude.{Contains, Result, Ok, Err, OnOk}
use Rattle.std.proofs.lemmas.List.Elements.{Contains-append_left, Contains-push, Contains-push_cases}
use Rattle.route_lattice.specs.Found.{Gains, AtSome}

-- below i + 1 is below i, or i
pub below_or_same : (k i : ℕ) → k < i + 1 → (k < i) ⊎ (i ≡ k)
below_or_same zero zero h = inr (omega arith)
below_or_same zero (suc i) h = inl (omega arith)
below_or_same (suc k) zero h = absurd (omega arith)
below_or_same (suc k) (suc i) h =
    ⊎_elim (λ a. inl (omega arith)) (λ e. inr (omega (arith, e))) (below_or_same k i (omega arith))

pub gains_nothing : (M N : ℕ → Type 0) (xs : List ℕ) → ((v : ℕ) → M v → ⊥) → Gains M N xs xs
gains_nothing M N xs none = record { keeps = λ v m. m; gains = λ v p. absurd (none v p); exact = λ v m. inl m }

pub gains_one : (M N : ℕ → Type 0) (xs : List ℕ) (n : ℕ) → ((v : ℕ) → M v → v ≡ n) → N n → Gains M N xs (xs ++ n ∷ [])
gains_one M N xs n is p = record {
  keeps = λ v m. Contains-append_left xs (n ∷ []) v m;
  gains = λ v q. subst (Contains (xs ++ n ∷ [])) (sym (is v q)) (Contains-push xs n);
  exact = λ v m. ⊎_elim (λ a. inl a) (λ e. inr (subst N e p)) (Contains-push_cases xs n v m);
}

pub gains_less : (M N O P : ℕ → Type 0) (xs ys : List ℕ) → ((v : ℕ) → O v → M v) → ((v : ℕ) → N v → P v)
    → Gains M N xs ys → Gains O P xs ys
gains_less M N O P xs ys f h g =
    record {
      keeps = g.keeps;
      gains = λ v p. g.gains v (f v p);
      exact = λ v m. ⊎_elim (λ a. inl a) (λ b. inr (h v b)) (g.exact v m);
    }

module _ (Q : ℕ → ℕ → Type 0) (N : ℕ → Type 0) (first : ℕ) where
  pub gains_first : (xs : List ℕ) → Gains (AtSome Q first first) N xs xs
  gains_first xs =
      gains_nothing (AtSome Q first first) N xs (λ v s. absurd (let f = s.from in let l = s.below in omega arith))

  pub gains_more : (i : ℕ) (old mid new : List ℕ) → Gains (AtSome Q first i) N old mid → Gains (Q i) N mid new
      → Gains (AtSome Q first (i + 1)) N old new
  gains_more i old mid new f g = record {
    keeps = λ v m. g.keeps v (f.keeps v m);
    gains = λ v s.
        ⊎_elim (λ l. g.keeps v (f.gains v (record { index = s.index; from = s.from; below = l; holds = s.holds })))
        (λ e. g.gains v (subst (λ k. Q k v) (sym e) s.holds)) (below_or_same s.index i s.below);
    exact = λ v m. ⊎_elim (λ a. f.exact v a) (λ b. inr b) (g.exact v m);
  }

  pub gains_all : (i last : ℕ) (old new : List ℕ) → last ≤ i → Gains (AtSome Q first i) N old new
      → Gains (AtSome Q first last) N old new
  gains_all i last old new h g =
      gains_less (AtSome Q first i) N (AtSome Q first last) N old new
      (λ v s. record { index = s.index; from = s.from; below = let l = s.below in omega arith; holds = s.holds })
      (λ v n. n) g

-- what holds on Ok, carried on
pub on_ok : {A E : Type 0} (r : Result A E) {P Q : Type 0} → (P → Q) → OnOk r P → OnOk r Q
on_ok (Ok a) f p = f p
on_ok (Err e) f p = tt
