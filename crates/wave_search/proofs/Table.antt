-- What a write to the table of labels leaves.
use Rattle.std.proofs.Common.{◌≡◌, ℕ, ◌+◌, ◌<◌, ◌≤◌, List, [], ◌∷◌, length, Option, Some, None, refl, ap, arith}
use Rattle.std.proofs.Math.ListN.{set, length-set}
use Prim.Native.Nat.{zero, suc}
use Rattle.wave_search.specs.declared.rows.Label.{Label}
use Rattle.wave_search.specs.inner.State.{label_at, done_count, done_of, done_by, IsPut}

pub here : (t : List (Option Label)) (v : ℕ) (l : Option Label) → v < length t → label_at (set t v l) v ≡ l
unfolding label_at
here [] v l h = absurd (omega arith)
here (x ∷ xs) zero l h = refl
here (x ∷ xs) (suc v) l h = here xs v l (omega arith)

pub other : (t : List (Option Label)) (v u : ℕ) (l : Option Label) → (u ≡ v → ⊥) → label_at (set t v l) u ≡ label_at t u
unfolding label_at
other [] v u l h = refl
other (x ∷ xs) zero zero l h = absurd (h refl)
other (x ∷ xs) zero (suc u) l h = refl
other (x ∷ xs) (suc v) zero l h = refl
other (x ∷ xs) (suc v) (suc u) l h = other xs v u l (λ e. h (ap suc e))

done : (t : List (Option Label)) (v : ℕ) (l : Label) → v < length t
    → done_count (set t v (Some l)) + done_of (label_at t v) ≡ done_count t + done_by l.rank
unfolding label_at done_count
done [] v l h = absurd (omega arith)
done (x ∷ xs) zero l h = omega arith
done (x ∷ xs) (suc v) l h = omega (arith, done xs v l (omega arith))

pub put : (t : List (Option Label)) (v : ℕ) (l : Label) → v < length t → IsPut t v l (set t v (Some l))
put t v l h =
    record {
      here = here t v (Some l) h;
      others = λ u. other t v u (Some l);
      size = length-set t v (Some l);
      done = done t v l h;
    }

-- where no node has a label, none is done
pub none_done : (t : List (Option Label)) → ((v : ℕ) → label_at t v ≡ None) → done_count t ≡ 0
unfolding label_at done_count
none_done [] f = refl
none_done (x ∷ xs) f = let e : done_of x ≡ 0 = ap done_of (f 0) in omega (arith, e, none_done xs (λ v. f (suc v)))

-- a label that is there is inside the table
pub within : (t : List (Option Label)) (v : ℕ) (l : Label) → label_at t v ≡ Some l → v < length t
unfolding label_at
within [] v l h = cc
within (x ∷ xs) zero l h = omega arith
within (x ∷ xs) (suc v) l h = omega (arith, within xs v l h)

small_rank : (r : ℕ) → done_by r ≤ 1
small_rank zero = omega arith
small_rank (suc r) = omega arith

small : (x : Option Label) → done_of x ≤ 1
small None = omega arith
small (Some l) = small_rank l.rank

-- no more are done than there are
pub at_most : (t : List (Option Label)) → done_count t ≤ length t
unfolding done_count
at_most [] = omega arith
at_most (x ∷ xs) = omega (arith, small x, at_most xs)

-- while one node waits, fewer are done than there are
pub more_to_do : (t : List (Option Label)) (v : ℕ) → v < length t → done_of (label_at t v) ≡ 0 → done_count t < length t
unfolding label_at done_count
more_to_do [] v h d = absurd (omega arith)
more_to_do (x ∷ xs) zero h d = omega (arith, at_most xs)
more_to_do (x ∷ xs) (suc v) h d = omega (arith, small x, more_to_do xs v (omega arith) d)
