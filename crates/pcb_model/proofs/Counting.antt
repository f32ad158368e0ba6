-- A list has at most one count of what has a property.
use Rattle.std.proofs.Common.{◌≡◌, ℕ, List, [], ◌∷◌, inl, inr, arith, sym, ◌∙◌}
use Rattle.pcb_model.specs.Counts.{Counts}

pub same_count : {X : Type 0} (P : X → Type 0) (xs : List X) (m n : ℕ) → Counts P xs m → Counts P xs n → m ≡ n
same_count P [] m n h k = h ∙ sym k
same_count P (x ∷ xs) m n (inl a) (inl b) = omega (arith, a.2, b.2, same_count P xs a.1 b.1 a.3 b.3)
same_count P (x ∷ xs) m n (inl a) (inr b) = absurd (b.0 a.0)
same_count P (x ∷ xs) m n (inr a) (inl b) = absurd (a.0 b.0)
same_count P (x ∷ xs) m n (inr a) (inr b) = same_count P xs m n a.1 b.1
