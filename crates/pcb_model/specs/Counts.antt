-- How many elements of a list have a property that no test decides.
use Rattle.std.specs.Prelude.{◌≡◌, ℕ, ◌+◌, List, [], ◌∷◌, ◌⊎◌}

-- just n elements of the list have P
abbrev pub Counts : {X : Type 0} → (X → Type 0) → List X → ℕ → Type 0
Counts P [] n = n ≡ 0
Counts P (x ∷ xs) n = (P x × (m : ℕ) × (n ≡ m + 1) × Counts P xs m) ⊎ (¬ (P x) × Counts P xs n)
