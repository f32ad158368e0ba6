-- A pass over the nodes that steps lead to from roots: by the fewest steps, and then by the least numbers.
use Rattle.std.specs.Prelude.{◌≡◌, ◌⊎◌, ℕ, ◌<◌, List, [], ◌∷◌, ◌++◌}

-- x is one of them
abbrev pub Has : {X : Type 0} → List X → X → Type 0
Has [] y = ⊥
Has (x ∷ xs) y = (x ≡ y) ⊎ Has xs y

-- the nodes lead back from the first of them over steps to a root
abbrev pub IsPath : (ℕ → Type 0) → (ℕ → ℕ → Type 0) → List ℕ → Type 0
IsPath R T [] = ⊥
IsPath R T (v ∷ []) = R v
IsPath R T (v ∷ u ∷ rest) = T u v × IsPath R T (u ∷ rest)

-- the first path, told from its end, has fewer nodes, or as many and is less at the first place at which they differ
abbrev pub IsBefore : List ℕ → List ℕ → Type 0
IsBefore [] [] = ⊥
IsBefore [] (y ∷ ys) = Unit {0}
IsBefore (x ∷ xs) [] = ⊥
IsBefore (x ∷ xs) (y ∷ ys) = IsBefore xs ys ⊎ ((xs ≡ ys) × (x < y))

abbrev pub IsAtMost : List ℕ → List ℕ → Type 0
IsAtMost p q = IsBefore p q ⊎ (p ≡ q)

-- each path comes before all later ones
abbrev pub AllBefore : List ℕ → List (List ℕ) → Type 0
AllBefore p [] = Unit {0}
AllBefore p (q ∷ qs) = IsBefore p q × AllBefore p qs

abbrev pub InOrder : List (List ℕ) → Type 0
InOrder [] = Unit {0}
InOrder (p ∷ ps) = AllBefore p ps × InOrder ps

-- a path to the node is there, which comes before the given one or is it
pub record IsCovered (all : List (List ℕ)) (path : List ℕ) (v : ℕ) : Type 0 where
  pub back : List ℕ
  pub there : Has all (v ∷ back)
  pub most : IsAtMost (v ∷ back) path

-- the paths to the nodes that were gone on from, and to those that wait for it
pub record IsSpread (R : ℕ → Type 0) (T : ℕ → ℕ → Type 0) (done rest : List (List ℕ)) : Type 0 where
  pub paths : (p : List ℕ) → Has (done ++ rest) p → IsPath R T p
  pub roots : (v : ℕ) → R v → Has (done ++ rest) (v ∷ [])
  pub onward : (u v : ℕ) (back : List ℕ) → Has done (u ∷ back) → T u v
      → IsCovered (done ++ rest) (v ∷ u ∷ back) v
  pub capped : (p q : List ℕ) (v : ℕ) → Has (done ++ rest) p → Has rest q → IsBefore p (v ∷ q)
  pub sorted : InOrder rest

-- the numbers ascend
abbrev pub AllAbove : ℕ → List ℕ → Type 0
AllAbove x [] = Unit {0}
AllAbove x (y ∷ ys) = (x < y) × AllAbove x ys

abbrev pub Ascend : List ℕ → Type 0
Ascend [] = Unit {0}
Ascend (x ∷ xs) = AllAbove x xs × Ascend xs

-- the nodes are, ascending, those that steps lead to from u and that no path leads to yet
pub record AreFresh (T : ℕ → ℕ → Type 0) (all : List (List ℕ)) (u : ℕ) (fresh : List ℕ) : Type 0 where
  pub ascend : Ascend fresh
  pub led : (v : ℕ) → Has fresh v → T u v
  pub every : (v : ℕ) → T u v → Has fresh v ⊎ ((back : List ℕ) × Has all (v ∷ back))

abbrev pub onto : List ℕ → ℕ → List ℕ
onto path v = v ∷ path
