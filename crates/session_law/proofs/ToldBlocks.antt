-- A list of named blocks, of which some are left out, tells which are there and what they hold.
use Rattle.std.proofs.Common.{◌≡◌, ◌≢◌, inl, inr, ℕ, ◌+◌, ◌<◌, ◌≤◌, Bool, true, false, List, [], ◌∷◌, ◌++◌, length}
use Rattle.std.proofs.Common.{drop, ap, sym, ◌∙◌, refl, subst, arith}
use Rattle.std.specs.Prelude.{All, AllPairs, flat_map, codes, if◌then◌else◌}
use Rattle.std.specs.List.{enumerate_from}
use Rattle.std.proofs.lemmas.List.{append_assoc, append_cancel_left}
use Rattle.std.proofs.lemmas.List.Elements.{All-head, All-tail}
use Rattle.std.proofs.lemmas.Bool.{cases_eq}
use Rattle.board_offers.proofs.Lists.{all_front, pairs_rest}
use Rattle.pcb_model.specs.Sound.{IsPrintable}
use Rattle.ses_writer.specs.Words.{spelled}
use Rattle.told_words.proofs.Spelling.{spelled_tells}

-- the line behind the blocks
abbrev pub part_end : List ℕ
part_end = codes "    )\n"

-- what a block begins with isn't the line behind the blocks
abbrev pub IsOpening : List ℕ → Type 0
IsOpening lit = (r t : List ℕ) → part_end ++ r ≡ lit ++ t → ⊥

module _ (X : Type 0) (lit : List ℕ) (name : X → List ℕ) where
  -- a block's first line and what comes then
  abbrev pub opened : X → List ℕ → List ℕ
  opened x rest = lit ++ (spelled (name x) ++ (10 ∷ rest))

  -- a block, or nothing where it is left out
  abbrev pub block_if : Bool → X → List ℕ → List ℕ
  block_if out x body = if out then [] else opened x body

  -- the block of an entry, where it isn't left out
  abbrev pub block : (ℕ → Bool) → (ℕ → X → List ℕ) → (ℕ × X) → List ℕ
  block out body (k, x) = block_if (out k) x (body k x)

  -- the blocks of numbered entries
  abbrev pub blocks : (ℕ → Bool) → (ℕ → X → List ℕ) → ℕ → List X → List ℕ
  blocks out body i xs = flat_map (block out body) (enumerate_from i xs)

  -- what stands behind a block is part of what comes after its first line
  opened_more : (x : X) (body r : List ℕ) → opened x body ++ r ≡ opened x (body ++ r)
  opened_more x body r = append_assoc lit (spelled (name x) ++ (10 ∷ body)) r
      ∙ ap (λ (bs : List ℕ). lit ++ bs) (append_assoc (spelled (name x)) (10 ∷ body) r)

  -- the first line tells the name
  opened_tells : (x y : X) (r t : List ℕ) → IsPrintable (name x) → IsPrintable (name y) → opened x r ≡ opened y t
      → (name x ≡ name y) × (r ≡ t)
  opened_tells x y r t p q e =
      let both = spelled_tells (name x) (name y) (10 ∷ r) (10 ∷ t) p q refl refl
      (append_cancel_left lit (spelled (name x) ++ (10 ∷ r)) (spelled (name y) ++ (10 ∷ t)) e) in
      (both.0, ap (λ (bs : List ℕ). drop 1 bs) both.1)

  module _ (opening : IsOpening lit) where
    -- blocks with other names don't begin with this one
    not_there : (out : ℕ → Bool) (body : ℕ → X → List ℕ) (i : ℕ) (xs : List X) (y : X) (r t : List ℕ)
        → All (λ (x : X). name y ≢ name x) xs → All (λ (x : X). IsPrintable (name x)) xs → IsPrintable (name y)
        → blocks out body i xs ++ (part_end ++ r) ≡ opened y t → ⊥
    not_there out body i [] y r t differ plain p e = opening r (spelled (name y) ++ (10 ∷ t)) e
    not_there out body i (x ∷ xs) y r t differ plain p e = by (out i)
        (λ same. not_there out body (i + 1) xs y r t (All-tail (λ (z : X). name y ≢ name z) x xs differ)
        (All-tail (λ (z : X). IsPrintable (name z)) x xs plain) p same) e
      where
        by : (b : Bool) → (blocks out body (i + 1) xs ++ (part_end ++ r) ≡ opened y t → ⊥)
            → (block_if b x (body i x) ++ blocks out body (i + 1) xs) ++ (part_end ++ r) ≡ opened y t → ⊥
        by true none same = none same
        by false none same =
            let rest = blocks out body (i + 1) xs ++ (part_end ++ r) in
            let both = opened_tells x y (body i x ++ rest) t (All-head (λ (z : X). IsPrintable (name z)) x xs plain) p
            (sym (append_assoc (opened x (body i x)) (blocks out body (i + 1) xs) (part_end ++ r)
            ∙ opened_more x (body i x) rest) ∙ same) in
            All-head (λ (z : X). name y ≢ name z) x xs differ (sym both.0)

    module _ (out gone : ℕ → Bool) (body other : ℕ → X → List ℕ) (Q : ℕ → Type 0)
        (there : (k : ℕ) (x : X) (u v : List ℕ) → out k ≡ false → gone k ≡ false → body k x ++ u ≡ other k x ++ v
        → Q k × (u ≡ v))
        (absent : (k : ℕ) → out k ≡ true → gone k ≡ true → Q k) where
      -- what holds of each entry, and that the texts go on alike
      abbrev Tells : ℕ → List X → List ℕ → List ℕ → Type 0
      Tells i xs r t = ((k : ℕ) → i ≤ k → k < i + length xs → Q k) × (r ≡ t)

      -- one entry more in front
      one_more : (i : ℕ) (x : X) (xs : List X) (r t : List ℕ) → Q i → Tells (i + 1) xs r t → Tells i (x ∷ xs) r t
      one_more i x xs r t q h = (
        λ k low high. elim (cases_eq i k) [
          | inl e ↦ subst Q e q
          | inr e ↦ h.0 k (omega (arith, low, e)) (omega (arith, high))
        ],
        h.1,
      )

      -- the same bytes, so the same blocks and what stands behind them
      pub blocks_tell : (i : ℕ) (xs : List X) (r t : List ℕ) → AllPairs (λ (x y : X). name x ≢ name y) xs
          → All (λ (x : X). IsPrintable (name x)) xs
          → blocks out body i xs ++ (part_end ++ r) ≡ blocks gone other i xs ++ (part_end ++ t) → Tells i xs r t
      blocks_tell i [] r t differ plain e = (
        λ k low high. absurd (omega (arith, low, high)),
        ap (λ (bs : List ℕ). drop 6 bs) e,
      )
      blocks_tell i (x ∷ xs) r t differ plain e = by (out i) (gone i) refl refl
          (λ same. blocks_tell (i + 1) xs r t (pairs_rest (λ (x y : X). name x ≢ name y) x xs differ)
          (All-tail (λ (z : X). IsPrintable (name z)) x xs plain) same) e
        where
          by : (a b : Bool) → out i ≡ a → gone i ≡ b
              → (blocks out body (i + 1) xs ++ (part_end ++ r) ≡ blocks gone other (i + 1) xs ++ (part_end ++ t)
              → Tells (i + 1) xs r t)
              → (block_if a x (body i x) ++ blocks out body (i + 1) xs) ++ (part_end ++ r)
              ≡ (block_if b x (other i x) ++ blocks gone other (i + 1) xs) ++ (part_end ++ t) → Tells i (x ∷ xs) r t
          by true true p q more same = one_more i x xs r t (absent i p q) (more same)
          by true false p q more same = absurd (not_there out body (i + 1) xs x r
              (other i x ++ (blocks gone other (i + 1) xs ++ (part_end ++ t)))
              (all_front (λ (x y : X). name x ≢ name y) x xs differ)
              (All-tail (λ (z : X). IsPrintable (name z)) x xs plain)
              (All-head (λ (z : X). IsPrintable (name z)) x xs plain)
              (same ∙ append_assoc (opened x (other i x)) (blocks gone other (i + 1) xs) (part_end ++ t)
              ∙ opened_more x (other i x) (blocks gone other (i + 1) xs ++ (part_end ++ t))))
          by false true p q more same = absurd (not_there gone other (i + 1) xs x t
              (body i x ++ (blocks out body (i + 1) xs ++ (part_end ++ r)))
              (all_front (λ (x y : X). name x ≢ name y) x xs differ)
              (All-tail (λ (z : X). IsPrintable (name z)) x xs plain)
              (All-head (λ (z : X). IsPrintable (name z)) x xs plain)
              (sym same ∙ append_assoc (opened x (body i x)) (blocks out body (i + 1) xs) (part_end ++ r)
              ∙ opened_more x (body i x) (blocks out body (i + 1) xs ++ (part_end ++ r))))
          by false false p q more same =
              let u = blocks out body (i + 1) xs ++ (part_end ++ r) in
              let v = blocks gone other (i + 1) xs ++ (part_end ++ t) in
              let plain_here = All-head (λ (z : X). IsPrintable (name z)) x xs plain in
              let both = opened_tells x x (body i x ++ u) (other i x ++ v) plain_here plain_here
              (sym (append_assoc (opened x (body i x)) (blocks out body (i + 1) xs) (part_end ++ r)
              ∙ opened_more x (body i x) u) ∙ same
              ∙ append_assoc (opened x (other i x)) (blocks gone other (i + 1) xs) (part_end ++ t)
              ∙ opened_more x (other i x) v) in
              let here = there i x u v p q both.1 in
              one_more i x xs r t here.0 (more here.1)
