-- What binary searches find.
use Rattle.std.proofs.Common.{◌≡◌, ℕ, zero, suc, ◌+◌, ◌-◌, ◌<◌, ◌≤◌, List, length, get_or, Result, Ok, Err, refl, ap}
use Rattle.std.proofs.Common.{◌∙◌, subst, inl, inr, arith}
use Rattle.std.specs.Prelude.{IsTrue}
use Rattle.std.specs.Result.{is_ok}
use Rattle.std.specs.List.{AllAdjacentBelow}
use Rattle.std.specs.List.Sorted.{IsBinarySearchResult, IsSearchInRange, IsNonDecreasingBy}
use Rattle.std.specs.declared.cmp.Ordering.{Ordering}
use Rattle.std.specs.declared.cmp.Ordering.TheVariants.{Less, Equal, Greater}
use Rattle.std.specs.Ordering.{nat_cmp, ordering_index, ordering_then}
use Rattle.std.proofs.lemmas.Bool.{false≢true, cases_lt}
use Rattle.std.proofs.lemmas.Bool.Decides.{nat_tests}
use Rattle.std.proofs.lemmas.List.{get_or_default}
use Rattle.std.proofs.lemmas.List.Sorted.{all_adjacent_more}
use Rattle.cut_certificate.specs.declared.cut.Blocker.TheVariants.{Outside}
use Rattle.cut_certificate.specs.declared.cut.Block.{Block}
use Rattle.cut_certificate.specs.Border.{IsBefore, AreInOrder, IsListed}

-- ---- among blocks
-- how a block's move compares with another
abbrev pub place_cmp : ℕ → ℕ → Block → Ordering
place_cmp node index b = ordering_then (nat_cmp b.node node) (nat_cmp b.index index)

before_rises : (node index : ℕ) (a b : Block) → IsBefore a b → ordering_index (place_cmp node index a)
    ≤ ordering_index (place_cmp node index b)
before_rises node index a b h = elim h [ inl lt ↦ grind (arith, nat_tests) | inr same ↦ grind (arith, nat_tests) ]

is_place : (node index : ℕ) (b : Block) → place_cmp node index b ≡ Equal → (b.node ≡ node) × (b.index ≡ index)
is_place node index b h = grind (arith, nat_tests)

equal_place : (node index : ℕ) (b : Block) → b.node ≡ node → b.index ≡ index → place_cmp node index b ≡ Equal
equal_place node index b e f = grind (arith, nat_tests)

places_rise : (bs : List Block) (node index : ℕ) → AreInOrder bs
    → IsNonDecreasingBy (λ b. ordering_index (place_cmp node index b)) bs
places_rise bs node index up i j d le lt = elim (cases_lt i j) [
  | inl before ↦ before_rises node index (get_or bs i d) (get_or bs j d) (up i j d before lt)
  | inr after ↦ let same : i ≡ j = omega arith in
      omega (arith, ap (λ (k : ℕ). ordering_index (place_cmp node index (get_or bs k d))) same)
]

blank : Block
blank = record { node = 0; index = 0; by = Outside }

-- a move is found exactly where it is listed
pub found_block : (bs : List Block) (node index : ℕ) (r : Result ℕ ℕ) → AreInOrder bs → IsSearchInRange r (length bs)
    → IsBinarySearchResult (place_cmp node index) bs r → (IsTrue (is_ok r) → IsListed bs node index)
    × (IsListed bs node index → IsTrue (is_ok r))
found_block bs node index (Ok k) up lt h = (
  λ _. (
    k,
    get_or bs k blank,
    lt,
    get_or_default bs k (get_or bs k blank) blank lt,
    is_place node index (get_or bs k blank) (h blank),
  ),
  λ _. refl,
)
found_block bs node index (Err i) up le h = (
  λ t. absurd (false≢true t),
  λ a. absurd (
      let parted = h (places_rise bs node index up) in
      let equal : place_cmp node index a.1 ≡ Equal = equal_place node index a.1 a.4.0 a.4.1 in
      elim (cases_lt a.0 i) [
        | inl before ↦ let less : place_cmp node index a.1 ≡ Less =
            subst (λ (b : Block). place_cmp node index b ≡ Less) a.3 (parted.0 a.0 a.1 (omega arith) before) in cc
        | inr after ↦ let more : place_cmp node index a.1 ≡ Greater =
            subst (λ (b : Block). place_cmp node index b ≡ Greater) a.3 (parted.1 a.0 a.1 after a.2) in cc
      ]),
)

-- ---- neighbours
before_trans : (a b c : Block) → IsBefore a b → IsBefore b c → IsBefore a c
before_trans a b c h k = elim h [
  | inl p ↦ elim k [ inl q ↦ inl (omega arith) | inr q ↦ inl (omega (arith, q.0)) ]
  | inr p ↦ elim k [ inl q ↦ inl (omega (arith, p.0)) | inr q ↦ inr (p.0 ∙ q.0, omega (arith, p.1, q.1)) ]
]

module _ (bs : List Block) (next : AllAdjacentBelow IsBefore bs (length bs)) (i : ℕ) (d : Block) where
  far : (n j : ℕ) → j ≡ i + 1 + n → j < length bs → IsBefore (get_or bs i d) (get_or bs j d)
  far zero j e lt =
      subst (λ (k : ℕ). IsBefore (get_or bs i d) (get_or bs k d)) {x = i + 1} (omega arith) (next i d (omega arith))
  far (suc n) j e lt = subst (λ (k : ℕ). IsBefore (get_or bs i d) (get_or bs k d)) {x = i + 1 + n + 1} (omega arith)
      (before_trans (get_or bs i d) (get_or bs (i + 1 + n) d) (get_or bs (i + 1 + n + 1) d)
      (far n (i + 1 + n) refl (omega arith)) (next (i + 1 + n) d (omega arith)))

-- where each block is before the next, each is before all later ones
pub order_from_next : (bs : List Block) → AllAdjacentBelow IsBefore bs (length bs) → AreInOrder bs
order_from_next bs next i j d before lt = far bs next i d (j - (i + 1)) j (omega arith) lt

-- a step over a block and the one before it
module _ (bs : List Block) (k : ℕ) (p : 0 < k) (lt : k < length bs) (a b : Block) where
  pub before_more : IsBefore (get_or bs (k - 1) a) (get_or bs k b) → AllAdjacentBelow IsBefore bs k
      → AllAdjacentBelow IsBefore bs (k + 1)
  before_more is next = all_adjacent_more bs IsBefore k p next (λ d.
      subst (λ (x : Block). IsBefore x (get_or bs k d)) (get_or_default bs (k - 1) a d (omega (arith, p, lt)))
      (subst (λ (y : Block). IsBefore (get_or bs (k - 1) a) y) (get_or_default bs k b d lt) is))

  pub not_before : (IsBefore (get_or bs (k - 1) a) (get_or bs k b) → ⊥) → AreInOrder bs → ⊥
  not_before f up = f (subst (λ (y : Block). IsBefore (get_or bs (k - 1) a) y) (get_or_default bs k a b lt)
      (up (k - 1) k a (omega (arith, p)) lt))
