-- What a mark more changes, and how the marked nodes are listed.
use Rattle.std.proofs.Common.{◌≡◌, ℕ, zero, suc, ◌+◌, ◌<◌, List, [], ◌∷◌, ◌++◌, length, get_or, replicate, Bool, true}
use Rattle.std.proofs.Common.{false, not, cond, Some, ap, sym, refl, subst, inl, inr, arith, true≢false}
use Rattle.std.specs.Prelude.{◌⊎◌, ◌↔◌, All, Contains, IsTrue, slice_get}
use Rattle.std.specs.List.Sorted.{IsStrictlyIncreasing}
use Rattle.std.specs.List.{count_by}
use Rattle.std.proofs.Math.ListN.{set}
use Rattle.std.proofs.lemmas.Bool.{cases_lt}
use Rattle.std.proofs.lemmas.List.Elements.{Contains-append_left, Contains-get_or, Contains-push, Contains-push_cases}
use Rattle.std.proofs.lemmas.List.Quantifiers.{all_pairs_push}
use Rattle.std.proofs.lemmas.List.Sums.{sum_by-set}
use Rattle.std.proofs.lemmas.Option.{slice_get-get_or, slice_get_within}
use Rattle.cut_certificate.specs.inner.Marks.{IsMarked, AreListed}

-- a marked node is one
pub in_range : (marks : List Bool) (v : ℕ) → IsMarked marks v → v < length marks
in_range marks v m = slice_get_within marks v true m

-- none of the marks is set at first
pub none_set : (n v : ℕ) → IsMarked (replicate n false) v → ⊥
none_set zero v m = cc
none_set (suc n) zero m = cc
none_set (suc n) (suc v) m = none_set n v m

-- the mark is set
pub mark_here : (marks : List Bool) (v : ℕ) → v < length marks → IsMarked (set marks v true) v
mark_here [] v h = absurd (omega arith)
mark_here (x ∷ xs) zero h = refl
mark_here (x ∷ xs) (suc v) h = mark_here xs v (omega arith)

-- and so are those that were set before
pub mark_stays : (marks : List Bool) (v u : ℕ) → IsMarked marks u → IsMarked (set marks v true) u
mark_stays [] v u m = m
mark_stays (x ∷ xs) zero zero m = refl
mark_stays (x ∷ xs) zero (suc u) m = m
mark_stays (x ∷ xs) (suc v) zero m = m
mark_stays (x ∷ xs) (suc v) (suc u) m = mark_stays xs v u m

-- and no others
pub mark_only : (marks : List Bool) (v u : ℕ) → IsMarked (set marks v true) u → IsMarked marks u ⊎ (v ≡ u)
mark_only [] v u m = inl m
mark_only (x ∷ xs) zero zero m = inr refl
mark_only (x ∷ xs) zero (suc u) m = inl m
mark_only (x ∷ xs) (suc v) zero m = inl m
mark_only (x ∷ xs) (suc v) (suc u) m = elim (mark_only xs v u m) [ inl p ↦ inl p | inr e ↦ inr (ap suc e) ]

-- a mark that isn't set is false
not_set : (marks : List Bool) (v : ℕ) (b : Bool) → slice_get marks v ≡ Some b → (IsMarked marks v → ⊥) → b ≡ false
not_set marks v true e n = absurd (n e)
not_set marks v false e n = refl

-- one less isn't marked
pub mark_less : (marks : List Bool) (v : ℕ) → v < length marks → (IsMarked marks v → ⊥)
    → count_by not (set marks v true) + 1 ≡ count_by not marks
mark_less marks v h n =
    let was = get_or marks v false in
    let is : was ≡ false = not_set marks v was (slice_get-get_or marks v false h) n in
    let one : cond {A = ℕ} (not was) 1 0 ≡ 1 = ap (λ (b : Bool). cond {A = ℕ} (not b) 1 0) is in
    omega (arith, one, sum_by-set (λ (b : Bool). cond {A = ℕ} (not b) 1 0) marks v true false h)

-- ---- the list of the marked
-- below i + 1: below i, or i
split : (v i : ℕ) → v < i + 1 → (v < i) ⊎ (i ≡ v)
split v i h = elim (cases_lt v i) [ inl lt ↦ inl lt | inr ge ↦ inr (omega arith) ]

-- a node that is marked is appended
pub listed_more : (marks : List Bool) (i : ℕ) (nodes : List ℕ) → AreListed marks i nodes → IsMarked marks i
    → AreListed marks (i + 1) (nodes ++ i ∷ [])
listed_more marks i nodes a m = record {
  ascends = all_pairs_push (λ x y. x < y) nodes i a.ascends
      (λ k d h. (a.marked (get_or nodes k d) (Contains-get_or nodes k d h)).1);
  marked = λ v c. elim (Contains-push_cases nodes i v c) [
    | inl p ↦ let q = a.marked v p in (q.0, omega (arith, q.1))
    | inr e ↦ (subst (IsMarked marks) e m, omega (arith, e))
  ];
  complete = λ v h n. elim (split v i h) [
    | inl lt ↦ Contains-append_left nodes (i ∷ []) v (a.complete v lt n)
    | inr e ↦ subst (Contains (nodes ++ i ∷ [])) e (Contains-push nodes i)
  ];
}

-- one that isn't is left out
pub listed_same : (marks : List Bool) (i : ℕ) (nodes : List ℕ) → AreListed marks i nodes → (IsMarked marks i → ⊥)
    → AreListed marks (i + 1) nodes
listed_same marks i nodes a n = record {
  ascends = a.ascends;
  marked = λ v c. let q = a.marked v c in (q.0, omega (arith, q.1));
  complete = λ v h m. elim (split v i h) [
    | inl lt ↦ a.complete v lt m
    | inr e ↦ absurd (n (subst (IsMarked marks) (sym e) m))
  ];
}

-- a node isn't among the nodes exactly where its mark isn't set
pub outside : (marks : List Bool) (nodes : List ℕ) (v : ℕ) (b : Bool) → (IsTrue b ↔ IsMarked marks v)
    → ((u : ℕ) → Contains nodes u → IsMarked marks u) → ((u : ℕ) → (Contains nodes u → ⊥) → IsMarked marks u → ⊥)
    → IsTrue (not b) ↔ (Contains nodes v → ⊥)
outside marks nodes v true is marked unmarked = (
  λ e. absurd (true≢false (sym e)),
  λ out. absurd (unmarked v out (is.0 refl)),
)
outside marks nodes v false is marked unmarked = (
  λ e. λ there. true≢false (sym (is.1 (marked v there))),
  λ out. refl,
)

-- the marked nodes ascend
pub listed_ascend : (marks : List Bool) (n : ℕ) (nodes : List ℕ) → AreListed marks n nodes → IsStrictlyIncreasing nodes
listed_ascend marks n nodes a = λ k h. a.ascends k (k + 1) 0 (omega arith) h

-- and are nodes
pub listed_there : (marks : List Bool) (n : ℕ) (nodes : List ℕ) → AreListed marks n nodes → All (λ v. v < n) nodes
listed_there marks n nodes a = λ k d h. (a.marked (get_or nodes k d) (Contains-get_or nodes k d h)).1

-- what isn't among them isn't marked
pub listed_unmarked : (marks : List Bool) (n : ℕ) (nodes : List ℕ) → length marks ≡ n → AreListed marks n nodes
    → (v : ℕ) → (Contains nodes v → ⊥) → IsMarked marks v → ⊥
listed_unmarked marks n nodes size a v out m = out (a.complete v (omega (arith, in_range marks v m, size)) m)
