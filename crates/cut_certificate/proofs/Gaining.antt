-- Marks that are gained, one node after another.
use Rattle.std.proofs.Common.{◌≡◌, ℕ, ◌+◌, ◌<◌, List, [], ◌∷◌, ◌++◌, length, get_or, take, true, sym}
use Rattle.std.proofs.Common.{◌∙◌, subst, inl, inr, arith}
use Rattle.std.specs.Prelude.{◌⊎◌, Contains}
use Rattle.std.proofs.Math.ListN.{set, length-set}
use Rattle.std.proofs.lemmas.List.{length-append, take_more}
use Rattle.std.proofs.lemmas.List.Elements.{Contains-append_left, Contains-push, Contains-push_cases}
use Rattle.cut_certificate.specs.inner.Marks.{Fill, IsMarked, left_in, Gains}
use Rattle.cut_certificate.proofs.Marking.{mark_here, mark_stays, mark_only, mark_less}

-- ---- a node that isn't marked
module _ (f : Fill) (n : ℕ) (there : n < length f.marks) (unmarked : IsMarked f.marks n → ⊥) where
  -- it is marked, and waits
  abbrev pub filled : Fill
  filled = record { marks = set f.marks n true; waiting = f.waiting ++ n ∷ [] }

  -- as many are left as before
  same_left : left_in filled ≡ left_in f
  unfolding left_in
  same_left = omega (arith, mark_less f.marks n there unmarked, length-append f.waiting (n ∷ []))

  -- so one mark is gained
  pub gains_one : Gains (λ v. n ≡ v) f filled
  gains_one = record {
    size = length-set f.marks n true;
    kept = λ v m. mark_stays f.marks n v m;
    gained = λ v e. subst (IsMarked (set f.marks n true)) e (mark_here f.marks n there);
    only = λ v m. elim (mark_only f.marks n v m) [
      | inl p ↦ inl p
      | inr e ↦ inr (e, subst (Contains (f.waiting ++ n ∷ [])) e (Contains-push f.waiting n))
    ];
    stays = λ v c. Contains-append_left f.waiting (n ∷ []) v c;
    waits = λ v c. elim (Contains-push_cases f.waiting n v c) [
      | inl p ↦ inl p
      | inr e ↦ inr (subst (IsMarked (set f.marks n true)) e (mark_here f.marks n there))
    ];
    left = same_left;
  }

-- ---- one after another
-- those of the one and of the other
module _ (L M N : ℕ → Type 0) (a b c : Fill) where
  pub gains_both : ((v : ℕ) → N v → L v ⊎ M v) → ((v : ℕ) → L v → N v) → ((v : ℕ) → M v → N v) → Gains L a b
      → Gains M b c → Gains N a c
  gains_both either l m f g = record {
    size = g.size ∙ f.size;
    kept = λ v h. g.kept v (f.kept v h);
    gained = λ v n. elim (either v n) [ inl h ↦ g.kept v (f.gained v h) | inr h ↦ g.gained v h ];
    only = λ v h. elim (g.only v h) [
      | inl was ↦ elim (f.only v was) [ inl k ↦ inl k | inr k ↦ inr (l v k.0, g.stays v k.1) ]
      | inr k ↦ inr (m v k.0, k.1)
    ];
    stays = λ v h. g.stays v (f.stays v h);
    waits = λ v h. elim (g.waits v h) [
      | inl was ↦ elim (f.waits v was) [ inl k ↦ inl k | inr k ↦ inr (g.kept v k) ]
      | inr k ↦ inr k
    ];
    left = g.left ∙ f.left;
  }

-- the same where N says the same as M
module _ (M N : ℕ → Type 0) (a b : Fill) where
  pub gains_as : ((v : ℕ) → M v → N v) → ((v : ℕ) → N v → M v) → Gains M a b → Gains N a b
  gains_as to back g = record {
    size = g.size;
    kept = g.kept;
    gained = λ v n. g.gained v (back v n);
    only = λ v h. elim (g.only v h) [ inl k ↦ inl k | inr k ↦ inr (to v k.0, k.1) ];
    stays = g.stays;
    waits = g.waits;
    left = g.left;
  }

-- ---- the starts
-- a start more
pub seeds_more : (starts : List ℕ) (i : ℕ) (a b c : Fill) → i < length starts → Gains (Contains (take i starts)) a b
    → Gains (λ v. get_or starts i 0 ≡ v) b c → Gains (Contains (take (i + 1) starts)) a c
seeds_more starts i a b c h f g =
    let first = take i starts in
    let s = get_or starts i 0 in
    let more = first ++ s ∷ [] in
    subst (λ (xs : List ℕ). Gains (Contains xs) a c) (sym (take_more starts i 0 h))
    (gains_both (Contains first) (λ v. s ≡ v) (Contains more) a b c
    (λ v k. Contains-push_cases first s v k)
    (λ v k. Contains-append_left first (s ∷ []) v k)
    (λ v e. subst (Contains more) e (Contains-push first s)) f g)
