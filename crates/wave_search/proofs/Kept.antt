-- What the kept labels stand for after a write.
use Rattle.std.proofs.Common.{◌≡◌, ℕ, ◌+◌, ◌<◌, List, [], ◌∷◌, ◌++◌, length, Option, Some, None, true, false}
use Rattle.std.proofs.Common.{sym, refl, ap, ◌∙◌, subst, inl, inr, arith, get_or, replicate}
use Rattle.std.specs.Prelude.{Contains, All}
use Rattle.std.specs.Option.{is_some}
use Rattle.std.specs.List.Sorted.{IsStrictlyIncreasing}
use Prim.Native.Nat.{zero, suc}
use Rattle.std.proofs.Math.ListN.{set}
use Rattle.std.proofs.lemmas.List.{map-set, length-map}
use Rattle.std.proofs.lemmas.List.Elements.{All-push, Contains-append_left, Contains-push, Contains-push_cases}
use Rattle.wave_search.specs.declared.rows.Label.{Label}
use Rattle.wave_search.specs.declared.rows.Row.{Row}
use Rattle.wave_search.specs.inner.State.{label_at, IsPut}
use Rattle.wave_search.specs.inner.Rows.{row_label, labels_of}
use Rattle.geo_kernel.proofs.Ascending.{ascend_push}
use Rattle.wave_search.proofs.Table.{here, other, put}
use Rattle.wave_search.proofs.Steps.{same_or_not}

-- the label that a row's place stands for
pub read : (rows : List Row) (v : ℕ) (d : Row) → v < length rows
    → label_at (labels_of rows) v ≡ row_label (get_or rows v d)
unfolding label_at
read [] v d h = absurd (omega arith)
read (x ∷ xs) zero d h = refl
read (x ∷ xs) (suc v) d h = read xs v d (omega arith)

pub blank : (n v : ℕ) (r : Row) → row_label r ≡ None → label_at (labels_of (replicate n r)) v ≡ None
unfolding label_at
blank zero v r e = refl
blank (suc n) zero r e = e
blank (suc n) (suc v) r e = blank n v r e

-- a row that is written gives its node a label
pub row_put : (rows : List Row) (v : ℕ) (r : Row) (l : Label) → v < length rows → row_label r ≡ Some l
    → IsPut (labels_of rows) v l (labels_of (set rows v r))
row_put rows v r l h e = subst (λ (t : List (Option Label)). IsPut (labels_of rows) v l t)
    (sym (map-set row_label rows v r ∙ ap (λ (x : Option Label). set (labels_of rows) v x) e))
    (put (labels_of rows) v l (omega (arith, length-map rows row_label, h)))

-- a place of the rows is one of the labels
pub in_rows : (rows : List Row) (t : List (Option Label)) (v : ℕ) → labels_of rows ≡ t → v < length t → v < length rows
in_rows rows t v is h = omega (arith, h, ap length is, length-map rows row_label)

-- a blank row takes its node's label away, and no other
pub row_blank : (rows : List Row) (v : ℕ) (r : Row) → row_label r ≡ None
    → labels_of (set rows v r) ≡ set (labels_of rows) v None
row_blank rows v r e = map-set row_label rows v r ∙ ap (λ (x : Option Label). set (labels_of rows) v x) e

pub none_here : (rows : List Row) (v : ℕ) (r : Row) → v < length rows → row_label r ≡ None
    → label_at (labels_of (set rows v r)) v ≡ None
none_here rows v r h e = subst (λ (t : List (Option Label)). label_at t v ≡ None) (sym (row_blank rows v r e))
    (here (labels_of rows) v None (omega (arith, length-map rows row_label, h)))

pub none_other : (rows : List Row) (v u : ℕ) (r : Row) → (u ≡ v → ⊥) → row_label r ≡ None
    → label_at (labels_of (set rows v r)) u ≡ label_at (labels_of rows) u
none_other rows v u r apart e =
    subst (λ (t : List (Option Label)). label_at t u ≡ label_at (labels_of rows) u) (sym (row_blank rows v r e))
    (other (labels_of rows) v u None apart)

-- the labelled nodes below one, ascending
pub record AreBelow (t : List (Option Label)) (v : ℕ) (nodes : List ℕ) : Type 0 where
  pub ascends : IsStrictlyIncreasing nodes
  pub below : All (λ u. u < v) nodes
  pub labelled : (u : ℕ) → Contains nodes u → (l : Label) × (label_at t u ≡ Some l)
  pub complete : (u : ℕ) (l : Label) → u < v → label_at t u ≡ Some l → Contains nodes u

-- the label that is there
pub label_is : (o : Option Label) → is_some o ≡ true → (l : Label) × (o ≡ Some l)
label_is None e = cc
label_is (Some l) e = (l, refl)

-- the next node is one more
pub one_more : (t : List (Option Label)) (v : ℕ) (nodes more : List ℕ) → AreBelow t v nodes
    → is_some (label_at t v) ≡ true → more ≡ nodes ++ v ∷ [] → AreBelow t (v + 1) more
one_more t v nodes more b e same = subst (λ (xs : List ℕ). AreBelow t (v + 1) xs) (sym same) (record {
  ascends = ascend_push nodes v b.ascends b.below;
  below = All-push (λ u. u < v + 1) nodes v (λ k d h. omega (arith, b.below k d h)) (omega arith);
  labelled = λ u c. elim (Contains-push_cases nodes v u c) [
    | inl p ↦ b.labelled u p
    | inr p ↦
        let l = label_is (label_at t v) e in
        (l.0, subst (λ (y : ℕ). label_at t y ≡ Some l.0) p l.1)
  ];
  complete = λ u l h f. elim (same_or_not u v) [
    | inl p ↦ subst (λ (y : ℕ). Contains (nodes ++ v ∷ []) y) (sym p) (Contains-push nodes v)
    | inr p ↦ Contains-append_left nodes (v ∷ []) u (b.complete u l (omega (arith, h, p)) f)
  ];
})

-- the next node has no label
pub no_more : (t : List (Option Label)) (v : ℕ) (nodes : List ℕ) → AreBelow t v nodes
    → is_some (label_at t v) ≡ false → AreBelow t (v + 1) nodes
no_more t v nodes b e = record {
  ascends = b.ascends;
  below = λ k d h. omega (arith, b.below k d h);
  labelled = b.labelled;
  complete = λ u l h f. elim (same_or_not u v) [
    | inl p ↦
        let is : is_some (label_at t v) ≡ true = ap is_some (subst (λ (y : ℕ). label_at t y ≡ Some l) p f) in
        absurd (false_true (sym e ∙ is))
    | inr p ↦ b.complete u l (omega (arith, h, p)) f
  ];
}
  where
    false_true : false ≡ true → ⊥
    false_true h = cc
