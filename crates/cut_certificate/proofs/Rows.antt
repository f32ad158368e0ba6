-- What rows say of marks: a row that keeps none, a mark more, and the marked nodes of a row.
use Rattle.std.proofs.Common.{◌≡◌, ℕ, zero, suc, ◌+◌, ◌*◌, ◌/◌, ◌%◌, ◌<◌, ◌≤◌, List, [], ◌∷◌, ◌++◌, length, get_or}
use Rattle.std.proofs.Common.{Bool, true, false, Some, ap, sym, refl, ◌∙◌, subst, inl, inr, arith, true≢false}
use Rattle.std.specs.Prelude.{◌↔◌, slice_get, IsTrue}
use Rattle.std.proofs.Math.ListN.{set, length-set}
use Rattle.std.proofs.Math.Nat.{div-add-mod, div-mul-le_self, div-eq_of_lt-le, lt-mul-div-succ}
use Rattle.std.proofs.lemmas.List.{get_or-set_same, get_or-set_other, get_or_default, ext_get_or, length-append}
use Rattle.std.proofs.lemmas.List.FromFn.{length-map-range_with_len, get_or-map-range_with_len}
use Rattle.std.proofs.lemmas.Bool.{cases_eq, cases_lt}
use Rattle.std.proofs.lemmas.Option.{slice_get-get_or}
use Rattle.cut_certificate.specs.declared.marks.TheConstants.{ROW}
use Rattle.cut_certificate.specs.inner.Marks.{IsMarked, AreListed}
use Rattle.cut_certificate.specs.inner.Rows.{mark_in, marks_of, AreRowsOf, AreBlank, IsSetIn}
use Rattle.cut_certificate.proofs.Marking.{in_range}

-- ---- a row
-- a row without marks more
pub blank_more : (rows : List (List Bool)) → ((k : ℕ) → get_or rows k [] ≡ []) → (k : ℕ)
    → get_or (rows ++ [] ∷ []) k [] ≡ []
blank_more [] h zero = refl
blank_more [] h (suc k) = refl
blank_more (x ∷ xs) h zero = h zero
blank_more (x ∷ xs) h (suc k) = blank_more xs (λ j. h (suc j)) k

-- there is none at first
pub no_rows : (rows : List (List Bool)) → rows ≡ [] → AreBlank 0 rows
no_rows rows e = subst (λ (xs : List (List Bool)). AreBlank 0 xs) (sym e) (record { size = refl; blank = λ k. refl })

-- and then one more
pub blanks_more : (i : ℕ) (rows more : List (List Bool)) (row : List Bool) → AreBlank i rows
    → more ≡ rows ++ row ∷ [] → row ≡ [] → AreBlank (i + 1) more
blanks_more i rows more row b is e = subst (λ (xs : List (List Bool)). AreBlank (i + 1) xs)
    (sym (is ∙ ap (λ (r : List Bool). rows ++ r ∷ []) e))
    (record { size = omega (arith, b.size, length-append rows ([] ∷ [])); blank = blank_more rows b.blank })

-- ---- places
-- a node is told by its row and its place there
pub same_place : (u v : ℕ) → u / ROW ≡ v / ROW → u % ROW ≡ v % ROW → u ≡ v
same_place u v d m = sym (div-add-mod u ROW)
    ∙ ap (λ (x : ℕ). ROW * x + u % ROW) d ∙ ap (λ (x : ℕ). ROW * (v / ROW) + x) m ∙ div-add-mod v ROW

-- a node's place is below the end of the next row
pub below_next : (v : ℕ) → v < (v / ROW + 1) * ROW
below_next v = omega (arith, lt-mul-div-succ v {b = ROW} (omega arith))

-- and its row begins at it or before
pub from_first : (v : ℕ) → v / ROW * ROW ≤ v
from_first v = omega (arith, div-mul-le_self v ROW)

-- a node from the start of a row to below its end is in it
pub in_row : (v k : ℕ) → k * ROW ≤ v → v < (k + 1) * ROW → v / ROW ≡ k
in_row v k low high = div-eq_of_lt-le {k = k} ROW {m = v} (omega (arith, low)) (omega (arith, high))

-- ---- the marks
module _ (count : ℕ) (rows : List (List Bool)) where
  -- there is a mark for each node
  pub size_of : length (marks_of count rows) ≡ count
  unfolding marks_of
  size_of = length-map-range_with_len (mark_in rows) 0 count

  -- it is that of the node's row
  pub mark_of : (v : ℕ) → v < count → get_or (marks_of count rows) v false ≡ mark_in rows v
  unfolding marks_of
  mark_of v h = get_or-map-range_with_len (mark_in rows) 0 count v v false h (omega arith)

  -- a node's mark as its row has it
  pub marked_as : (v : ℕ) → v < count → slice_get (marks_of count rows) v ≡ Some (mark_in rows v)
  marked_as v h = slice_get-get_or (marks_of count rows) v false (omega (arith, h, size_of))
      ∙ ap (λ (b : Bool). Some b) (mark_of v h)

-- a mark isn't set and unset
clash : (b : Bool) → b ≡ false → Some b ≡ Some true → ⊥
clash true e m = true≢false e
clash false e m = cc

-- a row that keeps no marks has no marked node
pub none_kept : (rows : List (List Bool)) (v : ℕ) → get_or rows (v / ROW) [] ≡ [] → mark_in rows v ≡ false
unfolding mark_in
none_kept rows v e = ap (λ (row : List Bool). get_or row (v % ROW) false) e

-- rows without marks mark no node
pub none_marked : (count : ℕ) (rows : List (List Bool)) → ((k : ℕ) → get_or rows k [] ≡ []) → (v : ℕ)
    → IsMarked (marks_of count rows) v → ⊥
none_marked count rows blank v m =
    let h : v < count = omega (arith, in_range (marks_of count rows) v m, size_of count rows) in
    clash (mark_in rows v) (none_kept rows v (blank (v / ROW))) (sym (marked_as count rows v h) ∙ m)

-- ---- marks that are kept in rows
module _ (count : ℕ) (rows : List (List Bool)) (marks : List Bool) (is : marks_of count rows ≡ marks)
    (are : AreRowsOf count rows) where
  pub size_is : length marks ≡ count
  size_is = sym (ap (λ (xs : List Bool). length xs) is) ∙ size_of count rows

  -- a node has a row
  pub row_there : (v : ℕ) → v < length marks → v / ROW < length rows
  row_there v h = omega (
    arith,
    size_is,
    h,
    are,
    below_next count,
    from_first v,
  )

  -- a row begins at a node or one past the last
  pub row_starts : (k : ℕ) → k < length rows → k * ROW ≤ length marks
  row_starts k h = omega (arith, size_is, h, are, from_first count)

  -- behind the rows there is no node
  pub rows_end : (k : ℕ) → length rows ≤ k → length marks ≤ k * ROW
  rows_end k h = omega (arith, size_is, h, are, below_next count)

  -- a node's mark is that of its row
  pub marked_in : (v : ℕ) → v < length marks → slice_get marks v ≡ Some (mark_in rows v)
  marked_in v h = subst (λ (xs : List Bool). slice_get xs v ≡ Some (mark_in rows v)) is
      (marked_as count rows v (omega (arith, h, size_is)))

  pub mark_row : (v : ℕ) (row : List Bool) → v < length marks → row ≡ get_or rows (v / ROW) row
      → mark_in rows v ≡ get_or row (v % ROW) false
  unfolding mark_in
  mark_row v row h e = ap (λ (r : List Bool). get_or r (v % ROW) false)
      (get_or_default rows (v / ROW) [] row (row_there v h) ∙ sym e)

  -- what the row says is the node's mark
  pub has_mark : (v : ℕ) (row : List Bool) (b : Bool) → v < length marks → row ≡ get_or rows (v / ROW) row
      → b ≡ get_or row (v % ROW) false → IsTrue b ↔ IsMarked marks v
  has_mark v row b h e f =
      let there : slice_get marks v ≡ Some b =
      marked_in v h ∙ ap (λ (x : Bool). Some x) (mark_row v row h e ∙ sym f) in
      (λ t. there ∙ ap (λ (x : Bool). Some x) t, λ m. some_true b (sym there ∙ m))
    where
      some_true : (x : Bool) → Some x ≡ Some true → x ≡ true
      some_true true e = refl
      some_true false e = cc

  -- a node of a row that keeps no marks isn't marked
  pub none_here : (v k : ℕ) (row : List Bool) → k * ROW ≤ v → v < (k + 1) * ROW → k < length rows
      → row ≡ get_or rows k row → length row ≡ 0 → IsMarked marks v → ⊥
  none_here v k row low high h e empty m =
      let place : v / ROW ≡ k = in_row v k low high in
      let blank : get_or rows (v / ROW) [] ≡ [] = ap (λ (i : ℕ). get_or rows i []) place
      ∙ get_or_default rows k [] row h ∙ sym e ∙ no_items row empty in
      clash (mark_in rows v) (none_kept rows v blank) (sym (marked_in v (in_range marks v m)) ∙ m)
    where
      no_items : (xs : List Bool) → length xs ≡ 0 → xs ≡ []
      no_items [] e = refl
      no_items (x ∷ xs) e = absurd (omega (arith, e))

  -- ---- a mark more
  module _ (v : ℕ) (old new : List Bool) (h : v < length marks) (was : old ≡ get_or rows (v / ROW) old)
      (s : IsSetIn (v % ROW) old new) where
    abbrev more : List (List Bool)
    more = set rows (v / ROW) new

    row_is : get_or more (v / ROW) [] ≡ new
    row_is = get_or-set_same rows (v / ROW) new [] (row_there v h)

    mark_new : mark_in more v ≡ true
    unfolding mark_in
    mark_new = ap (λ (r : List Bool). get_or r (v % ROW) false) row_is ∙ s.here

    mark_others : (u : ℕ) → (u ≡ v → ⊥) → mark_in more u ≡ mark_in rows u
    unfolding mark_in
    mark_others u n = elim (cases_eq (u / ROW) (v / ROW)) [
      | inl e ↦ ap (λ (r : List Bool). get_or r (u % ROW) false) (ap (λ (k : ℕ). get_or more k []) e ∙ row_is)
          ∙ s.others (u % ROW) (λ m. n (same_place u v e m))
          ∙ ap (λ (r : List Bool). get_or r (u % ROW) false)
          (was ∙ get_or_default rows (v / ROW) old [] (row_there v h) ∙ ap (λ (k : ℕ). get_or rows k []) (sym e))
      | inr d ↦ ap (λ (r : List Bool). get_or r (u % ROW) false)
          (get_or-set_other rows (v / ROW) (u / ROW) new [] d)
    ]

    -- the marks are those with the node's mark set
    pub set_mark : marks_of count more ≡ set marks v true
    set_mark = ext_get_or false (marks_of count more) (set marks v true)
        (size_of count more ∙ sym (length-set marks v true ∙ size_is))
        (λ u there.
        let hu : u < count = omega (arith, there, size_of count more) in
        elim (cases_eq u v) [
          | inl e ↦ mark_of count more u hu ∙ ap (mark_in more) e ∙ mark_new
              ∙ sym (ap (λ (k : ℕ). get_or (set marks v true) k false) e ∙ get_or-set_same marks v true false h)
          | inr n ↦ mark_of count more u hu ∙ mark_others u n
              ∙ sym (subst (λ (xs : List Bool). get_or xs u false ≡ mark_in rows u) is (mark_of count rows u hu))
              ∙ sym (get_or-set_other marks v u true false n)
        ])

-- ---- the list of the marked
-- where none is marked from one to the other
pub listed_on : (marks : List Bool) (a b : ℕ) (nodes : List ℕ) → a ≤ b
    → ((v : ℕ) → a ≤ v → v < b → IsMarked marks v → ⊥) → AreListed marks a nodes → AreListed marks b nodes
listed_on marks a b nodes up none l = record {
  ascends = l.ascends;
  marked = λ v c. let q = l.marked v c in (q.0, omega (arith, q.1, up));
  complete = λ v h m. elim (cases_lt v a) [
    | inl lt ↦ l.complete v lt m
    | inr ge ↦ absurd (none v ge h m)
  ];
}

-- where the list ends at the row's end or at the last node
pub listed_row : (marks : List Bool) (k last : ℕ) (nodes : List ℕ) → last ≤ (k + 1) * ROW
    → (last < length marks → last ≡ (k + 1) * ROW) → AreListed marks last nodes → AreListed marks ((k + 1) * ROW) nodes
listed_row marks k last nodes below whole l = listed_on marks last ((k + 1) * ROW) nodes below
    (λ v ge lt m. omega (arith, ge, lt, whole (omega (arith, ge, in_range marks v m)))) l

-- all of them
pub listed_all : (marks : List Bool) (a : ℕ) (nodes : List ℕ) → length marks ≤ a → AreListed marks a nodes
    → AreListed marks (length marks) nodes
listed_all marks a nodes h l = record {
  ascends = l.ascends;
  marked = λ v c. let q = l.marked v c in (q.0, in_range marks v q.0);
  complete = λ v lt m. l.complete v (omega (arith, lt, h)) m;
}
