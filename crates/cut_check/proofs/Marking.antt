-- What a mark more or less changes.
use Rattle.std.proofs.Common.{◌≡◌, ◌∙◌, inl, inr, ℕ, zero, suc, ◌+◌, ◌<◌, ◌≤◌, List, [], ◌∷◌, ◌++◌, Bool, true}
use Rattle.std.proofs.Common.{replicate, false, Some, ap, arith, get_or, length, refl, subst, sym, take}
use Rattle.std.specs.Prelude.{◌↔◌, Contains, IsTrue, slice_get}
use Rattle.std.proofs.Math.ListN.{set}
use Rattle.std.proofs.lemmas.Bool.{cases_lt}
use Rattle.std.proofs.lemmas.List.{get_or-take, get_or_default, length-replicate, length-set, length-take, take_all}
use Rattle.std.proofs.lemmas.List.Elements.{Contains-append_left, Contains-push, Contains-push_cases}
use Rattle.std.proofs.lemmas.Option.{same_Some, slice_get_read}
use Rattle.cut_certificate.proofs.Marking.{mark_here, mark_only, mark_stays, none_set}
use Rattle.cut_check.specs.Marks.{IsBlank, IsMarked}
use Rattle.cut_check.specs.inner.Marking.{AreCleared, AreMarked, Gains}

-- a node that is read is marked where its mark says so
pub marked_read : (marks : List Bool) (v : ℕ) (b : Bool) → v < length marks → b ≡ get_or marks v b
    → IsTrue b ↔ IsMarked marks v
marked_read marks v b within is =
    let read : slice_get marks v ≡ Some b = slice_get_read marks (length marks) v b refl within is in
    (λ t. read ∙ ap (λ (x : Bool). Some x) t, λ h. same_Some b true (sym read ∙ h))

-- and a node of the nodes is
pub has_mark : (count : ℕ) (marks : List Bool) (nodes : List ℕ) (v : ℕ) → AreMarked count marks nodes → v < count
    → IsTrue (get_or marks v false) ↔ Contains nodes v
has_mark count marks nodes v are low =
    let within : v < length marks = omega (arith, low, are.size) in
    let read = marked_read marks v (get_or marks v false) within (get_or_default marks v false _ within) in
    (λ t. (are.exact v).0 (read.0 t), λ h. read.1 ((are.exact v).1 h))

-- ---- one node more
pub gains_none : (node : ℕ) (nodes : List ℕ) → Contains nodes node → Gains (λ v. node ≡ v) nodes nodes
gains_none node nodes there = record {
  kept = λ v h. h;
  gained = λ v e. subst (Contains nodes) e there;
  only = λ v h. inl h;
}

pub gains_one : (node : ℕ) (nodes more : List ℕ) → more ≡ nodes ++ node ∷ [] → Gains (λ v. node ≡ v) nodes more
gains_one node nodes more is = subst (Gains (λ v. node ≡ v) nodes) (sym is) (record {
  kept = λ v h. Contains-append_left nodes (node ∷ []) v h;
  gained = λ v e. subst (Contains (nodes ++ node ∷ [])) e (Contains-push nodes node);
  only = λ v h. Contains-push_cases nodes node v h;
})

pub marked_more : (count node : ℕ) (marks later : List Bool) (nodes more : List ℕ) → AreMarked count marks nodes
    → node < length marks → more ≡ nodes ++ node ∷ [] → later ≡ set marks node true → AreMarked count later more
marked_more count node marks later nodes more before within is set_is =
    subst (λ (ms : List Bool). AreMarked count ms more) (sym set_is)
    (subst (AreMarked count (set marks node true)) (sym is) (record {
      size = length-set marks node true ∙ before.size;
      there = λ v h. elim (Contains-push_cases nodes node v h) [
        | inl old ↦ before.there v old
        | inr e ↦ omega (arith, e, within, before.size)
      ];
      exact = λ v. (
        λ h. elim (mark_only marks node v h) [
          | inl old ↦ Contains-append_left nodes (node ∷ []) v ((before.exact v).0 old)
          | inr e ↦ subst (Contains (nodes ++ node ∷ [])) e (Contains-push nodes node)
        ],
        λ h. elim (Contains-push_cases nodes node v h) [
          | inl old ↦ mark_stays marks node v ((before.exact v).1 old)
          | inr e ↦ subst (IsMarked (set marks node true)) e (mark_here marks node within)
        ],
      );
    }))

-- ---- no mark
pub blank_of : (count : ℕ) (marks : List Bool) → marks ≡ replicate count false → IsBlank count marks
blank_of count marks is =
    subst (IsBlank count) (sym is) (record { size = length-replicate count false; none = none_set count })

pub blank_marked : (count : ℕ) (marks : List Bool) → IsBlank count marks → AreMarked count marks []
blank_marked count marks blank = record {
  size = blank.size;
  there = λ v h. let low = h.1 in absurd (omega (arith, low));
  exact = λ v. (λ h. absurd (blank.none v h), λ h. let low = h.1 in absurd (omega (arith, low)));
}

pub cleared_blank : (count : ℕ) (marks later : List Bool) (nodes listed : List ℕ) → AreMarked count marks nodes
    → ((v : ℕ) → Contains nodes v → Contains listed v) → AreCleared listed marks later → IsBlank count later
cleared_blank count marks later nodes listed before all cleared = record {
  size = cleared.size ∙ before.size;
  none = λ v h. cleared.cleared v (all v ((before.exact v).0 (cleared.only v h))) h;
}

-- ---- one mark less
clear_here : (marks : List Bool) (v : ℕ) → IsMarked (set marks v false) v → ⊥
clear_here [] v m = cc
clear_here (x ∷ xs) zero m = cc
clear_here (x ∷ xs) (suc v) m = clear_here xs v m

clear_only : (marks : List Bool) (v u : ℕ) → IsMarked (set marks v false) u → IsMarked marks u
clear_only [] v u m = m
clear_only (x ∷ xs) zero zero m = cc
clear_only (x ∷ xs) zero (suc u) m = m
clear_only (x ∷ xs) (suc v) zero m = m
clear_only (x ∷ xs) (suc v) (suc u) m = clear_only xs v u m

pub cleared_none : (nodes : List ℕ) (marks : List Bool) → AreCleared (take 0 nodes) marks marks
cleared_none nodes marks = record {
  size = refl;
  cleared = λ v h. let low = h.1 in absurd (omega (arith, low, length-take 0 nodes));
  only = λ v h. h;
}

pub cleared_more : (nodes : List ℕ) (marks mid later : List Bool) (i : ℕ) → AreCleared (take i nodes) marks mid
    → i < length nodes → later ≡ set mid (get_or nodes i 0) false → AreCleared (take (i + 1) nodes) marks later
cleared_more nodes marks mid later i before within is =
    let node = get_or nodes i 0 in
    subst (AreCleared (take (i + 1) nodes) marks) (sym is) (record {
      size = length-set mid node false ∙ before.size;
      cleared = λ v h m.
          let low : h.0 < length (take (i + 1) nodes) = h.1 in
          let seen = get_or-take (i + 1) nodes h.0 v (omega (arith, low, length-take (i + 1) nodes)) in
          elim (cases_lt h.0 i) [
            | inl early ↦ before.cleared v (
              h.0,
              omega (arith, early, within, length-take i nodes),
              get_or-take i nodes h.0 v early ∙ sym seen ∙ h.2,
            ) (clear_only mid node v m)
            | inr late ↦
                let same : h.0 ≡ i = omega (arith, low, late, length-take (i + 1) nodes) in
                let one : v ≡ node =
                sym h.2 ∙ seen ∙ ap (λ (k : ℕ). get_or nodes k v) same ∙ get_or_default nodes i v 0 within in
                clear_here mid node (subst (IsMarked (set mid node false)) one m)
          ];
      only = λ v m. before.only v (clear_only mid node v m);
    })

pub cleared_all : (nodes : List ℕ) (marks later : List Bool) (i : ℕ) → length nodes ≤ i
    → AreCleared (take i nodes) marks later → AreCleared nodes marks later
cleared_all nodes marks later i past h =
    subst (λ (vs : List ℕ). AreCleared vs marks later) (take_all i nodes past) h
