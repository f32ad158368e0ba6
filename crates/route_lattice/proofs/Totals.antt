-- The list of all lines and its length.
use Rattle.std.proofs.Common.{◌≡◌, ℕ, zero, ℤ, ◌<◌, ◌≤◌, ◌+◌, ◌<ℤ◌, arith, refl, sym, ap, ap₂, ◌∙◌, subst, List, []}
use Rattle.std.proofs.Common.{◌∷◌, ◌++◌, length, Bool, true, false, inl, inr}
use Rattle.std.specs.Prelude.{map, filter, Contains, ◌⊎◌, ◌&&◌, ◌||◌, not, int_lt}
use Rattle.std.specs.Ordering.{int_cmp, int_eq}
use Rattle.std.specs.List.{list_any}
use Rattle.std.specs.Int.{int_gap}
use Rattle.std.proofs.lemmas.Int.{ints}
use Rattle.std.proofs.lemmas.List.Kept.{IsStrictlySortedBy-filter}
use Rattle.std.proofs.lemmas.List.Elements.{Contains-append_cases, Contains-append_left, Contains-append_right}
use Rattle.route_lattice.specs.Lines.{up_from, between, is_grid_line, line_list, AreLines}
use Rattle.route_lattice.specs.Spans.{line_of, is_other, IsSpan, IsAscending}
use Rattle.route_lattice.proofs.Sets.{first_or_rest, in_rest, none_in_empty, same_ascending, int_eq_exact, int_eq_same}
use Rattle.std.proofs.lemmas.List.Elements.{filter_agree}
use Rattle.route_lattice.proofs.GridLines.{line_found, line_tested, fine_line, fine_line_back}
use Rattle.route_lattice.proofs.Counts.{either_length, up_from_length, map_length}
use Rattle.route_lattice.proofs.Order.{between_has, between_only, between_sorted, filter_has, filter_only}
use Rattle.route_lattice.proofs.Order.{grid_lines_are}

-- the test for an anchor
abbrev pub is_anchor : List ℤ → ℤ → Bool
is_anchor anchors x = list_any (λ a. int_eq a x) anchors

or_left : (a b : Bool) → a ≡ true → (a || b) ≡ true
or_left true b e = refl
or_left false b e = cc

or_right : (a b : Bool) → b ≡ true → (a || b) ≡ true
or_right true b e = refl
or_right false b e = e

or_cases : (a b : Bool) → (a || b) ≡ true → (a ≡ true) ⊎ (b ≡ true)
or_cases true b e = inl refl
or_cases false b e = inr e

and_both : (a b : Bool) → a ≡ true → b ≡ true → (a && b) ≡ true
and_both true b e f = f
and_both false b e f = cc

and_first : (a b : Bool) → (a && b) ≡ true → a ≡ true
and_first true b e = refl
and_first false b e = cc

and_second : (a b : Bool) → (a && b) ≡ true → b ≡ true
and_second true b e = e
and_second false b e = cc

or_else : (b : Bool) → (b ≡ true) ⊎ (not b ≡ true)
or_else true = inl refl
or_else false = inr refl

pub anchor_found : (anchors : List ℤ) (x : ℤ) → is_anchor anchors x ≡ true → Contains anchors x
anchor_found [] x e = cc
anchor_found (a ∷ rest) x e =
    elim (or_cases (int_eq a x) (is_anchor rest x) e) [
      | inl f ↦ (zero, omega arith, int_eq_exact a x f)
      | inr f ↦
          in_rest a x rest (anchor_found rest x f)
    ]

pub anchor_tested : (anchors : List ℤ) (x : ℤ) → Contains anchors x → is_anchor anchors x ≡ true
anchor_tested [] x m = absurd (none_in_empty x m)
anchor_tested (a ∷ rest) x m =
    elim (first_or_rest a x rest m) [
      | inl e ↦ or_left (int_eq a x) (is_anchor rest x) (int_eq_same a x e)
      | inr k ↦
          or_right (int_eq a x) (is_anchor rest x) (anchor_tested rest x k)
    ]

lt_true : (x y : ℤ) → x <ℤ y → int_lt x y ≡ true
lt_true x y h = grind (arith, ints)

lt_from : (x y : ℤ) → int_lt x y ≡ true → x <ℤ y
lt_from x y h = grind (arith, ints)

module _ (unit grid : ℕ) (low high : ℤ) (anchors others : List ℤ)
    (o : IsAscending (filter (is_other unit grid low high) anchors) others) where
  g : ℤ → Bool
  g x = is_grid_line unit grid x

  other_has : (z : ℤ) → low <ℤ z → z <ℤ high → not (is_grid_line unit grid z) ≡ true → Contains anchors z
      → Contains others z
  other_has z h l n m = o.complete z (filter_has (is_other unit grid low high) anchors z m
      (and_both (int_lt low z) (int_lt z high && not (is_grid_line unit grid z)) (lt_true low z h)
      (and_both (int_lt z high) (not (is_grid_line unit grid z)) (lt_true z high l) n)))

  other_only : (z : ℤ) → Contains others z → Contains anchors z × (low <ℤ z) × (z <ℤ high)
      × (not (is_grid_line unit grid z) ≡ true)
  other_only z m =
      let p = filter_only (is_other unit grid low high) anchors z (o.sound z m) in
      let q = and_second (int_lt low z) (int_lt z high && not (is_grid_line unit grid z)) p.1 in (
        p.0,
        lt_from low z (and_first (int_lt low z) (int_lt z high && not (is_grid_line unit grid z)) p.1),
        lt_from z high (and_first (int_lt z high) (not (is_grid_line unit grid z)) q),
        and_second (int_lt z high) (not (is_grid_line unit grid z)) q,
      )

  pub others_are : filter (λ x. is_anchor anchors x && not (is_grid_line unit grid x)) (between low high) ≡ others
  others_are =
      same_ascending (filter (λ x. is_anchor anchors x && not (is_grid_line unit grid x)) (between low high)) others
      (IsStrictlySortedBy-filter int_cmp (λ x. is_anchor anchors x && not (is_grid_line unit grid x)) (between low high)
      (between_sorted low high)) o.ascends
      (λ z m.
      let p = filter_only (λ x. is_anchor anchors x && not (is_grid_line unit grid x)) (between low high) z m in
      let q = between_only low high z p.0 in
      other_has z q.0 q.1 (and_second (is_anchor anchors z) (not (is_grid_line unit grid z)) p.1)
      (anchor_found anchors z (and_first (is_anchor anchors z) (not (is_grid_line unit grid z)) p.1)))
      (λ z m.
      let p = other_only z m in
      filter_has (λ x. is_anchor anchors x && not (is_grid_line unit grid x)) (between low high) z
      (between_has low high z p.1 p.2)
      (and_both (is_anchor anchors z) (not (is_grid_line unit grid z)) (anchor_tested anchors z p.0) p.3))

  module _ (first last : ℤ) (hu : 0 < unit) (hg : unit ≤ grid) (s : IsSpan unit grid low high first last) where
    -- how many lines there are, without a list of them
    pub line_count : length (line_list unit grid low high anchors) ≡ int_gap first last + length others
    line_count =
        let a = either_length (λ x. is_grid_line unit grid x) (λ x. is_anchor anchors x) (between low high) in
        let b = ap (λ (xs : List ℤ). length xs) (grid_lines_are unit grid low high first last hu hg s) in
        let c = map_length (line_of unit grid) (up_from first (int_gap first last)) in
        let d = up_from_length first (int_gap first last) in
        let e = ap (λ (xs : List ℤ). length xs) others_are in
        a ∙ ap₂ (λ m n. m + n) (b ∙ c ∙ d) e

    -- a list of the span's lines and the others, ascending, each once, is the list of all lines
    pub lines_are : (r : List ℤ)
        → IsAscending (map (line_of unit grid) (up_from first (int_gap first last)) ++ others) r
        → r ≡ line_list unit grid low high anchors
    lines_are r a =
        let grid_is = grid_lines_are unit grid low high first last hu hg s in
        let ls = map (line_of unit grid) (up_from first (int_gap first last)) in
        same_ascending r (line_list unit grid low high anchors) a.ascends
        (IsStrictlySortedBy-filter int_cmp (λ x. is_grid_line unit grid x || is_anchor anchors x) (between low high)
        (between_sorted low high))
        (λ z m. elim (Contains-append_cases ls others z (a.sound z m)) [
          | inl k ↦ (let p =
              filter_only (is_grid_line unit grid) (between low high) z
              (subst (λ (xs : List ℤ). Contains xs z) (sym grid_is) k) in
              filter_has (λ x. is_grid_line unit grid x || is_anchor anchors x) (between low high) z p.0
              (or_left (is_grid_line unit grid z) (is_anchor anchors z) p.1))
          | inr k ↦ (let p = other_only z k in
              filter_has (λ x. is_grid_line unit grid x || is_anchor anchors x) (between low high) z
              (between_has low high z p.1 p.2)
              (or_right (is_grid_line unit grid z) (is_anchor anchors z) (anchor_tested anchors z p.0)))
        ])
        (λ z m.
        let p = filter_only (λ x. is_grid_line unit grid x || is_anchor anchors x) (between low high) z m in
        let q = between_only low high z p.0 in
        a.complete z (elim (or_else (is_grid_line unit grid z)) [
          | inl t ↦ Contains-append_left ls others z
              (subst (λ (xs : List ℤ). Contains xs z) grid_is
              (filter_has (is_grid_line unit grid) (between low high) z p.0 t))
          | inr t ↦ Contains-append_right ls others z
              (other_has z q.0 q.1 t
              (anchor_found anchors z (only_right (is_grid_line unit grid z) (is_anchor anchors z) t p.1)))
        ]))
      where
        only_right : (a b : Bool) → not a ≡ true → (a || b) ≡ true → b ≡ true
        only_right true b t e = cc
        only_right false b t e = e

-- a grid finer than the unit has the lines of the unit
both_true : (a b : Bool) → (a ≡ true → b ≡ true) → (b ≡ true → a ≡ true) → a ≡ b
both_true true true f g = refl
both_true true false f g = sym (f refl)
both_true false true f g = g refl
both_true false false f g = refl

pub fine_lines : (unit grid : ℕ) (low high : ℤ) (anchors : List ℤ) → 0 < grid → grid ≤ unit
    → line_list unit unit low high anchors ≡ line_list unit grid low high anchors
fine_lines unit grid low high anchors hg h =
    filter_agree (λ x. is_grid_line unit unit x || is_anchor anchors x)
    (λ x. is_grid_line unit grid x || is_anchor anchors x)
    (λ x. ap (λ b. b || is_anchor anchors x) (both_true (is_grid_line unit unit x) (is_grid_line unit grid x)
    (λ e. line_tested unit grid x (omega arith) hg (fine_line unit grid x hg h (line_found unit unit x e)))
    (λ e. line_tested unit unit x (omega arith) (omega arith)
    (fine_line_back unit grid x (omega arith) (line_found unit grid x e)))))
    (between low high)

-- the list by its definition: it ascends, and holds the lines and nothing else
pub lines_by_membership : (unit grid : ℕ) (low high : ℤ) (anchors : List ℤ) → 0 < unit → 0 < grid
    → AreLines unit grid low high anchors (line_list unit grid low high anchors)
lines_by_membership unit grid low high anchors hu hg = record {
  ascends = IsStrictlySortedBy-filter int_cmp (λ x. is_grid_line unit grid x || is_anchor anchors x) (between low high)
      (between_sorted low high);
  sound = λ x m.
      let p = filter_only (λ x. is_grid_line unit grid x || is_anchor anchors x) (between low high) x m in
      let q = between_only low high x p.0 in
      record {
        above = q.0;
        below = q.1;
        is = elim (or_cases (is_grid_line unit grid x) (is_anchor anchors x) p.1)
            [ inl e ↦ inl (line_found unit grid x e) | inr e ↦ inr (anchor_found anchors x e) ];
      };
  complete = λ x l.
      filter_has (λ x. is_grid_line unit grid x || is_anchor anchors x) (between low high) x
      (between_has low high x l.above l.below)
      (elim l.is [
        | inl e ↦
            or_left (is_grid_line unit grid x) (is_anchor anchors x) (line_tested unit grid x hu hg e)
        | inr m ↦
            or_right (is_grid_line unit grid x) (is_anchor anchors x) (anchor_tested anchors x m)
      ]);
}
