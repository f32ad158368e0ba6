-- The next of ascending lines.
use Rattle.std.proofs.Common.{◌≡◌, ℕ, ℤ, pos, ◌-◌, ◌<◌, ◌≤◌, ◌≤ℤ◌, ◌<ℤ◌, List, [], ◌∷◌, length}
use Rattle.std.proofs.Common.{get_or, refl, sym, ◌∙◌, arith, inl, inr, ◌⊎◌}
use Rattle.std.proofs.Common.{◌≢◌, ap₂, Bool, Some, None, subst}
use Rattle.std.specs.Prelude.{Contains}
use Prim.Native.Nat.{zero, suc}
use Rattle.std.specs.Ordering.{int_cmp}
use Rattle.std.specs.List.Sorted.{IsStrictlySortedBy}
use Rattle.std.proofs.lemmas.Int.{ints}
use Rattle.std.proofs.lemmas.List.Elements.{Contains-get_or}
use Rattle.geo_kernel.specs.declared.point.Point.{Point}
use Rattle.route_lattice.specs.Mesh.{Mesh}
use Rattle.route_lattice.proofs.Between.{lines_rise}
use Rattle.shove.specs.Shoves.{IsNextAbove, IsNextBelow, IsNextLine}
use Rattle.shove.specs.inner.Steps.{FindsLine, FindsRun}

low_or_high : (n m : ℕ) → (n < m) ⊎ (m ≤ n)
low_or_high n zero = inr (omega arith)
low_or_high zero (suc m) = inl (omega arith)
low_or_high (suc n) (suc m) = elim (low_or_high n m) [ inl h ↦ inl (omega arith) | inr h ↦ inr (omega arith) ]

get_or_any : (xs : List ℤ) (k : ℕ) (d e : ℤ) → k < length xs → get_or xs k d ≡ get_or xs k e
get_or_any [] k d e h = absurd (omega arith)
get_or_any (x ∷ xs) zero d e h = refl
get_or_any (x ∷ xs) (suc k) d e h = get_or_any xs k d e (omega arith)

module _ (lines : List ℤ) (at : ℤ) (place : ℕ) (up : IsStrictlySortedBy int_cmp lines) where
  -- a line that is held has a place
  at_place : (z : ℤ) → (h : Contains lines z) → get_or lines h.0 (pos 0) ≡ z
  at_place z h = get_or_any lines h.0 (pos 0) z h.1 ∙ h.2

  module _ (low : (k : ℕ) → k < place → get_or lines k (pos 0) ≤ℤ at) (high : (k : ℕ) → place ≤ k → k < length lines
      → at <ℤ get_or lines k (pos 0)) where
    pub none_above : length lines ≤ place → (z : ℤ) → ¬ (IsNextAbove lines at z)
    none_above all z h =
        let there = h.there in
        let l = low there.0 (omega (arith, there.1)) in
        let e = at_place z there in
        let a = h.above in omega (arith, ints)

    pub first_above : place < length lines → IsNextAbove lines at (get_or lines place (pos 0))
    first_above within = record {
      there = Contains-get_or lines place (pos 0) within;
      above = high place (omega arith) within;
      next = λ z there a. elim (low_or_high there.0 place) [
        | inl h ↦ let l = low there.0 h in let e = at_place z there in absurd (omega (arith, ints))
        | inr h ↦ let r = lines_rise lines place there.0 (pos 0) up h there.1 in let e = at_place z there in omega
            (arith, ints)
      ];
    }

  module _ (low : (k : ℕ) → k < place → get_or lines k (pos 0) <ℤ at) (high : (k : ℕ) → place ≤ k → k < length lines
      → at ≤ℤ get_or lines k (pos 0)) where
    pub none_below : place ≡ 0 → (z : ℤ) → ¬ (IsNextBelow lines at z)
    none_below none z h =
        let there = h.there in
        let l = high there.0 (omega arith) there.1 in
        let e = at_place z there in
        let a = h.below in omega (arith, ints)

    pub last_below : 0 < place → place ≤ length lines → IsNextBelow lines at (get_or lines (place - 1) (pos 0))
    last_below some within = record {
      there = Contains-get_or lines (place - 1) (pos 0) (omega arith);
      below = low (place - 1) (omega arith);
      next = λ z there a. elim (low_or_high there.0 place) [
        | inl h ↦ let r = lines_rise lines there.0 (place - 1) (pos 0) up (omega arith)
            (omega arith) in let e = at_place z there in omega (arith, ints)
        | inr h ↦ let l = high there.0 h there.1 in let e = at_place z there in absurd (omega (arith, ints))
      ];
    }

-- ---- where a run goes
abbrev point_at : ℤ → ℤ → Point
point_at x y = record { x = x; y = y }

module _ (m : Mesh) (up : Bool) (a b : Point) (lines : List ℤ) where
  pub moves_across : lines ≡ m.ys → a.y ≡ b.y → a.x ≢ b.x → (y : ℤ) → FindsLine up lines a.y (Some y)
      → (ax bx z : ℤ) → ax ≡ a.x → bx ≡ b.x → z ≡ y
      → FindsRun m up a b (Some (record { x = ax; y = z }, record { x = bx; y = z }))
  moves_across is one_y apart y next ax bx z ax_is bx_is z_is = inl (record {
    one_y = one_y;
    apart = apart;
    line = y;
    next = subst (λ (zs : List ℤ). IsNextLine up zs a.y y) is next;
    to_a_is = ap₂ point_at ax_is z_is;
    to_b_is = ap₂ point_at bx_is z_is;
  })

  pub stays_across : lines ≡ m.ys → a.y ≡ b.y → FindsLine up lines a.y None → FindsRun m up a b None
  stays_across is one_y none p q (inl across) =
      none across.line (subst (λ (zs : List ℤ). IsNextLine up zs a.y across.line) (sym is) across.next)
  stays_across is one_y none p q (inr upright) = upright.apart one_y

  pub moves_upright : lines ≡ m.xs → a.x ≡ b.x → a.y ≢ b.y → (x : ℤ) → FindsLine up lines a.x (Some x)
      → (ay cy z : ℤ) → ay ≡ a.y → cy ≡ b.y → z ≡ x
      → FindsRun m up a b (Some (record { x = z; y = ay }, record { x = z; y = cy }))
  moves_upright is one_x apart x next ay cy z ay_is cy_is z_is = inr (record {
    one_x = one_x;
    apart = apart;
    line = x;
    next = subst (λ (zs : List ℤ). IsNextLine up zs a.x x) is next;
    to_a_is = ap₂ point_at z_is ay_is;
    to_b_is = ap₂ point_at z_is cy_is;
  })

  pub stays_upright : lines ≡ m.xs → a.x ≡ b.x → a.y ≢ b.y → FindsLine up lines a.x None → FindsRun m up a b None
  stays_upright is one_x apart none p q (inl across) = apart across.one_y
  stays_upright is one_x apart none p q (inr upright) =
      none upright.line (subst (λ (zs : List ℤ). IsNextLine up zs a.x upright.line) (sym is) upright.next)
