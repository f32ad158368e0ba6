-- A diagonal leads straight at 45 degrees, on one layer, to a node.
use Rattle.std.proofs.Common.{◌≡◌, ℕ, ℤ, pos, negsuc, ◌+◌, ◌-◌, ◌<◌, ◌≤◌, ◌+ℤ◌, ◌-ℤ◌, ◌*ℤ◌, Bool, true, false}
use Rattle.std.proofs.Common.{◌==◌, Option, Some, None, length, T, refl, sym, ap, ◌∙◌, subst, arith, inl, inr, ◌⊎◌}
use Rattle.std.proofs.Common.{unsigned_abs, unwrap_or}
use Rattle.std.proofs.Math.Dec.{eqb→eq}
use Rattle.std.proofs.lemmas.Int.{ints}
use Rattle.geo_kernel.specs.declared.point.Point.{Point}
use Rattle.pcb_model.specs.declared.design.Design.{Design}
use Rattle.route_lattice.specs.declared.moves.Move.{Move}
use Rattle.route_lattice.specs.declared.moves.Move.TheVariants as move
use Rattle.route_lattice.specs.Mesh.{Mesh, node_count, point_of, layer_of}
use Rattle.route_lattice.specs.Fits.{FitsDesign}
use Rattle.route_lattice.specs.Ways.{step_at}
use Rattle.route_lattice.proofs.Leading.{way_leads}
use Rattle.path_wire.specs.Diagonals.{across, up, gap_between, second_leg, first_leg, diagonal_at}
use Rattle.path_wire.proofs.Dirs.{along_x, along_y, IsAhead, IsStraight, chosen, some_not_none}
use Rattle.path_wire.proofs.Dirs.{right_leg, left_leg, upper_leg, lower_leg}

same_number : (a b : ℕ) → (a == b) ≡ true → a ≡ b
same_number a b e = eqb→eq a b (subst T (sym e) tt)

-- ---- what the legs are
pub record HasLegs (m : Mesh) (v k : ℕ) (o : Option (Move × ℕ)) (r : Move × ℕ) : Type 0 where
  pub first : Move × ℕ
  pub first_is : o ≡ Some first
  pub second : Move × ℕ
  pub second_is : step_at m first.1 (up k) ≡ Some second
  pub even : gap_between m v first.1 ≡ gap_between m first.1 second.1
  pub result : Some (move.Step k, second.1) ≡ Some r

module _ (m : Mesh) (v k : ℕ) (r : Move × ℕ) where
  on_second : (first : Move × ℕ) (o : Option (Move × ℕ)) → step_at m first.1 (up k) ≡ o
      → second_leg m v k first.1 o ≡ Some r → HasLegs m v k (Some first) r
  on_second first None i e = absurd (some_not_none r e)
  on_second first (Some s) i e =
      elim (chosen (gap_between m v first.1 == gap_between m first.1 s.1) (Some (move.Step k, s.1)) None (Some r) e) [
        | inl h ↦ record {
          first = first;
          first_is = refl;
          second = s;
          second_is = i;
          even = same_number _ _ h.0;
          result = h.1;
        }
        | inr h ↦ absurd (some_not_none r h.1)
      ]

  on_first : (o : Option (Move × ℕ)) → first_leg m v k o ≡ Some r → HasLegs m v k o r
  on_first None e = absurd (some_not_none r e)
  on_first (Some first) e = on_second first (step_at m first.1 (up k)) refl e

  pub legs : diagonal_at m v k ≡ Some r → HasLegs m v k (step_at m v (across k)) r
  legs e = on_first (step_at m v (across k)) e

-- ---- both legs together
abbrev pub sign : Bool → ℤ
sign true = pos 1
sign false = negsuc 0

even_gaps : (s t : Bool) (xv yv xm ym xw yw : ℤ) (g h : ℕ) → xm ≡ xv +ℤ pos g *ℤ sign s → ym ≡ yv +ℤ pos g *ℤ pos 0
    → xw ≡ xm +ℤ pos h *ℤ pos 0 → yw ≡ ym +ℤ pos h *ℤ sign t
    → unsigned_abs (xm -ℤ xv) + unsigned_abs (ym -ℤ yv) ≡ unsigned_abs (xw -ℤ xm) + unsigned_abs (yw -ℤ ym)
    → (xw ≡ xv +ℤ pos g *ℤ sign s) × (yw ≡ yv +ℤ pos g *ℤ sign t)
even_gaps true true xv yv xm ym xw yw g h a b c d e = (omega (arith, ints), omega (arith, ints))
even_gaps true false xv yv xm ym xw yw g h a b c d e = (omega (arith, ints), omega (arith, ints))
even_gaps false true xv yv xm ym xw yw g h a b c d e = (omega (arith, ints), omega (arith, ints))
even_gaps false false xv yv xm ym xw yw g h a b c d e = (omega (arith, ints), omega (arith, ints))

module _ (m : Mesh) (a b k v mid w : ℕ) (s t : Bool) (ax : along_x a ≡ sign s) (ay : along_y a ≡ pos 0)
    (bx : along_x b ≡ pos 0) (by : along_y b ≡ sign t) (kx : along_x k ≡ sign s) (ky : along_y k ≡ sign t) where
  pub straight_on : IsStraight m a v mid → IsStraight m b mid w → gap_between m v mid ≡ gap_between m mid w
      → IsStraight m k v w
  straight_on f g e =
      let p = point_of m v in
      let q = point_of m mid in
      let r = point_of m w in
      let h = f.ahead.gap in
      let j = g.ahead.gap in
      let at = even_gaps s t p.x p.y q.x q.y r.x r.y h j
      (subst (λ (z : ℤ). q.x ≡ p.x +ℤ pos h *ℤ z) ax f.ahead.x_is)
      (subst (λ (z : ℤ). q.y ≡ p.y +ℤ pos h *ℤ z) ay f.ahead.y_is)
      (subst (λ (z : ℤ). r.x ≡ q.x +ℤ pos j *ℤ z) bx g.ahead.x_is)
      (subst (λ (z : ℤ). r.y ≡ q.y +ℤ pos j *ℤ z) by g.ahead.y_is) e in
      record {
        ahead = record {
          gap = h;
          some = f.ahead.some;
          x_is = subst (λ (z : ℤ). r.x ≡ p.x +ℤ pos h *ℤ z) (sym kx) at.0;
          y_is = subst (λ (z : ℤ). r.y ≡ p.y +ℤ pos h *ℤ z) (sym ky) at.1;
        };
        one_layer = g.one_layer ∙ f.one_layer;
      }

-- ---- the diagonals of a node
-- it leads straight in its direction, to a node
pub record IsDiagonal (m : Mesh) (v k : ℕ) (r : Move × ℕ) : Type 0 where
  pub straight : IsStraight m k v r.1
  pub there : r.1 < node_count m
  pub step : (move.Step k, r.1) ≡ r

made : {X : Type 0} (x y : X) → Some x ≡ Some y → x ≡ y
made x y e = ap (λ (o : Option _). unwrap_or o x) e

-- a direction from 4 to 7
four : (n : ℕ) → n < 4 → (4 + n ≡ 4) ⊎ ((4 + n ≡ 5) ⊎ ((4 + n ≡ 6) ⊎ (4 + n ≡ 7)))
four n small = grind arith

module _ (d : Design) (m : Mesh) (v k : ℕ) (r : Move × ℕ) (fits : FitsDesign d m) (there : v < node_count m) where
  turned : (o : Option (Move × ℕ)) (l : HasLegs m v k o r) → IsStraight m k v l.second.1 → l.second.1 < node_count m
      → IsDiagonal m v k r
  turned o l straight in_lattice =
      let e : (move.Step k, l.second.1) ≡ r = made _ _ l.result in
      record {
        straight = subst (λ (x : Move × ℕ). IsStraight m k v x.1) e straight;
        there = subst (λ (x : Move × ℕ). x.1 < node_count m) e in_lattice;
        step = ap (λ (x : Move × ℕ). (move.Step k, x.1)) (sym e) ∙ e;
      }

module _ (d : Design) (m : Mesh) (v : ℕ) (r : Move × ℕ) (fits : FitsDesign d m) (there : v < node_count m) where
  to_four : HasLegs m v 4 (step_at m v 0) r → IsDiagonal m v 4 r
  to_four l =
      let mid = way_leads d m 0 v 0 l.first.0 l.first.1 there l.first_is in
      turned d m v 4 r fits there (step_at m v 0) l
      (straight_on m 0 2 4 v l.first.1 l.second.1 true true refl refl refl refl refl refl
      (right_leg d m v fits there l.first l.first_is) (upper_leg d m l.first.1 fits mid l.second l.second_is) l.even)
      (way_leads d m 0 l.first.1 2 l.second.0 l.second.1 mid l.second_is)

  to_five : HasLegs m v 5 (step_at m v 1) r → IsDiagonal m v 5 r
  to_five l =
      let mid = way_leads d m 0 v 1 l.first.0 l.first.1 there l.first_is in
      turned d m v 5 r fits there (step_at m v 1) l
      (straight_on m 1 2 5 v l.first.1 l.second.1 false true refl refl refl refl refl refl
      (left_leg d m v fits there l.first l.first_is) (upper_leg d m l.first.1 fits mid l.second l.second_is) l.even)
      (way_leads d m 0 l.first.1 2 l.second.0 l.second.1 mid l.second_is)

  to_six : HasLegs m v 6 (step_at m v 1) r → IsDiagonal m v 6 r
  to_six l =
      let mid = way_leads d m 0 v 1 l.first.0 l.first.1 there l.first_is in
      turned d m v 6 r fits there (step_at m v 1) l
      (straight_on m 1 3 6 v l.first.1 l.second.1 false false refl refl refl refl refl refl
      (left_leg d m v fits there l.first l.first_is) (lower_leg d m l.first.1 fits mid l.second l.second_is) l.even)
      (way_leads d m 0 l.first.1 3 l.second.0 l.second.1 mid l.second_is)

  to_seven : HasLegs m v 7 (step_at m v 0) r → IsDiagonal m v 7 r
  to_seven l =
      let mid = way_leads d m 0 v 0 l.first.0 l.first.1 there l.first_is in
      turned d m v 7 r fits there (step_at m v 0) l
      (straight_on m 0 3 7 v l.first.1 l.second.1 true false refl refl refl refl refl refl
      (right_leg d m v fits there l.first l.first_is) (lower_leg d m l.first.1 fits mid l.second l.second_is) l.even)
      (way_leads d m 0 l.first.1 3 l.second.0 l.second.1 mid l.second_is)

  at : (k : ℕ) → (k ≡ 4) ⊎ ((k ≡ 5) ⊎ ((k ≡ 6) ⊎ (k ≡ 7))) → diagonal_at m v k ≡ Some r → IsDiagonal m v k r
  at k (inl a) e = subst (λ (n : ℕ). IsDiagonal m v n r) (sym a)
      (to_four (legs m v 4 r (subst (λ (n : ℕ). diagonal_at m v n ≡ Some r) a e)))
  at k (inr (inl a)) e = subst (λ (n : ℕ). IsDiagonal m v n r) (sym a)
      (to_five (legs m v 5 r (subst (λ (n : ℕ). diagonal_at m v n ≡ Some r) a e)))
  at k (inr (inr (inl a))) e = subst (λ (n : ℕ). IsDiagonal m v n r) (sym a)
      (to_six (legs m v 6 r (subst (λ (n : ℕ). diagonal_at m v n ≡ Some r) a e)))
  at k (inr (inr (inr a))) e = subst (λ (n : ℕ). IsDiagonal m v n r) (sym a)
      (to_seven (legs m v 7 r (subst (λ (n : ℕ). diagonal_at m v n ≡ Some r) a e)))

  pub diagonal : (n : ℕ) → n < 4 → diagonal_at m v (4 + n) ≡ Some r → IsDiagonal m v (4 + n) r
  diagonal n small e = at (4 + n) (four n small) e
