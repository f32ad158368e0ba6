-- Chains, point by point.
use Rattle.std.proofs.Common.{◌≡◌, ◌∙◌, ◌<◌, ◌≤◌, ℕ, ◌+◌, ◌-◌, ◌&&◌, Bool, true, false, List, [], ◌∷◌, length, ap}
use Rattle.std.proofs.Common.{arith, drop, get_or, refl, reverse, sym}
use Rattle.std.proofs.lemmas.List.{at_drop_all, drop_more, get_or-reverse, length-reverse}
use Rattle.geo_kernel.specs.declared.point.Point.{Point}
use Rattle.route_check.specs.Board.{are_points, is_point}

-- what ends in false is false
last_false : (a b : Bool) → b ≡ false → (a && b) ≡ false
last_false true b e = e
last_false false b e = refl

-- chains of different lengths aren't equal
pub lengths_differ : (c e : List Point) → (length c ≡ length e → ⊥) → are_points c e ≡ false
lengths_differ [] [] h = absurd (h refl)
lengths_differ [] (q ∷ qs) h = refl
lengths_differ (p ∷ ps) [] h = refl
lengths_differ (p ∷ ps) (q ∷ qs) h = last_false (is_point p q) (are_points ps qs)
    (lengths_differ ps qs (λ e. h (omega (arith, e))))

-- nor is one turned
pub turned_differ : (c e : List Point) → (length c ≡ length e → ⊥) → are_points (reverse c) e ≡ false
turned_differ c e h = lengths_differ (reverse c) e (λ same. h (sym (length-reverse c) ∙ same))

-- one more pair of points
pub points_more : (c e : List Point) (i : ℕ) (o : Point) → i < length c → i < length e
    → are_points (drop i c) (drop i e)
    ≡ (is_point (get_or c i o) (get_or e i o) && are_points (drop (i + 1) c) (drop (i + 1) e))
points_more c e i o in_c in_e = rw (drop_more c i o in_c, drop_more e i o in_e) refl

-- from the other end
drop_turned : (c : List Point) (i : ℕ) (o : Point) → i < length c
    → drop i (reverse c) ≡ get_or c (length c - 1 - i) o ∷ drop (i + 1) (reverse c)
drop_turned c i o within =
    drop_more (reverse c) i o (let count = length-reverse c in omega (arith, within, count))
    ∙ ap (λ (x : Point). x ∷ drop (i + 1) (reverse c)) (get_or-reverse c i o within)

pub turned_more : (c e : List Point) (i : ℕ) (o : Point) → i < length c → i < length e
    → are_points (drop i (reverse c)) (drop i e) ≡ (is_point (get_or c (length c - 1 - i) o) (get_or e i o)
    && are_points (drop (i + 1) (reverse c)) (drop (i + 1) e))
turned_more c e i o in_c in_e = rw (drop_turned c i o in_c, drop_more e i o in_e) refl

-- behind the last point
pub points_end : (c e : List Point) (i : ℕ) → length c ≤ i → length e ≤ i → are_points (drop i c) (drop i e) ≡ true
points_end c e i past_c past_e = at_drop_all (λ (ps : List Point). are_points ps (drop i e)) c i past_c
    ∙ at_drop_all (λ (qs : List Point). are_points [] qs) e i past_e

pub turned_end : (c e : List Point) (i : ℕ) → length c ≤ i → length e ≤ i
    → are_points (drop i (reverse c)) (drop i e) ≡ true
turned_end c e i past_c past_e =
    points_end (reverse c) e i (let count = length-reverse c in omega (arith, past_c, count)) past_e
