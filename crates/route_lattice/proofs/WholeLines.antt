-- Lines, and coordinates rounded to a unit, are whole in the unit.
use Rattle.std.proofs.Common.{◌≡◌, inl, inr, ℕ, ◌*◌, ◌%◌, ◌==◌, ℤ, pos, ◌+ℤ◌, ◌*ℤ◌, Bool, true, List, ap, ◌∙◌, subst}
use Rattle.std.specs.Prelude.{◌||◌, All, Any, unsigned_abs, filter}
use Rattle.std.specs.Ordering.{int_eq}
use Rattle.std.specs.List.{list_any}
use Rattle.std.proofs.Math.Nat.{mul-mod_left}
use Rattle.std.proofs.lemmas.Int.{unsigned_abs-mul}
use Rattle.std.proofs.lemmas.Bool.{or_cases}
use Rattle.std.proofs.lemmas.List.Folds.{Any-from_list_any}
use Rattle.std.proofs.lemmas.List.Elements.{All-weaker, filter_passes}
use Rattle.pcb_model.specs.Scale.{is_whole}
use Rattle.route_lattice.specs.Round.{floor_div, nearest}
use Rattle.route_lattice.specs.Lines.{is_grid_line, between, line_list}
use Rattle.route_lattice.proofs.Sets.{int_eq_exact}
use Rattle.route_lattice.proofs.GridLines.{line_found}

-- a coordinate that is whole in units of so many nm
abbrev pub IsWhole : ℕ → ℤ → Type 0
IsWhole nm z = is_whole nm (unsigned_abs z) ≡ true

-- a multiple is whole
multiple : (nm : ℕ) (q : ℤ) → IsWhole nm (q *ℤ pos nm)
multiple nm q = ap (λ (n : ℕ). n % nm == 0) (unsigned_abs-mul q (pos nm))
    ∙ ap (λ (n : ℕ). n == 0) (mul-mod_left (unsigned_abs q) nm)

-- a rounded coordinate is one
pub nearest_whole : (unit : ℕ) (z : ℤ) → IsWhole unit (nearest unit z)
nearest_whole unit z = multiple unit (floor_div (pos 2 *ℤ z +ℤ pos unit) (2 * unit))

-- what holds of all anchors holds of a line at one of them
at_anchor : (P : ℤ → Type 0) (anchors : List ℤ) (z : ℤ) → All P anchors
    → list_any (λ a. int_eq a z) anchors ≡ true → P z
at_anchor P anchors z all e = from (Any-from_list_any (λ a. int_eq a z) anchors e)
  where
    from : Any (λ a. int_eq a z ≡ true) anchors → P z
    from (k, a, within, is, same) = subst P (int_eq_exact a z same) (subst P is (all k a within))

-- lines between whole anchors are whole
pub lines_whole : (unit grid : ℕ) (low high : ℤ) (anchors : List ℤ) → All (IsWhole unit) anchors
    → All (IsWhole unit) (line_list unit grid low high anchors)
lines_whole unit grid low high anchors all =
    let test : ℤ → Bool = λ z. is_grid_line unit grid z || list_any (λ a. int_eq a z) anchors in
    All-weaker (λ z. test z ≡ true) (IsWhole unit)
    (λ z e. elim (or_cases (is_grid_line unit grid z) (list_any (λ a. int_eq a z) anchors) e) [
      | inl line ↦
          let l = line_found unit grid z line in
          subst (IsWhole unit) l.1 (multiple unit (floor_div (l.0 *ℤ pos grid) unit))
      | inr anchor ↦ at_anchor (IsWhole unit) anchors z all anchor
    ]) (filter test (between low high)) (filter_passes test (between low high))
