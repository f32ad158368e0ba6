-- The graph of cells may be searched.
use Rattle.std.proofs.Common.{inl, inr, [], ◌∷◌, ◌≡◌, ℕ, ◌^◌, ◌<◌, ◌≤◌, List, length, Option, Some, None, Bool, true}
use Rattle.std.proofs.Common.{false, cond, sym, refl, ap, ◌∙◌, subst, arith}
use Rattle.std.specs.Prelude.{nat_lt, ◌==◌, Contains}
use Rattle.std.proofs.lemmas.Option.{some_pair_parts, none-some}
use Rattle.std.proofs.lemmas.Bool.Decides.{nat_tests, eqb_tells}
use Rattle.std.proofs.lemmas.List.Elements.{Contains-push_cases}
use Rattle.route_lattice.specs.declared.moves.Move.{Move}
use Rattle.route_lattice.specs.declared.moves.Move.TheVariants.{Step}
use Rattle.route_lattice.specs.Walks.{IsSound}
use Rattle.wave_search.specs.Bounds.{IsBound}
use Rattle.wave_search.specs.Cells.{next_cell, price_of, cells_graph}

below : (a b : ℕ) → nat_lt a b ≡ true → a < b
below a b h = grind (arith, nat_tests)

leads_if : (i : ℕ) (b : Bool) (x n : ℕ) → nat_lt x n ≡ b → (m : Move) (to : ℕ)
    → cond {A = Option (Move × ℕ)} b (Some (Step i, x)) None ≡ Some (m, to) → to < n
leads_if i false x n h m to e = absurd (none-some (m, to) e)
leads_if i true x n h m to e = subst (λ (y : ℕ). y < n) (some_pair_parts (Step i) m x to e).1 (below x n h)

pub sound : (prices offsets : List ℕ) (width : ℕ) → length prices ≤ 2 ^ 24 → IsSound (cells_graph prices offsets width)
sound prices offsets width h = record {
  nodes = omega (arith, h);
  leads = λ v i m to a b e. leads_if i (nat_lt (next_cell offsets width v i) (length prices))
      (next_cell offsets width v i) (length prices) refl m to e;
  small_price = λ v i p a b c. c.1;
  one_price = λ v i p q a b c d. c.0 ∙ sym d.0;
}

at_most_one : (b : Bool) → cond {A = ℕ} b 0 1 ≤ 1
at_most_one true = omega arith
at_most_one false = omega arith

itself : (n : ℕ) → cond {A = ℕ} (n == n) 0 1 ≡ 0
itself n = elim (eqb_tells n n) [
  | inl p ↦ ap (λ (b : Bool). cond b 0 1) p.0
  | inr p ↦ absurd (p.1 refl)
]

-- one more step has to be paid for wherever the one goal is not
pub one_step : (prices offsets goals : List ℕ) (width goal : ℕ) → goals ≡ goal ∷ []
    → IsBound (cells_graph prices offsets width) goals (λ v. cond (v == goal) 0 1)
one_step prices offsets goals width goal is = record {
  limit = λ v h. let small : cond {A = ℕ} (v == goal) 0 1 ≤ 1 = at_most_one (v == goal) in omega (arith, small);
  at_goals = λ g c. elim (Contains-push_cases [] goal g (subst (λ (xs : List ℕ). Contains xs g) is c)) [
    | inl q ↦ absurd (omega (arith, q.1))
    | inr q ↦ subst (λ (y : ℕ). cond {A = ℕ} (y == goal) 0 1 ≡ 0) q (itself goal)
  ];
  falls = λ v a h o.
      let small : cond {A = ℕ} (v == goal) 0 1 ≤ 1 = at_most_one (v == goal) in
      let some : 0 < price_of prices (next_cell offsets width v a.index) = o.is_open in
      let price : (a.price ≡ price_of prices (next_cell offsets width v a.index)) × (a.price ≤ 2 ^ 35) = o.costs in
      omega (arith, small, some, price.0);
}
