-- The first of the doubled grids that passes a test.
use Rattle.std.proofs.Common.{◌≡◌, ℕ, zero, suc, ◌<◌, ◌≤◌, ◌+◌, ◌*◌, ◌^◌, arith, refl, sym, ap, ◌∙◌, subst, Bool, true}
use Rattle.std.proofs.Common.{false, cond}
use Rattle.std.specs.Prelude.{unwrap_or, nat_le, Some}
use Rattle.std.specs.List.{find}
use Rattle.std.proofs.lemmas.Nat.{pow_pos}
use Rattle.std.proofs.lemmas.Grind.{pow_more}
use Rattle.std.proofs.Math.Nat.{mul-le-mul_left}
use Rattle.std.proofs.lemmas.Bool.Decides.{nat_tests}
use Rattle.route_lattice.specs.declared.gather.Parts.{Parts}
use Rattle.route_lattice.specs.Mesh.{node_count}
use Rattle.route_lattice.specs.Parts.{mesh_of, first_grid}
use Rattle.route_lattice.specs.Whole.{doublings}

-- the first of n grids from g on that passes p, or else the top
abbrev pub first_from : (ℕ → Bool) → ℕ → ℕ → ℕ → ℕ
first_from p top n g = unwrap_or (find p (doublings n g)) top

module _ (p : ℕ → Bool) (top : ℕ) where
  pub grid_found : (m n g : ℕ) → m ≡ suc n → p g ≡ true → first_from p top m g ≡ g
  grid_found m n g e t =
      ap (λ k. first_from p top k g) e
      ∙ ap (λ (b : Bool). unwrap_or (cond b (Some g) (find p (doublings n (2 * g)))) top) t

  pub grid_passed : (m n g : ℕ) → m ≡ suc n → p g ≡ false → first_from p top m g ≡ first_from p top n (2 * g)
  grid_passed m n g e t =
      ap (λ k. first_from p top k g) e
      ∙ ap (λ (b : Bool). unwrap_or (cond b (Some g) (find p (doublings n (2 * g)))) top) t

-- a grid that n doublings make 409600000
pub doubled : (m n g : ℕ) → m ≡ suc n → g * 2 ^ m ≡ 409600000 → (2 * g) * 2 ^ n ≡ 409600000
doubled m n g e h = let f : m ≡ n + 1 = omega (arith, e) in
    regroup g (2 ^ n) ∙ ap (λ k. g * k) (sym (pow_more 2 n)) ∙ ap (λ k. g * 2 ^ k) (sym f) ∙ h
  where
    regroup : (a b : ℕ) → (2 * a) * b ≡ a * (b * 2)
    regroup a b = omega arith

pub grid_small : (n g : ℕ) → g * 2 ^ n ≡ 409600000 → g ≤ 409600000
grid_small n g h = let a = mul-le-mul_left g (pow_pos n) in omega (arith, a, h)

pub grid_some : (n g : ℕ) → g * 2 ^ n ≡ 409600000 → 1 ≤ g
grid_some n zero h = absurd (omega arith)
grid_some n (suc g) h = omega arith

-- ---- the loop over the grids
-- the lattice has at most 2^22 nodes
abbrev pub is_coarse : Parts → ℕ → Bool
is_coarse p grid = nat_le (node_count (mesh_of p grid)) (2 ^ 22)

pub coarse : (n k : ℕ) → n ≤ k → nat_le n k ≡ true
coarse n k h = grind (arith, nat_tests)

pub not_coarse : (n k : ℕ) → k < n → nat_le n k ≡ false
not_coarse n k h = grind (arith, nat_tests)

-- with so many grids left from this one on, the first of them is the first of all
pub record IsLeft (p : Parts) (left grid : ℕ) : Type 0 where
  pub is : first_from (is_coarse p) 409600000 left grid ≡ first_grid p
  pub sized : grid * 2 ^ left ≡ 409600000

pub left_at_first : (p : Parts) → IsLeft p 12 100000
unfolding first_grid
left_at_first p = record { is = refl; sized = omega arith }

module _ (p : Parts) (left rest grid : ℕ) (e : left ≡ suc rest) (h : IsLeft p left grid) where
  pub left_next : (count : ℕ) → count ≡ node_count (mesh_of p grid) → 2 ^ 22 < count → IsLeft p rest (grid * 2)
  left_next count c l =
      let twice : grid * 2 ≡ 2 * grid = omega arith in
      let next : IsLeft p rest (2 * grid) = record {
        is = sym (grid_passed (is_coarse p) 409600000 left rest grid e (not_coarse _ _ (subst (λ n. 2 ^ 22 < n) c l)))
            ∙ h.is;
        sized = doubled left rest grid e h.sized;
      } in subst (IsLeft p rest) (sym twice) next

  pub left_found : (count : ℕ) → count ≡ node_count (mesh_of p grid) → count ≤ 2 ^ 22 → grid ≡ first_grid p
  left_found count c l =
      sym (grid_found (is_coarse p) 409600000 left rest grid e (coarse _ _ (subst (λ n. n ≤ 2 ^ 22) c l))) ∙ h.is

pub left_none : (p : Parts) (left grid : ℕ) → left ≡ 0 → IsLeft p left grid → grid ≡ first_grid p
left_none p left grid e h = let last : IsLeft p 0 grid = subst (λ n. IsLeft p n grid) e h in let sized = last.sized in
    omega (arith, sized) ∙ last.is
