-- Numbers of nodes that are put together fit their types.
use Rattle.std.proofs.Common.{◌≡◌, ℕ, ◌+◌, ◌*◌, ◌<◌, ◌≤◌, ◌^◌, length, sym, subst, arith}
use Rattle.std.proofs.lemmas.Nat.{mul-add-lt}
use Rattle.std.proofs.Math.Nat.{mul-le-mul_left}
use Rattle.route_lattice.specs.Mesh.{Mesh, node_count}
use Rattle.route_lattice.proofs.Places.{node_below}

pub rows_within : (w h n l j i : ℕ) → l < n → j < h → i < w → l * h + j < n * h * w
rows_within w h n l j i hl hj hi =
    let a = mul-add-lt l h j n hl hj in
    let b : 1 ≤ w = omega arith in
    let c = mul-le-mul_left (n * h) b in
    omega (arith, a, c)

-- the number of a node, and that of its row among those of all layers
pub node_fits : (m : Mesh) (w h l j i : ℕ) → w ≡ length m.xs → h ≡ length m.ys → node_count m ≤ 2 ^ 24
    → l < length m.layers → j < length m.ys → i < length m.xs → ((l * h + j) * w + i < 2 ^ 24) × (l * h + j < 2 ^ 24)
node_fits m w h l j i across up few hl hj hi =
    let n = node_below (length m.xs) (length m.ys) (length m.layers) l j i hl hj hi in
    let k = rows_within (length m.xs) (length m.ys) (length m.layers) l j i hl hj hi in
    subst (λ (p : ℕ × ℕ). ((l * p.1 + j) * p.0 + i < 2 ^ 24) × (l * p.1 + j < 2 ^ 24))
    (λ t. (sym across t, sym up t)) (omega (arith, n, few), omega (arith, k, few))
