use Rattle.std.proofs.Common.{◌≡◌, ℕ, ◌-◌, ◌*◌, ◌/◌, ◌<◌, ◌≤◌, ◌^◌, List, length}
use Rattle.std.proofs.Common.{refl, ap, ap₂, sym, ◌∙◌, subst, arith}
use Rattle.std.specs.Prelude.{slice_index, slice_index_or}
use Rattle.std.proofs.Math.Nat.{mul-le-mul_left}
use Rattle.pcb_model.specs.declared.design.Net.{Net}
use Rattle.route_lattice.specs.Mesh.{Mesh, node_count}
use Rattle.route_lattice.specs.Ways.{vias_of}
use Rattle.route_lattice.specs.Legal.{probe_at}
use Rattle.route_lattice.proofs.Steps.{size, div_le}
use Rattle.route_lattice.proofs.Numbered.{via_there}
use Rattle.move_maps.proofs.Covering.{vias_at}
use Rattle.move_maps.proofs.Plains.{top_start, via_start, level_node}
use Rattle.move_maps.proofs.Plains.{step_start}
use Rattle.move_maps.proofs.start.move_start.Goals as goal

-- the number of the first node of a signal layer, for the counts h of y lines and w of x lines
module _ (m : Mesh) (l h w : ℕ) (eh : h ≡ length m.ys) (ew : w ≡ length m.xs) (some : 0 < node_count m)
    (few : node_count m ≤ 2 ^ 24) (there : l < length m.layers) where
  -- all nodes, by these counts
  all_of : length m.layers * h * w ≡ node_count m
  all_of = ap₂ (λ a b. length m.layers * b * a) ew eh

  -- it is below their number, and there are lines
  parts : (l * h * w < length m.layers * h * w) × (0 < h) × (0 < w)
  parts = level_node (length m.layers) h w l (subst (λ n. 0 < n) (sym all_of) some)
      (subst (λ n. n ≤ 2 ^ 24) (sym all_of) few) there

  -- it is that of a node
  node_there : l * h * w < node_count m
  node_there = subst (λ n. l * h * w < n) all_of parts.0

  -- it is small
  node_small : l * h * w < 2 ^ 24
  node_small = omega (arith, node_there, few)

  -- and so is its line's number
  row_small : l * h < 2 ^ 24
  row_small =
      let one : 1 ≤ w = parts.2 in
      by (l * h * w) (mul-le-mul_left (l * h) one) node_small
    where
      by : (p : ℕ) → l * h * 1 ≤ p → p < 2 ^ 24 → l * h < 2 ^ 24
      by p k n = omega (arith, k, n)

-- some signal layers, where there is a level
some : (n a l : ℕ) → n ≡ a → l < a → 0 < n
some n a l e h = omega (arith, e, h)

pub returns-then-i-lt4 : goal.returns-then-i-lt4
returns-then-i-lt4 g c =
    let s = c.args.moves.now in step_start s.d.now s.lat.now s.net c.args.level c.args.i c.if-i-lt4.true

pub overflow_sub-number : goal.overflow_sub-number
overflow_sub-number g c = c.if-i-lt4.false

pub overflow_cast-number : goal.overflow_cast-number
overflow_cast-number g c = omega (arith, c.ranges.i)

pub nonzero_div-number : goal.nonzero_div-number
nonzero_div-number g c =
    some c.len.result (length c.args.moves.now.lat.now.layers) c.args.level
    (size c.len.result c.layers.result.now c.args.moves.now.lat.now.layers c.len.ensures c.layers.ensures)
    c.requires.level

pub bounds-as_slice-moves : goal.bounds-as_slice-moves
bounds-as_slice-moves g c =
    subst (λ (xs : List Net). c.args.moves.now.net < length xs) (sym c.as_slice.ensures)
    c.requires.can_move.net_there

pub offset_bounds-as_slice-number : goal.offset_bounds-as_slice-number
offset_bounds-as_slice-number g c =
    omega (
      arith,
      c.ranges.i,
      div_le (c.args.i - 4) c.len.result
          (some c.len.result (length c.args.moves.now.lat.now.layers) c.args.level
          (size c.len.result c.layers.result.now c.args.moves.now.lat.now.layers c.len.ensures c.layers.ensures)
          c.requires.level),
    )

pub bounds-as_slice-number : goal.bounds-as_slice-number
bounds-as_slice-number g c =
    let s = c.args.moves.now in
    via_there s.d.now s.lat.now s.net c.args.i _ _ c.index-as_slice-moves.result _
    (size _ _ _ c.len.ensures c.layers.ensures) c.as_slice.ensures c.index-as_slice-moves.is c.as_slice-2.ensures
    c.requires.can_move.net_there c.requires.index c.if-i-lt4.false

pub is_centred-requires-clause-sound : goal.is_centred-requires-clause-sound
is_centred-requires-clause-sound g c = c.requires.can_move.sound

pub is_centred-requires-clause-fits : goal.is_centred-requires-clause-fits
is_centred-requires-clause-fits g c = c.requires.can_move.fits

pub returns-then-not-is_centred : goal.returns-then-not-is_centred
returns-then-not-is_centred g c =
    let s = c.args.moves.now in top_start s.d.now s.lat.now s.net c.args.level c.args.i

pub overflow_mul-node : goal.overflow_mul-node
overflow_mul-node g c =
    let m = c.args.moves.now.lat.now in
    let k = row_small m c.args.level c.len-2.result (length m.xs) (size _ _ _ c.len-2.ensures c.ys.ensures) refl
    c.requires.some c.requires.can_move.fits.few_nodes c.requires.level in omega (arith, k)

pub overflow_mul-node-2 : goal.overflow_mul-node-2
overflow_mul-node-2 g c =
    let m = c.args.moves.now.lat.now in
    let k = node_small m c.args.level c.len-2.result c.len-3.result (size _ _ _ c.len-2.ensures c.ys.ensures)
    (size _ _ _ c.len-3.ensures c.xs.ensures) c.requires.some c.requires.can_move.fits.few_nodes c.requires.level in
    omega (arith, k)

pub overflow_cast-node : goal.overflow_cast-node
overflow_cast-node g c =
    let m = c.args.moves.now.lat.now in
    let k = node_small m c.args.level c.len-2.result c.len-3.result (size _ _ _ c.len-2.ensures c.ys.ensures)
    (size _ _ _ c.len-3.ensures c.xs.ensures) c.requires.some c.requires.can_move.fits.few_nodes c.requires.level in
    omega (arith, k)

pub probe-requires-clause-can_move : goal.probe-requires-clause-can_move
probe-requires-clause-can_move g c = c.requires.can_move

pub probe-requires-clause-node : goal.probe-requires-clause-node
probe-requires-clause-node g c =
    node_there c.args.moves.now.lat.now c.args.level c.len-2.result c.len-3.result
    (size _ _ _ c.len-2.ensures c.ys.ensures) (size _ _ _ c.len-3.ensures c.xs.ensures) c.requires.some
    c.requires.can_move.fits.few_nodes c.requires.level

pub probe-requires-clause-index : goal.probe-requires-clause-index
probe-requires-clause-index g c = c.requires.index

pub returns-in-None : goal.returns-in-None
returns-in-None g c =
    let s = c.args.moves.now in top_start s.d.now s.lat.now s.net c.args.level c.args.i

pub returns-in-Some : goal.returns-in-Some
returns-in-Some g c =
    let s = c.args.moves.now in let d = s.d.now in let m = s.lat.now in
    let i = c.args.i in let l = c.args.level in
    let n = c.index-as_slice-moves.result in
    let vias : c.as_slice-2.result.now ≡ vias_of d s.net = c.as_slice-2.ensures
    ∙ (ap (λ (ns : List Net). (slice_index_or ns s.net n).vias) c.as_slice.ensures
    ∙ sym (vias_at d.nets s.net n c.requires.can_move.net_there)) in
    let layers = c.len.ensures ∙ ap length c.layers.ensures in
    let height = c.len-2.ensures ∙ ap length c.ys.ensures in
    let width = c.len-3.ensures ∙ ap length c.xs.ensures in
    let k = level_node (length m.layers) (length m.ys) (length m.xs) l c.requires.some
    c.requires.can_move.fits.few_nodes c.requires.level in
    via_start d m s.net l i (slice_index c.as_slice-2.result.now ((i - 4) / c.len.result)) c.in-Some.field-0
    c.if-i-lt4.false k.1 k.2
    (ap (λ (ps : List ℕ). slice_index ps ((i - 4) / c.len.result)) vias
    ∙ ap (λ x. slice_index (vias_of d s.net) ((i - 4) / x)) layers)
    (c.is_centred.ensures c.if-not-is_centred.false)
    (c.in-Some.ensures.value ∙ (ap (λ x. probe_at d m s.net (l * x * c.len-3.result) i) height
    ∙ ap (λ x. probe_at d m s.net (l * length m.ys * x) i) width))
