use Rattle.std.proofs.Common.{◌≡◌, ℕ, ℤ, pos, ◌+◌, ◌*◌, ◌<◌, ◌≤◌}
use Rattle.std.proofs.Common.{◌^◌, List, length, slice_index_or, ap, sym, ◌∙◌, subst}
use Rattle.std.proofs.Common.{arith}
use Rattle.std.specs.Prelude.{unsigned_abs}
use Rattle.geo_kernel.proofs.Bounds.{seen}
use Rattle.geo_kernel.specs.declared.point.Point.{Point}
use Rattle.pcb_model.specs.Board.{IsInsideEach}
use Rattle.route_lattice.specs.Fits.{FitsDesign}
use Rattle.route_lattice.specs.Ground.{GroundOf}
use Rattle.move_maps.specs.Starts.{crossing}
use Rattle.move_maps.proofs.Centring.{unseen_small}
use Rattle.move_maps.proofs.Crossings.{inner_next}
use Rattle.move_maps.proofs.inner.push_row.Goals as goal

after : (n i : ℕ) → n + (i + 1) ≡ n + i + 1
after n i = omega arith

pub loop-x-preserved : goal.loop-x-preserved
loop-x-preserved g c =
    let m = c.args.on.now.lat in let row = c.args.row in let i = c.loop-x.x-index in
    let xs = c.as_slice-x-items.result.now in
    let ys = c.as_slice.result.now in
    let bounds = c.as_slice-in-loop-x.result.now in
    let across : xs ≡ m.xs = c.as_slice-x-items.ensures
    ∙ (c.xs.ensures ∙ ap (λ (s : GroundOf). s.lat.xs) c.on.view_is) in
    let up : ys ≡ m.ys = c.as_slice.ensures ∙ (c.ys.ensures ∙ ap (λ (s : GroundOf). s.lat.ys) c.on.view_is) in
    let fits = subst (λ (s : GroundOf). FitsDesign s.d s.lat) c.on.view_is c.on.invariant.fits in
    let hi = subst (λ n. i < n) (ap length across) c.loop-x-test.true in
    let x_small : unsigned_abs (slice_index_or xs i (pos 0)) ≤ 2 ^ 29 =
    subst (λ (zs : List ℤ). unsigned_abs (slice_index_or zs i (pos 0)) ≤ 2 ^ 29) (sym across)
    (fits.xs_within i (pos 0) hi) in
    let y_small : unsigned_abs (slice_index_or ys row (pos 0)) ≤ 2 ^ 29 =
    subst (λ (zs : List ℤ). unsigned_abs (slice_index_or zs row (pos 0)) ≤ 2 ^ 29) (sym up)
    (fits.ys_within row (pos 0) c.requires.row) in
    inner_next c.args.on.now.d m row i (row * length m.xs + (i + 1)) c.is_inside.result c.loop-x.inner c.push.new.self
    hi (after (row * length m.xs) i) c.loop-x.invariant
    (λ t. subst (λ (ls : List (List (List Point))). IsInsideEach ls (crossing m row i))
    (c.as_slice-in-loop-x.ensures ∙ ap (λ (s : GroundOf). s.d.bounds) c.on.view_is)
    (subst (λ (zs : List ℤ). IsInsideEach bounds
    (record { x = slice_index_or zs i (pos 0); y = slice_index_or m.ys row (pos 0) })) across
    (subst (λ (zs : List ℤ). IsInsideEach bounds
    (record { x = slice_index_or xs i (pos 0); y = slice_index_or zs row (pos 0) })) up
    (subst (λ (x : ℤ). IsInsideEach bounds (record { x = x; y = slice_index_or ys row (pos 0) }))
    (unseen_small (slice_index_or xs i (pos 0)) x_small)
    (subst (λ (y : ℤ). IsInsideEach bounds (record { x = seen (slice_index_or xs i (pos 0)); y = y }))
    (unseen_small (slice_index_or ys row (pos 0)) y_small) (c.is_inside.ensures.0 t))))))
    c.in_ok-push.ensures.ok
