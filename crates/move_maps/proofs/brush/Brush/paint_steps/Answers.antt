use Rattle.std.proofs.Common.{◌≡◌, ℕ, ◌+◌, ◌*◌, ◌≤◌, ◌<◌, refl, ap, ◌∙◌, arith}
use Rattle.route_lattice.specs.Ways.{way_count}
use Rattle.move_maps.proofs.Painting.{begins, goes_on, at_ends, firsts_off, step_index}
use Rattle.move_maps.proofs.Spotting.{disc_fits_at}
use Rattle.move_maps.proofs.brush.Brush.paint_steps.Goals as goal

start : (n : ℕ) → n + 0 ≡ n
start n = omega arith

after : (n i : ℕ) → n + i + 1 ≡ n + (i + 1)
after n i = omega arith

over : (n i : ℕ) → n ≤ n + i
over n i = omega arith

equal : (i n : ℕ) → i ≤ n → n ≤ i → i ≡ n
equal i n h k = omega (arith, h, k)

within : (i first : ℕ) → i < 4 → 4 ≤ first → i < first
within i first h k = omega (arith, h, k)

some : (a : ℕ) → 3 < a → 4 ≤ a
some a h = omega (arith, h)

pub returns-then-first-ge4 : goal.returns-then-first-ge4
returns-then-first-ge4 c =
    let s = c.args.self.now in let t = s.group in let p = c.args.spot.now in
    firsts_off s.stroke t.d t.lat t.first s.item p.node 4 c.args.counts.now
    (some (way_count t.d t.lat t.first) (step_index t.d t.lat t.first 3 (omega arith))) (λ i h.
    c.requires.clear.each p.node i c.requires.spot.there refl (within i c.args.first h c.if-first-ge4.true))

pub shuts_steps-shut-requires : goal.shuts_steps-shut-requires
shuts_steps-shut-requires c =
    let s = c.args.self.now in let t = s.group in let p = c.args.spot.now in let k = c.requires.spot in
    let r = c.told.ensures in
    disc_fits_at t.d t.lat t.first p.node p.layer s.margins.width p.at k.layer_is r.margins.width k.at_is
    r.can_move.sound r.can_move.fits k.there

pub loop-dir-init : goal.loop-dir-init
loop-dir-init c =
    let s = c.args.self.now in let t = s.group in
    let n = c.args.spot.now.node * way_count t.d t.lat t.first in
    begins s.stroke t.d t.lat t.first s.item n (n + 0) c.args.counts.now (start n)

pub loop-dir-preserved : goal.loop-dir-preserved
loop-dir-preserved c =
    let s = c.args.self.now in let t = s.group in
    let n = c.args.spot.now.node * way_count t.d t.lat t.first in
    let i = c.loop-dir.dir in
    goes_on s.stroke t.d t.lat t.first s.item n (n + i) (n + i + 1)
    (n + (i + 1)) c.args.counts.now c.loop-dir.counts c.paint_step.new.counts (over n i) (over (n + i) 1)
    (after n i) c.loop-dir.invariant c.paint_step.ensures

pub paint_step-requires-clause-size : goal.paint_step-requires-clause-size
paint_step-requires-clause-size c = c.loop-dir.invariant.size ∙ c.requires.size

pub returns : goal.returns
returns c =
    let s = c.args.self.now in let t = s.group in
    let n = c.args.spot.now.node * way_count t.d t.lat t.first in
    at_ends s.stroke t.d t.lat t.first s.item n n (n + c.loop-dir.dir)
    (n + 4) c.args.counts.now c.loop-dir.counts refl
    (ap (λ i. n + i) (equal c.loop-dir.dir 4 c.loop-dir.auto.dir-end c.loop-dir-test.false)) c.loop-dir.invariant
