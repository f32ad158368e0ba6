use Rattle.std.proofs.Common.{◌≤◌, ◌^◌, ℤ, pos, ◌+ℤ◌, ◌≤ℤ◌, All, take, get_or, sym, subst, arith}
use Rattle.std.specs.Prelude.{unsigned_abs, neg_ℤ}
use Rattle.std.proofs.lemmas.List.{take_all}
use Rattle.std.proofs.lemmas.List.Elements.{All-more}
use Rattle.geo_kernel.proofs.Bounds.{seen}
use Rattle.move_maps.specs.Starts.{StaysNear}
use Rattle.move_maps.proofs.Centring.{unseen_small}
use Rattle.move_maps.proofs.centred.stay_near.Goals as goal

-- the sum of two numbers that the code passed on
low_of : (z low : ℤ) → unsigned_abs z ≤ 2 ^ 29 → unsigned_abs low ≤ 2 ^ 29
    → neg_ℤ (pos (2 ^ 29)) ≤ℤ (seen z +ℤ seen low) → neg_ℤ (pos (2 ^ 29)) ≤ℤ (z +ℤ low)
low_of z low h k s = subst (λ (a : ℤ). neg_ℤ (pos (2 ^ 29)) ≤ℤ (a +ℤ low)) (unseen_small z h)
    (subst (λ (b : ℤ). neg_ℤ (pos (2 ^ 29)) ≤ℤ (seen z +ℤ b)) (unseen_small low k) s)

high_of : (z high : ℤ) → unsigned_abs z ≤ 2 ^ 29 → unsigned_abs high ≤ 2 ^ 29
    → (seen z +ℤ seen high) ≤ℤ pos (2 ^ 29) → (z +ℤ high) ≤ℤ pos (2 ^ 29)
high_of z high h k s = subst (λ (a : ℤ). (a +ℤ high) ≤ℤ pos (2 ^ 29)) (unseen_small z h)
    (subst (λ (b : ℤ). (seen z +ℤ b) ≤ℤ pos (2 ^ 29)) (unseen_small high k) s)

pub loop-z-init : goal.loop-z-init
loop-z-init c = λ k d h. absurd (omega (arith, h))

pub loop-z-preserved : goal.loop-z-preserved
loop-z-preserved c =
    let low = c.args.low in let high = c.args.high in
    let t = c.if-not-stays_near.false in
    let z = get_or c.args.zs.now c.loop-z.z-index (pos 0) in
    let k = c.requires.zs c.loop-z.z-index (pos 0) c.loop-z-test.true in
    All-more (StaysNear (seen low) (seen high)) c.args.zs.now c.loop-z.z-index (pos 0) c.loop-z-test.true
    c.loop-z.invariant
    (subst (λ (a : ℤ). StaysNear a (seen high) z) (sym (unseen_small low c.requires.low))
    (subst (λ (b : ℤ). StaysNear low b z) (sym (unseen_small high c.requires.high))
    (record {
      from = low_of z low k c.requires.low (c.stays_near.ensures.from t);
      to = high_of z high k c.requires.high (c.stays_near.ensures.to t);
    })))

pub returns : goal.returns
returns c = λ e.
    let low = c.args.low in let high = c.args.high in
    let zs = take c.loop-z.z-index c.args.zs.now in
    subst (All (StaysNear low high)) (take_all c.loop-z.z-index c.args.zs.now c.loop-z-test.false)
    (subst (λ (a : ℤ). All (StaysNear a high) zs) (unseen_small low c.requires.low)
    (subst (λ (b : ℤ). All (StaysNear (seen low) b) zs) (unseen_small high c.requires.high) c.loop-z.invariant))
