use Rattle.std.proofs.Common.{◌<◌, List, ℕ, ℤ, arith, length, refl, subst}
use Rattle.cut_check.proofs.Stretching.{on_lattice}
use Rattle.cut_check.proofs.stretch.is_on.Goals as goal

pub returns : goal.returns
returns c =
    let m = c.args.lat.now in
    let s = c.args.s in
    let level : s.level < length m.layers =
    subst (λ (xs : List ℕ). s.level < length xs) c.layers.ensures (omega (arith, c.if-s-len.false, c.len.ensures)) in
    let row : s.row < length m.ys =
    subst (λ (xs : List ℤ). s.row < length xs) c.ys.ensures (omega (arith, c.if-s-len-2.false, c.len-2.ensures)) in
    let last : s.last < length m.xs =
    subst (λ (xs : List ℤ). s.last < length xs) c.xs.ensures (omega (arith, c.if-s-len-3.false, c.len-3.ensures)) in
    (λ t. on_lattice m s level row last c.if-s.false, λ h. refl)
