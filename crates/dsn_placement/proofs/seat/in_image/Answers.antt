use Rattle.std.proofs.Common.{◌^◌, arith, subst, sym}
use Rattle.std.proofs.lemmas.Int.{ints}
use Rattle.std.specs.Prelude.{IfSome}
use Rattle.geo_kernel.specs.declared.point.Point.{Point}
use Rattle.geo_kernel.specs.Moved.{moved}
use Rattle.geo_kernel.specs.Plane.{IsWithin}
use Rattle.dsn_placement.specs.Copper.{IsMountWithin}
use Rattle.dsn_placement.proofs.Turned.{turned_small}
use Rattle.dsn_placement.proofs.seat.in_image.Goals as goal

moved_near : (at p : Point) → IsWithin (2 ^ 29) at → IsWithin (2 ^ 30) p → IsWithin (2 ^ 31) (moved at p)
moved_near at p h k = (omega (arith, ints, h.0, k.0), omega (arith, ints, h.1, k.1))

pub moved-requires-clause-p_within : goal.moved-requires-clause-p_within
moved-requires-clause-p_within c =
    let near : IsWithin (2 ^ 30) c.rotate.result = subst (IsWithin (2 ^ 30)) (sym c.rotate.ensures.value)
    (turned_small c.in-Some.mount.angle c.args.p (2 ^ 29) c.requires.p_within) in
    (omega (arith, near.0), omega (arith, near.1))

pub returns-in-Some-clause-within : goal.returns-in-Some-clause-within
returns-in-Some-clause-within c =
    let near : IsWithin (2 ^ 30) c.rotate.result = subst (IsWithin (2 ^ 30)) (sym c.rotate.ensures.value)
    (turned_small c.in-Some.mount.angle c.args.p (2 ^ 29) c.requires.p_within) in
    let mount : IsMountWithin c.in-Some.mount =
    subst (λ o. IfSome o IsMountWithin) c.in-Some.is c.requires.pin_within in
    subst (IsWithin (2 ^ 31)) (sym c.moved.ensures) (moved_near c.in-Some.mount.at c.rotate.result mount.at near)
