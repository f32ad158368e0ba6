use Rattle.std.proofs.Common.{◌≤◌, ◌^◌, unsigned_abs, subst, sym, arith}
use Rattle.geo_kernel.proofs.Bounds.{unseen}
use Rattle.route_lattice.proofs.lines.is_on_grid.Goals as goal

pub multiple_from-requires-clause-small : goal.multiple_from-requires-clause-small
multiple_from-requires-clause-small c =
    subst (λ x. unsigned_abs x ≤ 2 ^ 29) (sym (unseen c.args.x (omega (arith, c.requires.near)))) c.requires.near

pub round_down-requires-clause-small : goal.round_down-requires-clause-small
round_down-requires-clause-small c =
    let h = c.multiple_from.ensures.within in
    subst (λ x. unsigned_abs x ≤ 2 ^ 32) (sym (unseen c.multiple_from.result (omega (arith, h)))) (omega (arith, h))
