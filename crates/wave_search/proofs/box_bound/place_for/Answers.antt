use Rattle.std.proofs.Common.{sym, subst}
use Rattle.route_lattice.specs.Parts.{IsBoxWithin}
use Rattle.wave_search.proofs.Around.{grown_is, widened_within}
use Rattle.wave_search.proofs.box_bound.place_for.Goals as goal

pub is_thin-requires : goal.is_thin-requires
is_thin-requires c =
    let w = c.grown_by.ensures in
    subst IsBoxWithin (sym (grown_is _ c.grown_by.result c.args.p w.x0 w.y0 w.x1 w.y1))
    (widened_within _ c.args.p (c.requires.boxes _ _ c.if-place-boxes.false) c.requires.p)
