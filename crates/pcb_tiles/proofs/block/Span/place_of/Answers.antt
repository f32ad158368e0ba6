use Rattle.std.proofs.Common.{arith}
use Rattle.pcb_tiles.proofs.Tilings.{place_below, nearest_is, nearest_small, seen_small, place_counted}
use Rattle.pcb_tiles.proofs.block.Span.place_of.Goals as goal

pub tile_of-requires : goal.tile_of-requires
tile_of-requires c =
    let a = c.args in
    let is = nearest_is a.self.lo a.self.hi a.z _ _ c.args.self.lo_within c.args.self.hi_within c.ranges.z
    c.min.ensures.value
    c.max-nearest.ensures.value in
    seen_small c.max-nearest.result
    (nearest_small a.self.lo a.self.hi a.z _ c.args.self.rises c.args.self.lo_within c.args.self.hi_within is)

pub tile_of-requires-2 : goal.tile_of-requires-2
tile_of-requires-2 c = seen_small c.args.self.lo c.args.self.lo_within

pub returns-clause-is : goal.returns-clause-is
returns-clause-is c =
    let a = c.args in
    let is = nearest_is a.self.lo a.self.hi a.z _ _ c.args.self.lo_within c.args.self.hi_within c.ranges.z
    c.min.ensures.value
    c.max-nearest.ensures.value in
    place_counted a.self.lo a.self.hi a.z _ _ _ c.args.self.lo_within
    (nearest_small a.self.lo a.self.hi a.z _ c.args.self.rises c.args.self.lo_within c.args.self.hi_within is) is
    c.tile_of.ensures
    c.tile_of-2.ensures

pub returns-clause-within : goal.returns-clause-within
returns-clause-within c =
    let a = c.args in
    let is = nearest_is a.self.lo a.self.hi a.z _ _ c.args.self.lo_within c.args.self.hi_within c.ranges.z
    c.min.ensures.value
    c.max-nearest.ensures.value in
    let counted = place_counted a.self.lo a.self.hi a.z _ _ _ c.args.self.lo_within
    (nearest_small a.self.lo a.self.hi a.z _ c.args.self.rises c.args.self.lo_within c.args.self.hi_within is) is
    c.tile_of.ensures
    c.tile_of-2.ensures in
    omega (arith, counted, place_below a.self.lo a.self.hi a.z c.args.self.rises c.args.self.lo_within)
