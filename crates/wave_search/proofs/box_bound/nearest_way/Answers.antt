use Rattle.std.proofs.Common.{refl, take}
use Rattle.std.proofs.lemmas.List.{take_all}
use Rattle.wave_search.proofs.Around.{way_more, way_is}
use Rattle.wave_search.proofs.box_bound.nearest_way.Goals as goal

pub loop-r-preserved : goal.loop-r-preserved
loop-r-preserved c =
    way_more c.args.p c.args.boxes.now c.loop-r.r-index c.loop-r.least _ _ _ c.loop-r-test.true refl c.loop-r.invariant
    c.lesser_way-least.ensures

pub returns : goal.returns
returns c = way_is c.args.p c.loop-r.least c.args.boxes.now (take c.loop-r.r-index c.args.boxes.now)
    (take_all c.loop-r.r-index c.args.boxes.now c.loop-r-test.false) c.loop-r.invariant
