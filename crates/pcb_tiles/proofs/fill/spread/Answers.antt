use Rattle.std.proofs.Common.{take, arith}
use Rattle.std.proofs.lemmas.List.{take_all}
use Rattle.pcb_tiles.proofs.Filling.{places_are}
use Rattle.pcb_tiles.proofs.fill.spread.Goals as goal

pub returns : goal.returns
returns c =
    let es = c.args.entries.now in
    let i = c.loop-e.e-index in
    places_are c.args.area c.args.along es (take i es) c.loop-e.places.items c.loop-e.invariant.count
    (take_all i es (omega (arith, c.loop-e-test.false))) c.loop-e.invariant.each
