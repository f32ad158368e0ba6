use Rattle.std.proofs.Common.{◌-◌, drop, length, arith}
use Rattle.std.proofs.lemmas.List.{length-drop}
use Rattle.pcb_tiles.proofs.Filling.{part_is}
use Rattle.pcb_tiles.proofs.fill.part_from.Goals as goal

pub returns-clause-is : goal.returns-clause-is
returns-clause-is c =
    let rest = drop c.args.from c.args.held.now in
    let n = length c.args.held.now - c.args.from in
    part_is rest n c.min.result (omega (arith, c.min.ensures)) (length-drop c.args.from c.args.held.now)
