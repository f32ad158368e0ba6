use Rattle.std.proofs.Common.{◌≡◌, ◌∷◌, [], ◌++◌, rules}
use Rattle.std.specs.Prelude.{OnOk}
use Rattle.pcb_board.specs.Boards.{free_item}
use Rattle.picture_call.proofs.Growing.{grown_added}
use Rattle.picture_call.proofs.copper.lay_wire.Goals as goal

pub returns-clause-grown : goal.returns-clause-grown
returns-clause-grown c =
    let laid : OnOk c.add_item.result
    (c.add_item.new.copper ≡ c.args.copper.now ++ free_item c.args.d.now c.args.copper.now c.args.w.now ∷ []) =
    search rules in
    grown_added c.args.d.now c.args.copper.now c.add_item.new.copper c.args.w.now c.add_item.result c.requires.sound
    c.requires.wire c.requires.grown laid
