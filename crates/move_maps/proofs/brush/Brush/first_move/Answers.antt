use Rattle.std.proofs.Common.{sym, ◌∙◌}
use Rattle.move_maps.proofs.Layered.{none_clear, steps_clear}
use Rattle.move_maps.proofs.brush.Brush.first_move.Goals as goal

pub returns-then-is_on : goal.returns-then-is_on
returns-then-is_on c =
    let s = c.args.self.now in let t = s.group in none_clear t.d t.lat t.first s.item c.args.level

pub returns : goal.returns
returns c =
    let s = c.args.self.now in let t = s.group in
    steps_clear t.d t.lat t.first s.item c.args.level c.layer.result c.layer.ensures (sym c.is_on.ensures
    ∙ c.if-is_on.false)
