use Rattle.std.proofs.Common.{◌∙◌, All, subst, sym}
use Rattle.ses_reader.specs.Sound.{IsItemSound}
use Rattle.route_check.proofs.Boards.{left_sound}
use Rattle.route_check.proofs.board.board_items.Goals as goal

pub push_items-requires-clause-items : goal.push_items-requires-clause-items
push_items-requires-clause-items c =
    subst (All (IsItemSound c.args.d.now)) (sym (c.as_slice-2.ensures ∙ c.in_ok-left.ensures))
    (left_sound c.args.d.now c.args.xs.now c.requires.items)
