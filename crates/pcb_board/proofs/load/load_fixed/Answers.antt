use Rattle.std.proofs.Common.{◌∙◌}
use Rattle.pcb_board.proofs.Loading.{fixed_all}
use Rattle.pcb_board.proofs.load.load_fixed.Goals as goal

pub returns : goal.returns
returns c =
    fixed_all c.args.d.now _ c.requires c.in_ok-tiles.ensures.items (c.in_ok-given.ensures ∙ c.as_slice.ensures)
    c.new.ensures c.in_ok-tiles.ensures.spread
