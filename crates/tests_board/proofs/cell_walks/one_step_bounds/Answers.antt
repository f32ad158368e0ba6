use Rattle.wave_search.proofs.Cells.{one_step}
use Rattle.tests_board.proofs.cell_walks.one_step_bounds.Goals as goal

pub returns : goal.returns
returns g = one_step g.args.cells.now.prices g.args.cells.now.offsets g.args.goals.now g.args.cells.now.width
    g.args.goal g.requires
