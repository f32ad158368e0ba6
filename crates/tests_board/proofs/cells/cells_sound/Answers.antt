use Rattle.wave_search.proofs.Cells.{sound}
use Rattle.tests_board.proofs.cells.cells_sound.Goals as goal

pub returns : goal.returns
returns g = sound g.args.cells.now.prices g.args.cells.now.offsets g.args.cells.now.width g.args.cells.now.few
