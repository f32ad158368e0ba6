use Rattle.std.proofs.Common.{sym, subst}
use Rattle.pcb_tiles.specs.declared.fill.Along.{Along}
use Rattle.pcb_tiles.specs.Filling.{IsRun}
use Rattle.pcb_tiles.proofs.Filling.{run_columns, run_rows}
use Rattle.pcb_tiles.proofs.fill.run_of.Goals as goal

pub returns-in-Rows : goal.returns-in-Rows
returns-in-Rows c =
    let b = c.block_of_entry-b.result in
    let F : Along → Type 0 = λ x. IsRun c.args.area x c.args.e.now b.first_row b.last_row in
    subst F (sym c.in-Rows.is)
    (run_rows c.args.area c.args.e.now b c.block_of_entry-b.ensures.within c.block_of_entry-b.ensures.is)

pub returns-in-Columns : goal.returns-in-Columns
returns-in-Columns c =
    let b = c.block_of_entry-b.result in
    let F : Along → Type 0 = λ x. IsRun c.args.area x c.args.e.now b.first_column b.last_column in
    subst F (sym c.in-Columns.is)
    (run_columns c.args.area c.args.e.now b c.block_of_entry-b.ensures.within c.block_of_entry-b.ensures.is)
