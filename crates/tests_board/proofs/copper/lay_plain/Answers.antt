use Rattle.std.proofs.Common.{List, sym, subst}
use Rattle.pcb_model.specs.declared.item.Item.{Item}
use Rattle.pcb_model.specs.Sound.{Serves}
use Rattle.pcb_model.proofs.Laying.{serves_more}
use Rattle.tests_board.proofs.copper.lay_plain.Goals as goal

pub returns-in-Ok : goal.returns-in-Ok
returns-in-Ok c =
    let F : List Item → Type 0 = λ xs. Serves xs c.args.d.now in
    subst F (sym c.in-Ok.ensures)
    (serves_more c.args.d.now c.args.copper.now c.in_ok-item.item c.requires.serves c.in_ok-item.ensures.routed
    c.in_ok-item.ensures.of)
