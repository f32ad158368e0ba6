use Rattle.std.proofs.Common.{sym, ap, ◌∙◌}
use Rattle.pcb_model.specs.Pieces.{pieces_in}
use Rattle.pcb_model.proofs.Lookups.{got, got_none}
use Rattle.pcb_model.proofs.pieces.padstack_pieces.Goals as goal

pub returns-in-Some : goal.returns-in-Some
returns-in-Some c =
    let look = c.in-Some.ensures.lookup in
    let at = got c.as_slice.result.now c.args.d.now.padstacks c.args.padstack c.in-Some.stack.now c.as_slice.ensures
    look.1 look.3.0 in
    c.as_slice-in-Some.ensures ∙ ap pieces_in (sym at)

pub returns-in-None : goal.returns-in-None
returns-in-None c =
    let at = got_none c.as_slice.result.now c.args.d.now.padstacks c.args.padstack c.as_slice.ensures
    c.in-None.ensures.lookup.3 in
    ap pieces_in (sym at)
