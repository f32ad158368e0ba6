use Rattle.std.proofs.Common.{◌≡◌, List, map, Option, sym, ap, ◌∙◌, subst, All}
use Rattle.std.specs.Prelude.{IfOk, IfSome}
use Rattle.pcb_model.specs.declared.item.Piece.{Piece}
use Rattle.pcb_model.specs.declared.design.Padstack.{Padstack}
use Rattle.pcb_model.specs.Pieces.{moved_piece, pieces_in, pieces_of}
use Rattle.pcb_model.proofs.Lookups.{got, got_none}
use Rattle.pcb_model.specs.Bounds.{IsFit}
use Rattle.pcb_model.proofs.Within.{All-at}
use Rattle.pcb_model.proofs.make.pieces_of.Goals as goal

pub returns-in-None : goal.returns-in-None
returns-in-None c =
    let m = map (moved_piece c.in-Via.at) in
    let at = got_none c.as_slice-in-Via.result.now c.args.d.now.padstacks c.in-Via.padstack c.as_slice-in-Via.ensures
    c.in-None.ensures.lookup.3 in
    c.new.ensures ∙ ap (λ (o : Option Padstack). m (pieces_in o)) (sym at)
    ∙ ap (pieces_of c.args.d.now) (sym c.in-Via.is)

pub returns-in-Some : goal.returns-in-Some
returns-in-Some c =
    let m = map (moved_piece c.in-Via.at) in
    let look = c.in-Some.ensures.lookup in
    let at = got c.as_slice-in-Via.result.now c.args.d.now.padstacks c.in-Via.padstack c.in-Some.stack.now
    c.as_slice-in-Via.ensures look.1 look.3.0 in
    let e = ap m c.as_slice-in-Some.ensures ∙ ap (λ (o : Option Padstack). m (pieces_in o)) (sym at)
    ∙ ap (pieces_of c.args.d.now) (sym c.in-Via.is) in
    subst (λ (ps : List Piece). IfOk c.move_pieces.result (λ rs. rs ≡ ps)) e c.move_pieces.ensures

pub move_pieces-requires-clause-ps_fit : goal.move_pieces-requires-clause-ps_fit
move_pieces-requires-clause-ps_fit c =
    let look = c.in-Some.ensures.lookup in
    let at = got c.as_slice-in-Via.result.now c.args.d.now.padstacks c.in-Via.padstack c.in-Some.stack.now
    c.as_slice-in-Via.ensures look.1 look.3.0 in
    subst (All IsFit) (sym c.as_slice-in-Some.ensures)
    (subst (λ (o : Option Padstack). IfSome o (λ s. All IsFit s.pieces)) at
    (All-at (λ (s : Padstack). All IsFit s.pieces) c.args.d.now.padstacks c.in-Via.padstack c.requires.padstacks))
