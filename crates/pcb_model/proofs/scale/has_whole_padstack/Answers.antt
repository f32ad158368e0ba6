use Rattle.std.proofs.Common.{List, Bool, true, Option, sym, ap, ◌∙◌}
use Rattle.std.specs.List.{list_all}
use Rattle.std.specs.Option.{option_map_or}
use Rattle.pcb_model.specs.declared.item.Piece.{Piece}
use Rattle.pcb_model.specs.declared.design.Padstack.{Padstack}
use Rattle.pcb_model.specs.Scale.{is_whole_piece}
use Rattle.pcb_model.proofs.Lookups.{got, got_none}
use Rattle.pcb_model.proofs.scale.has_whole_padstack.Goals as goal

pub returns-in-Some : goal.returns-in-Some
returns-in-Some c =
    let look = c.in-Some.ensures.lookup in
    let at = got c.as_slice.result.now c.args.d.now.padstacks c.args.padstack c.in-Some.s.now c.as_slice.ensures look.1
    look.3.0 in
    let F : List Piece → Bool = λ ps. list_all (is_whole_piece c.args.nm) ps in
    c.has_whole_pieces.ensures ∙ ap F c.as_slice-in-Some.ensures
    ∙ ap (λ (o : Option Padstack). option_map_or (λ (s : Padstack). F s.pieces) o true) (sym at)

pub returns-in-None : goal.returns-in-None
returns-in-None c =
    let at = got_none c.as_slice.result.now c.args.d.now.padstacks c.args.padstack c.as_slice.ensures
    c.in-None.ensures.lookup.3 in
    ap (λ (o : Option Padstack). option_map_or (λ (s : Padstack). list_all (is_whole_piece c.args.nm) s.pieces) o true)
    (sym at)
