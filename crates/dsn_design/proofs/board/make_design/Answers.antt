use Rattle.std.proofs.Common.{◌≡◌, ◌∙◌, ap, sym, subst, [], List}
use Rattle.std.specs.Prelude.{All}
use Rattle.pcb_model.specs.Bounds.{IsFit}
use Rattle.pcb_model.specs.declared.design.Design.{Design}
use Rattle.pcb_model.specs.declared.design.Padstack.{Padstack}
use Rattle.pcb_model.specs.declared.item.Item.{Item}
use Rattle.dsn_design.specs.Items.{free_wiring}
use Rattle.dsn_design.specs.Usable.{usables}
use Rattle.dsn_design.proofs.Making.{frame_stacks, made}
use Rattle.dsn_design.proofs.Padded.{padstacks_fit}
use Rattle.dsn_design.proofs.board.make_design.Goals as goal

abbrev fixed_as : Design → List Item → Design
fixed_as d items = record d { fixed = items }

pub fixed_items-requires-clause-stacks_fit : goal.fixed_items-requires-clause-stacks_fit
fixed_items-requires-clause-stacks_fit c =
    let p = c.args.parts.now in
    let stacks = c.in_ok-stacks.stacks in
    let e : c.in_ok-design.design.padstacks ≡ stacks = ap (λ (d : Design). d.padstacks) c.in_ok-design.ensures
    ∙ frame_stacks p stacks [] c.in_ok-free.free in
    subst (All (λ (s : Padstack). All IsFit s.pieces)) (sym (e ∙ c.in_ok-stacks.ensures.are))
    (padstacks_fit c.layer_count.result (usables stacks) p.library.stacks c.in_ok-stacks.ensures.usable
    c.requires.stacks)

pub returns-in-Ok : goal.returns-in-Ok
returns-in-Ok c =
    let p = c.args.parts.now in
    let frame = c.in_ok-design.design in
    made p c.layer_count.result c.in_ok-stacks.stacks c.in_ok-free.free frame (fixed_as frame c.in-Ok.fixed)
    c.layer_count.ensures.value c.in_ok-stacks.ensures.are c.in_ok-stacks.ensures.usable
    (c.in_ok-free.ensures ∙ ap free_wiring c.as_slice.ensures) c.in_ok-design.ensures
    (ap (fixed_as frame) c.in-Ok.ensures)
