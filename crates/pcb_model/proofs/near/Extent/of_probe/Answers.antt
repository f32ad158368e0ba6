use Rattle.std.proofs.Common.{List, All, [], ◌∷◌, map, sym, ap, ◌∙◌, subst}
use Rattle.pcb_model.specs.declared.item.Piece.{Piece}
use Rattle.pcb_model.specs.declared.item.Probe.{Probe}
use Rattle.pcb_model.specs.Bounds.{IsFit}
use Rattle.pcb_model.specs.Pieces.{moved_piece, pieces_of, metal_of}
use Rattle.pcb_model.specs.Near.{extent_of, IsExtentOf}
use Rattle.pcb_model.proofs.Inside.{wire_within, wire_end_within}
use Rattle.pcb_model.proofs.Least.{disc_extent}
use Rattle.pcb_model.proofs.Probes.{disc_fit, step_fit, via_fit, stack_fit}
use Rattle.pcb_model.proofs.near.Extent.of_probe.Goals as goal

pub of_wire-requires-clause-a_within : goal.of_wire-requires-clause-a_within
of_wire-requires-clause-a_within c =
    wire_within c.in-Disc.layer c.in-Disc.width c.in-Disc.at []
    (disc_fit c.args.d.now c.args.p.now c.in-Disc.layer c.in-Disc.width c.in-Disc.at c.in-Disc.is c.requires.p_fits)

pub of_wire-requires-clause-b_within : goal.of_wire-requires-clause-b_within
of_wire-requires-clause-b_within c =
    wire_within c.in-Disc.layer c.in-Disc.width c.in-Disc.at []
    (disc_fit c.args.d.now c.args.p.now c.in-Disc.layer c.in-Disc.width c.in-Disc.at c.in-Disc.is c.requires.p_fits)

pub of_wire-requires-clause-width_within : goal.of_wire-requires-clause-width_within
of_wire-requires-clause-width_within c =
    (disc_fit c.args.d.now c.args.p.now c.in-Disc.layer c.in-Disc.width c.in-Disc.at c.in-Disc.is
    c.requires.p_fits).width_within

pub of_wire-requires-in-Step-clause-a_within : goal.of_wire-requires-in-Step-clause-a_within
of_wire-requires-in-Step-clause-a_within c =
    wire_within c.in-Step.layer c.in-Step.width c.in-Step.a (c.in-Step.b ∷ [])
    (step_fit c.args.d.now c.args.p.now c.in-Step.layer c.in-Step.width c.in-Step.a c.in-Step.b c.in-Step.is
    c.requires.p_fits)

pub of_wire-requires-in-Step-clause-b_within : goal.of_wire-requires-in-Step-clause-b_within
of_wire-requires-in-Step-clause-b_within c =
    wire_end_within c.in-Step.layer c.in-Step.width c.in-Step.a c.in-Step.b
    (step_fit c.args.d.now c.args.p.now c.in-Step.layer c.in-Step.width c.in-Step.a c.in-Step.b c.in-Step.is
    c.requires.p_fits)

pub of_wire-requires-in-Step-clause-width_within : goal.of_wire-requires-in-Step-clause-width_within
of_wire-requires-in-Step-clause-width_within c =
    (step_fit c.args.d.now c.args.p.now c.in-Step.layer c.in-Step.width c.in-Step.a c.in-Step.b c.in-Step.is
    c.requires.p_fits).width_within

pub of_moved-requires-clause-ps_fit : goal.of_moved-requires-clause-ps_fit
of_moved-requires-clause-ps_fit c =
    subst (All IsFit) (sym c.padstack_pieces.ensures) (stack_fit c.args.d.now c.in-Via.padstack c.requires.design)

pub of_moved-requires-clause-moved_fit : goal.of_moved-requires-clause-moved_fit
of_moved-requires-clause-moved_fit c =
    let M : Piece → Type 0 = λ r. IsFit (moved_piece c.in-Via.at r) in
    subst (All M) (sym c.padstack_pieces.ensures)
    (via_fit c.args.d.now c.args.p.now c.in-Via.padstack c.in-Via.at c.in-Via.is c.requires.p_fits)

pub returns-in-Disc-clause-least : goal.returns-in-Disc-clause-least
returns-in-Disc-clause-least c =
    let is = ap (λ (q : Probe). extent_of (pieces_of c.args.d.now (metal_of q))) c.in-Disc.is in
    c.of_wire.ensures.least ∙ (disc_extent c.in-Disc.layer c.in-Disc.width c.in-Disc.at ∙ sym is)

pub returns-in-Step-clause-least : goal.returns-in-Step-clause-least
returns-in-Step-clause-least c =
    let is = ap (λ (q : Probe). extent_of (pieces_of c.args.d.now (metal_of q))) c.in-Step.is in
    c.of_wire-in-Step.ensures.least ∙ sym is

pub returns-in-Via-clause-least : goal.returns-in-Via-clause-least
returns-in-Via-clause-least c =
    let is = ap (λ (q : Probe). extent_of (pieces_of c.args.d.now (metal_of q))) c.in-Via.is in
    let stack = ap (λ (ps : List Piece). extent_of (map (moved_piece c.in-Via.at) ps)) c.padstack_pieces.ensures in
    c.of_moved.ensures.least ∙ (stack ∙ sym is)

pub returns-in-Disc-clause-has : goal.returns-in-Disc-clause-has
returns-in-Disc-clause-has c =
    subst (λ (q : Probe). IsExtentOf (pieces_of c.args.d.now (metal_of q)) c.of_wire.result) (sym c.in-Disc.is)
    c.of_wire.ensures.one

pub returns-in-Step-clause-has : goal.returns-in-Step-clause-has
returns-in-Step-clause-has c =
    subst (λ (q : Probe). IsExtentOf (pieces_of c.args.d.now (metal_of q)) c.of_wire-in-Step.result) (sym c.in-Step.is)
    c.of_wire-in-Step.ensures.two

pub returns-in-Via-clause-has : goal.returns-in-Via-clause-has
returns-in-Via-clause-has c =
    let S : List Piece → Type 0 = λ ps. IsExtentOf (map (moved_piece c.in-Via.at) ps) c.of_moved.result in
    subst (λ (q : Probe). IsExtentOf (pieces_of c.args.d.now (metal_of q)) c.of_moved.result) (sym c.in-Via.is)
    (subst S c.padstack_pieces.ensures c.of_moved.ensures.has)
