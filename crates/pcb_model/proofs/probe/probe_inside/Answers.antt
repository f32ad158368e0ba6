use Rattle.std.proofs.Common.{List, [], ◌∷◌, All, sym, subst, map}
use Rattle.geo_kernel.specs.declared.point.Point.{Point}
use Rattle.pcb_model.specs.declared.item.Piece.{Piece}
use Rattle.pcb_model.specs.declared.item.Probe.{Probe}
use Rattle.pcb_model.specs.Bounds.{IsFit}
use Rattle.pcb_model.specs.Pieces.{moved_piece, pieces_of, metal_of}
use Rattle.pcb_model.specs.Board.{AreInside, IsInsideEach}
use Rattle.pcb_model.proofs.Inside.{wire_within, wire_inside}
use Rattle.pcb_model.proofs.Probes.{disc_fit, step_fit, via_fit, stack_fit}
use Rattle.pcb_model.proofs.probe.probe_inside.Goals as goal

pub inside_each-requires-clause-p_within : goal.inside_each-requires-clause-p_within
inside_each-requires-clause-p_within c =
    wire_within c.in-Disc._layer c.in-Disc._width c.in-Disc.at []
    (disc_fit c.args.d.now c.args.p.now c.in-Disc._layer c.in-Disc._width c.in-Disc.at c.in-Disc.is c.requires.p_fits)

pub inside_each-requires-in-Step-clause-p_within : goal.inside_each-requires-in-Step-clause-p_within
inside_each-requires-in-Step-clause-p_within c =
    wire_within c.in-Step._layer c.in-Step._width c.in-Step.a (c.in-Step._end ∷ [])
    (step_fit c.args.d.now c.args.p.now c.in-Step._layer c.in-Step._width c.in-Step.a c.in-Step._end c.in-Step.is
    c.requires.p_fits)

pub moved_are_inside-requires-clause-ps_fit : goal.moved_are_inside-requires-clause-ps_fit
moved_are_inside-requires-clause-ps_fit c =
    subst (All IsFit) (sym c.padstack_pieces.ensures) (stack_fit c.args.d.now c.in-Via.padstack c.requires.design)

pub moved_are_inside-requires-clause-moved_fit : goal.moved_are_inside-requires-clause-moved_fit
moved_are_inside-requires-clause-moved_fit c =
    let M : Piece → Type 0 = λ r. IsFit (moved_piece c.in-Via.at r) in
    subst (All M) (sym c.padstack_pieces.ensures)
    (via_fit c.args.d.now c.args.p.now c.in-Via.padstack c.in-Via.at c.in-Via.is c.requires.p_fits)

pub returns-in-Disc : goal.returns-in-Disc
returns-in-Disc c =
    let F : Probe → Type 0 = λ q. AreInside c.args.d.now.bounds (pieces_of c.args.d.now (metal_of q)) in
    let B : List (List (List Point)) → Type 0 = λ bs. IsInsideEach bs c.in-Disc.at in
    let w = wire_inside c.args.d.now.bounds c.in-Disc._layer c.in-Disc._width c.in-Disc.at [] in (
      λ t. subst F (sym c.in-Disc.is) (w.0 (subst B c.as_slice.ensures (c.inside_each.ensures.0 t))),
      λ h. c.inside_each.ensures.1 (subst B (sym c.as_slice.ensures) (w.1 (subst F c.in-Disc.is h))),
    )

pub returns-in-Step : goal.returns-in-Step
returns-in-Step c =
    let F : Probe → Type 0 = λ q. AreInside c.args.d.now.bounds (pieces_of c.args.d.now (metal_of q)) in
    let B : List (List (List Point)) → Type 0 = λ bs. IsInsideEach bs c.in-Step.a in
    let w = wire_inside c.args.d.now.bounds c.in-Step._layer c.in-Step._width c.in-Step.a (c.in-Step._end ∷ []) in
    let s = c.as_slice-in-Step.ensures in (
      λ t. subst F (sym c.in-Step.is) (w.0 (subst B s (c.inside_each-in-Step.ensures.0 t))),
      λ h. c.inside_each-in-Step.ensures.1 (subst B (sym s) (w.1 (subst F c.in-Step.is h))),
    )

pub returns-in-Via : goal.returns-in-Via
returns-in-Via c =
    let F : Probe → Type 0 = λ q. AreInside c.args.d.now.bounds (pieces_of c.args.d.now (metal_of q)) in
    let B : List (List (List Point)) → Type 0 = λ bs. AreInside bs
    (map (moved_piece c.in-Via.at) c.padstack_pieces.result.now) in
    let S : List Piece → Type 0 = λ ps. AreInside c.args.d.now.bounds (map (moved_piece c.in-Via.at) ps) in
    let s = c.padstack_pieces.ensures in
    let b = c.as_slice-in-Via.ensures in (
      λ t. subst F (sym c.in-Via.is) (subst S s (subst B b (c.moved_are_inside.ensures.0 t))),
      λ h. c.moved_are_inside.ensures.1 (subst B (sym b) (subst S (sym s) (subst F c.in-Via.is h))),
    )
