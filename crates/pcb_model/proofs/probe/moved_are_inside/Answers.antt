use Rattle.std.proofs.lemmas.List.Elements.{All-map}
use Rattle.pcb_model.specs.declared.item.Piece.{Piece}
use Rattle.pcb_model.specs.Board.{BeginsInEach}
use Rattle.pcb_model.specs.Pieces.{moved_piece}
use Rattle.pcb_model.specs.Bounds.{IsFit}
use Rattle.pcb_model.proofs.Answered.{holds_here, failed_here, passed_here, all_passed}
use Rattle.pcb_model.proofs.Probes.{All-unmap}
use Rattle.pcb_model.proofs.Inside.{begins_inside}
use Rattle.pcb_model.proofs.probe.moved_are_inside.Goals as goal

pub moved_first-requires-clause-p_fit : goal.moved_first-requires-clause-p_fit
moved_first-requires-clause-p_fit c =
    holds_here IsFit c.args.ps.now c.loop-p.p-index c.p-item.result c.requires.ps_fit c.loop-p-test.true c.p-item.is

pub moved_first-requires-clause-moved_fit : goal.moved_first-requires-clause-moved_fit
moved_first-requires-clause-moved_fit c =
    holds_here (λ (p : Piece). IsFit (moved_piece c.args.by p)) c.args.ps.now c.loop-p.p-index c.p-item.result
    c.requires.moved_fit c.loop-p-test.true c.p-item.is

pub returns-then-not-inside_each : goal.returns-then-not-inside_each
returns-then-not-inside_each c =
    let Q = BeginsInEach c.args.bounds.now in
    let P : Piece → Type 0 = λ p. BeginsInEach c.args.bounds.now (moved_piece c.args.by p) in
    let says = begins_inside c.args.bounds.now (moved_piece c.args.by c.p-item.result) c.moved_first.result
    c.inside_each.result c.moved_first.ensures.first c.inside_each.ensures in
    let t = failed_here P c.args.ps.now c.loop-p.p-index c.p-item.result c.inside_each.result
    c.loop-p-test.true c.p-item.is says c.if-not-inside_each.true in (
      λ h. record { each = All-map Q (moved_piece c.args.by) c.args.ps.now (t.0 h) },
      λ h. t.1 (All-unmap Q (moved_piece c.args.by) c.args.ps.now h.each),
    )

pub loop-p-preserved : goal.loop-p-preserved
loop-p-preserved c =
    let P : Piece → Type 0 = λ p. BeginsInEach c.args.bounds.now (moved_piece c.args.by p) in
    let says = begins_inside c.args.bounds.now (moved_piece c.args.by c.p-item.result) c.moved_first.result
    c.inside_each.result c.moved_first.ensures.first c.inside_each.ensures in
    passed_here P c.args.ps.now c.loop-p.p-index c.p-item.result c.loop-p-test.true c.p-item.is c.loop-p.invariant
    (says.0 c.if-not-inside_each.false)

pub returns : goal.returns
returns c =
    let Q = BeginsInEach c.args.bounds.now in
    let P : Piece → Type 0 = λ p. BeginsInEach c.args.bounds.now (moved_piece c.args.by p) in
    let t = all_passed P c.args.ps.now c.loop-p.p-index c.loop-p-test.false c.loop-p.invariant in (
      λ h. record { each = All-map Q (moved_piece c.args.by) c.args.ps.now (t.0 h) },
      λ h. t.1 (All-unmap Q (moved_piece c.args.by) c.args.ps.now h.each),
    )
