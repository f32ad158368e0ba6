use Rattle.std.proofs.lemmas.List.Elements.{All-map}
use Rattle.pcb_model.specs.declared.item.Piece.{Piece}
use Rattle.pcb_model.specs.Pairs.{KeepsFrom}
use Rattle.pcb_model.specs.Pieces.{moved_piece}
use Rattle.pcb_model.specs.Bounds.{IsFit}
use Rattle.pcb_model.proofs.Answered.{holds_here, failed_here, passed_here, all_passed}
use Rattle.pcb_model.proofs.Probes.{All-unmap}
use Rattle.pcb_model.proofs.pieces.moved_keep.Goals as goal

pub moved_keeps_all-requires-clause-p_fit : goal.moved_keeps_all-requires-clause-p_fit
moved_keeps_all-requires-clause-p_fit c =
    holds_here IsFit c.args.ps.now c.loop-p.p-index c.p-item.result c.requires.ps_fit c.loop-p-test.true c.p-item.is

pub moved_keeps_all-requires-clause-moved_fit : goal.moved_keeps_all-requires-clause-moved_fit
moved_keeps_all-requires-clause-moved_fit c =
    holds_here (λ (p : Piece). IsFit (moved_piece c.args.by p)) c.args.ps.now c.loop-p.p-index c.p-item.result
    c.requires.moved_fit c.loop-p-test.true c.p-item.is

pub returns-then-not-moved_keeps_all : goal.returns-then-not-moved_keeps_all
returns-then-not-moved_keeps_all c =
    let Q = KeepsFrom c.args.c c.args.rs.now in
    let P : Piece → Type 0 = λ p. KeepsFrom c.args.c c.args.rs.now (moved_piece c.args.by p) in
    let t = failed_here P c.args.ps.now c.loop-p.p-index c.p-item.result c.moved_keeps_all.result c.loop-p-test.true
    c.p-item.is c.moved_keeps_all.ensures c.if-not-moved_keeps_all.true in (
      λ h. record { each = All-map Q (moved_piece c.args.by) c.args.ps.now (t.0 h) },
      λ h. t.1 (All-unmap Q (moved_piece c.args.by) c.args.ps.now h.each),
    )

pub loop-p-preserved : goal.loop-p-preserved
loop-p-preserved c =
    let P : Piece → Type 0 = λ p. KeepsFrom c.args.c c.args.rs.now (moved_piece c.args.by p) in
    passed_here P c.args.ps.now c.loop-p.p-index c.p-item.result c.loop-p-test.true c.p-item.is c.loop-p.invariant
    (c.moved_keeps_all.ensures.0 c.if-not-moved_keeps_all.false)

pub returns : goal.returns
returns c =
    let Q = KeepsFrom c.args.c c.args.rs.now in
    let P : Piece → Type 0 = λ p. KeepsFrom c.args.c c.args.rs.now (moved_piece c.args.by p) in
    let t = all_passed P c.args.ps.now c.loop-p.p-index c.loop-p-test.false c.loop-p.invariant in (
      λ h. record { each = All-map Q (moved_piece c.args.by) c.args.ps.now (t.0 h) },
      λ h. t.1 (All-unmap Q (moved_piece c.args.by) c.args.ps.now h.each),
    )
