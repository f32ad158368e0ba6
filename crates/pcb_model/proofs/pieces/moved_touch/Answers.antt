use Rattle.pcb_model.specs.declared.item.Piece.{Piece}
use Rattle.pcb_model.specs.Pairs.{TouchesSome}
use Rattle.pcb_model.specs.Pieces.{moved_piece}
use Rattle.pcb_model.specs.Bounds.{IsFit}
use Rattle.pcb_model.proofs.Answered.{holds_here, found_here, missed_here, all_missed}
use Rattle.pcb_model.proofs.Probes.{Any-map, Any-unmap}
use Rattle.pcb_model.proofs.pieces.moved_touch.Goals as goal

pub moved_touches_some-requires-clause-p_fit : goal.moved_touches_some-requires-clause-p_fit
moved_touches_some-requires-clause-p_fit c =
    holds_here IsFit c.args.ps.now c.loop-p.p-index c.p-item.result c.requires.ps_fit c.loop-p-test.true c.p-item.is

pub moved_touches_some-requires-clause-moved_fit : goal.moved_touches_some-requires-clause-moved_fit
moved_touches_some-requires-clause-moved_fit c =
    holds_here (λ (p : Piece). IsFit (moved_piece c.args.by p)) c.args.ps.now c.loop-p.p-index c.p-item.result
    c.requires.moved_fit c.loop-p-test.true c.p-item.is

pub returns-then-moved_touches_some : goal.returns-then-moved_touches_some
returns-then-moved_touches_some c =
    let Q = TouchesSome c.args.rs.now in
    let P : Piece → Type 0 = λ p. TouchesSome c.args.rs.now (moved_piece c.args.by p) in
    let t = found_here P c.args.ps.now c.loop-p.p-index c.p-item.result c.loop-p-test.true c.p-item.is
    (c.moved_touches_some.ensures.0 c.if-moved_touches_some.true) in (
      λ h. record { some = Any-map Q (moved_piece c.args.by) c.args.ps.now (t.0 h) },
      λ h. t.1 (Any-unmap Q (moved_piece c.args.by) c.args.ps.now h.some),
    )

pub loop-p-preserved : goal.loop-p-preserved
loop-p-preserved c =
    let P : Piece → Type 0 = λ p. TouchesSome c.args.rs.now (moved_piece c.args.by p) in
    missed_here P c.args.ps.now c.loop-p.p-index c.p-item.result c.moved_touches_some.result c.loop-p-test.true
    c.p-item.is c.moved_touches_some.ensures c.if-moved_touches_some.false c.loop-p.invariant

pub returns : goal.returns
returns c =
    let Q = TouchesSome c.args.rs.now in
    let P : Piece → Type 0 = λ p. TouchesSome c.args.rs.now (moved_piece c.args.by p) in
    let t = all_missed P c.args.ps.now c.loop-p.p-index c.loop-p-test.false c.loop-p.invariant in (
      λ h. record { some = Any-map Q (moved_piece c.args.by) c.args.ps.now (t.0 h) },
      λ h. t.1 (Any-unmap Q (moved_piece c.args.by) c.args.ps.now h.some),
    )
