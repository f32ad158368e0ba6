use Rattle.std.proofs.Common.{get_or}
use Rattle.std.proofs.lemmas.List.{get_or_default}
use Rattle.std.specs.Option.{IsSomeAnd}
use Rattle.std.specs.Prelude.{slice_get}
use Rattle.board_offers.specs.inner.Adding.{IsInTheWayOf}
use Rattle.pcb_model.proofs.Answered.{passed_here, failed_here, all_passed}
use Rattle.board_offers.proofs.clauses.may_rip_all.Goals as goal

pub loop-id-preserved : goal.loop-id-preserved
loop-id-preserved c =
    let xs = c.args.rip.now in
    let i = c.loop-id.id-index in
    passed_here (λ x. IsSomeAnd (slice_get c.args.given.now x) (IsInTheWayOf c.args.d.now c.args.net c.args.added.now))
    xs i (get_or xs i 0) c.loop-id-test.true (get_or_default xs i 0 (get_or xs i 0) c.loop-id-test.true)
    c.loop-id.invariant
    (c.may_rip.ensures.0 c.if-not-may_rip.false)

pub returns-then-not-may_rip : goal.returns-then-not-may_rip
returns-then-not-may_rip c =
    let xs = c.args.rip.now in
    let i = c.loop-id.id-index in
    failed_here (λ x. IsSomeAnd (slice_get c.args.given.now x) (IsInTheWayOf c.args.d.now c.args.net c.args.added.now))
    xs i (get_or xs i 0) c.may_rip.result c.loop-id-test.true
    (get_or_default xs i 0 (get_or xs i 0) c.loop-id-test.true) c.may_rip.ensures c.if-not-may_rip.true

pub returns : goal.returns
returns c =
    all_passed (λ x. IsSomeAnd (slice_get c.args.given.now x) (IsInTheWayOf c.args.d.now c.args.net c.args.added.now))
    c.args.rip.now c.loop-id.id-index c.loop-id-test.false c.loop-id.invariant
