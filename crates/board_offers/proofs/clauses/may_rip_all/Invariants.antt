use Rattle.std.proofs.Common.{take, All}
use Rattle.std.specs.Option.{IsSomeAnd}
use Rattle.std.specs.Prelude.{slice_get}
use Rattle.board_offers.specs.inner.Adding.{IsInTheWayOf}
use Rattle.board_offers.proofs.clauses.may_rip_all.Given as goal

abbrev pub invariant-loop-id : goal.invariant-loop-id
invariant-loop-id l =
    All (λ x. IsSomeAnd (slice_get l.given x) (IsInTheWayOf l.d l.net l.added)) (take l.id-index l.rip)
