-- A call that wrote what it had to write, and put its report.
use Rattle.std.proofs.Common.{inr, Result, Ok, Err}
use Rattle.desk_io.specs.States.{DeskState, SinkState}
use Rattle.desk_io.specs.Answers.{PutGives}
use Rattle.desk_io.specs.declared.desk.SinkFail.{SinkFail}
use Rattle.desk_io.specs.declared.desk.SinkFail.TheVariants as sink_fail
use Rattle.route_words.specs.declared.command.Command.{Command}
use Rattle.route_run.specs.declared.facts.Facts.{Facts}
use Rattle.pcb_board.specs.Boards.{BoardOf}
use Rattle.dsn_route.specs.declared.status.Status.{Status}
use Rattle.dsn_route.specs.declared.status.Status.TheVariants.{Complete, SomeOpen}
use Rattle.dsn_route.specs.Status.{ended_of}
use Rattle.dsn_route.specs.Answers.{HasWritten, Leaves, report_for}
use Rattle.dsn_route.specs.inner.Said.{IsVerdict}

module _ (command : Command) (b : BoardOf) (facts : Facts) (desk later : DeskState) (sink after : SinkState)
    (has : HasWritten command b desk later) where
  all_put : (due : Status) → IsVerdict facts.cuts due
      → PutGives {T = Unit {0}} sink after (report_for command b facts) (Ok tt)
      → Leaves command b facts desk later sink after due
  all_put Complete cuts put = (record { files = has; bytes = put }, cuts)
  all_put SomeOpen cuts put = (record { files = has; bytes = put }, cuts)
  all_put _ cuts put = absurd cuts

  -- it is left so, whatever the put answers
  pub put_out : (put : Result (Unit {0}) SinkFail) (due : Status) → IsVerdict facts.cuts due
      → PutGives sink after (report_for command b facts) put
      → Leaves command b facts desk later sink after (ended_of put due)
  put_out (Ok x) due cuts gives = all_put due cuts gives
  put_out (Err sink_fail.Failed) due cuts gives =
      inr (record { fault = gives.0; files = has; kept = gives.1.0; bytes = gives.1.1 })
  put_out (Err (sink_fail.Memory e)) due cuts gives = (gives, inr has)
