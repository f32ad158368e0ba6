use Rattle.std.proofs.Common.{Err, refl, sym, ◌∙◌}
use Rattle.dsn_route.specs.declared.status.Status.TheVariants.{Usage}
use Rattle.dsn_route.specs.Lines.{usage_line}
use Rattle.dsn_route.proofs.Ended.{stopped}
use Rattle.dsn_route.proofs.Dues.{refused_due, over_due, nodes_due, complete_due, one_command}
use Rattle.dsn_route.proofs.Halted.{absent_due, long_due}
use Rattle.dsn_route.proofs.Checked.{clean_due, judged_due, rejected_due}
use Rattle.dsn_route.proofs.Started.{back_due}
use Rattle.dsn_route.proofs.Shutting.{shut_due}
use Rattle.dsn_route.proofs.Knobbed.{is_readable, is_yes}
use Rattle.dsn_route.proofs.Vouching.{vouched_for}
use Rattle.dsn_route.proofs.Wording.{misworded}
use Rattle.dsn_route.proofs.route.dsn_route.Goals as goal

pub returns-in-Some-clause-answers : goal.returns-in-Some-clause-answers
returns-in-Some-clause-answers g c =
    let fault = c.in-Err.fault in
    let number = c.in-Some.number in
    let told = misworded _ fault number c.in-Err.ensures.says (sym c.in-Some.ensures) in
    rw (c.unrouted.ensures, c.ended.ensures, told) (stopped (Err fault) _ _ _ _ _ Usage (usage_line number)
    (record { number = number; number_is = sym c.in-Some.ensures; line_is = refl }) refl c.say_usage.ensures)

pub returns-in-Ok-clause-absent : goal.returns-in-Ok-clause-absent
returns-in-Ok-clause-absent g c = λ missing.
    absent_due c.one_outcome.ensures c.one_session.ensures _ _ _ _ _ c.in-Ok.command c.in-Ok.ensures.says _
    c.route.ensures missing

pub returns-in-Ok-clause-limit : goal.returns-in-Ok-clause-limit
returns-in-Ok-clause-limit g c = λ long.
    long_due c.one_outcome.ensures c.one_session.ensures _ _ _ _ _ c.in-Ok.command c.in-Ok.ensures.says _
    c.route.ensures long

pub returns-in-Ok-clause-refused : goal.returns-in-Ok-clause-refused
returns-in-Ok-clause-refused g c = λ text read unfit.
    refused_due c.one_outcome.ensures c.one_session.ensures _ _ _ _ _ text c.in-Ok.command c.in-Ok.ensures.says read
    _ c.route.ensures unfit

pub returns-in-Ok-clause-counted : goal.returns-in-Ok-clause-counted
returns-in-Ok-clause-counted g c = λ text read over.
    over_due c.one_outcome.ensures c.one_session.ensures _ _ _ _ _ text c.in-Ok.command c.in-Ok.ensures.says read
    _ c.route.ensures over

pub returns-in-Ok-clause-nodes : goal.returns-in-Ok-clause-nodes
returns-in-Ok-clause-nodes g c = λ text read fine.
    nodes_due c.one_outcome.ensures c.one_session.ensures _ _ _ _ _ text c.in-Ok.command c.in-Ok.ensures.says read
    _ c.route.ensures fine

pub returns-in-Ok-clause-complete : goal.returns-in-Ok-clause-complete
returns-in-Ok-clause-complete g c = λ text read routable calm.
    complete_due c.one_outcome.ensures c.one_session.ensures _ _ _ _ _ text c.in-Ok.command c.in-Ok.ensures.says read
    _ c.route.ensures
    routable calm

pub returns-in-Ok-clause-rejected : goal.returns-in-Ok-clause-rejected
returns-in-Ok-clause-rejected g c = λ d told place held none.
    rejected_due c.one_outcome.ensures _ _ _ _ d told _ c.in-Ok.command c.in-Ok.ensures.says _ c.route.ensures
    c.one_session.ensures held place none

pub returns-in-Ok-clause-judged : goal.returns-in-Ok-clause-judged
returns-in-Ok-clause-judged g c = λ d told page held few calm.
    judged_due c.one_outcome.ensures _ _ _ _ d told _ c.in-Ok.command c.in-Ok.ensures.says _ c.route.ensures page held
    few calm

pub returns-in-Ok-clause-clean : goal.returns-in-Ok-clause-clean
returns-in-Ok-clause-clean g c = λ d told page held run calm.
    clean_due c.one_outcome.ensures _ _ _ _ d told _ c.in-Ok.command c.in-Ok.ensures.says _ c.route.ensures page held
    calm (is_readable held.first.text d held.first.reads told page run c.runs_read_back.ensures
    c.later_runs_read_back.ensures)
    (is_yes held.first.text d held.first.reads told page run c.runs_are_right.ensures
    c.later_runs_are_right.ensures)

pub returns-in-Ok-clause-vouched : goal.returns-in-Ok-clause-vouched
returns-in-Ok-clause-vouched g c = λ input session page is status.
    vouched_for c.right_is_vouched.ensures input session page _ _ _ _ c.in-Ok.command _
    (sym c.in-Ok.ensures.says ∙ is) status c.route.ensures

pub returns-in-Ok-clause-comes_back : goal.returns-in-Ok-clause-comes_back
returns-in-Ok-clause-comes_back g c = λ b given.
    back_due c.sessions_come_back.ensures c.one_outcome.ensures _ _ b given c.in-Ok.command c.in-Ok.ensures.says _ _ _
    c.route.result.routed c.route.result.status c.route.ensures

pub returns-in-Ok-clause-wide_shut : goal.returns-in-Ok-clause-wide_shut
returns-in-Ok-clause-wide_shut g c = λ input output from knobs is.
    shut_due c.cuts_are_shut.ensures input output from knobs c.in-Ok.command
    (one_command c.in-Ok.command _ (sym c.in-Ok.ensures.says ∙ is)) _ _ _ _ c.route.result.routed
    c.route.result.status c.route.ensures
