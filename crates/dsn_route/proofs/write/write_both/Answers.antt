use Rattle.std.proofs.Common.{◌≡◌}
use Rattle.desk_io.specs.Answers.{PutGives}
use Rattle.route_words.specs.declared.command.Command.{Command}
use Rattle.route_words.specs.declared.command.Command.TheVariants.{Route}
use Rattle.dsn_route.specs.Answers.{HasWritten, report_for}
use Rattle.dsn_route.proofs.Written.{put_out}
use Rattle.dsn_route.proofs.write.write_both.Goals as goal

pub returns-in-Ok-write : goal.returns-in-Ok-write
returns-in-Ok-write g c = λ input from diagonal.
    let command : Command = Route input c.args.output.now from diagonal c.args.knobs in
    let board = c.args.run.now.routed.now.board in
    let facts = c.args.run.now.routed.now.facts in
    let has : HasWritten command board (g.D.Desk.state c.args.desk.now) (g.D.Desk.state c.write.new.self) =
    cc (c.in-Ok-write.ensures.gives, c.as_str.ensures, c.deref.ensures.value, c.in-Ok.ensures, c.design.ensures) in
    let page : c.deref-in-Ok-write.result.now ≡ report_for command board facts =
    cc (c.deref-in-Ok-write.ensures.value, c.in-Ok-report_text.ensures, c.design-2.ensures, c.requires.lattice) in
    let gives : PutGives (g.R.Sink.state c.args.report.now) (g.R.Sink.state c.put.new.self)
    (report_for command board facts) c.put.result =
    rw page at c.put.ensures.gives in
    rw c.ended.ensures (put_out command board facts _ _ _ _ has c.put.result c.verdict.result
    (rw c.as_slice.ensures at c.verdict.ensures) gives)
