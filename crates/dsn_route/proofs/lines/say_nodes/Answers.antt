use Rattle.std.proofs.Common.{◌∙◌, ℕ, List, subst}
use Rattle.std.specs.Prelude.{codes}
use Rattle.desk_io.specs.Answers.{PutGives}
use Rattle.dsn_route.proofs.Joined.{three}
use Rattle.dsn_route.proofs.lines.say_nodes.Goals as goal

pub returns : goal.returns
returns g c =
    subst (λ (line : List ℕ). PutGives (g.R.Sink.state c.args.report.now) (g.R.Sink.state c.say.new.report) line
    c.say.result) (three (codes "limit nodes ") c.as_bytes-digits.result.now (codes "\n") _
    (c.as_bytes-digits.ensures.value ∙ c.format.ensures.text)) c.say.ensures
