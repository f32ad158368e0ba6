use Rattle.std.proofs.Common.{◌∙◌, ℕ, List, subst}
use Rattle.std.specs.Prelude.{codes}
use Rattle.desk_io.specs.Answers.{PutGives}
use Rattle.dsn_route.proofs.Joined.{five}
use Rattle.dsn_route.proofs.lines.say_check.Goals as goal

pub returns : goal.returns
returns g c =
    subst (λ (line : List ℕ). PutGives (g.R.Sink.state c.args.report.now) (g.R.Sink.state c.say.new.report) line
    c.say.result) (five (codes "check ") c.as_bytes-digits.result.now (codes " at ") c.as_bytes-place.result.now
    (codes "\n") _ _ (c.as_bytes-digits.ensures.value ∙ c.format.ensures.text)
    (c.as_bytes-place.ensures.value ∙ c.format-2.ensures.text)) c.say.ensures
