use Rattle.session_law.proofs.ScaleRuns.{run_on_scale}
use Rattle.session_law.proofs.runs_are_on_scale.Goals as goal

pub returns : goal.returns
returns c = λ d grid r b facts few run n within. run_on_scale d grid r b facts few run n
