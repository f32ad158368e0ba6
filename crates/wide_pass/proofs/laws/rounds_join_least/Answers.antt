use Rattle.wide_pass.proofs.Joined.{joined_at}
use Rattle.wide_pass.proofs.laws.rounds_join_least.Goals as goal

pub returns : goal.returns
returns c = joined_at
