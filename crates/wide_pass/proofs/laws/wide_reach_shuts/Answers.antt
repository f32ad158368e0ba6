use Rattle.wide_pass.proofs.Joined.{shuts}
use Rattle.wide_pass.proofs.laws.wide_reach_shuts.Goals as goal

pub returns : goal.returns
returns c = shuts
