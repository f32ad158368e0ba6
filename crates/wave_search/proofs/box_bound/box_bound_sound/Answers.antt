use Rattle.wave_search.proofs.Around.{bounds}
use Rattle.wave_search.proofs.box_bound.box_bound_sound.Goals as goal

pub returns : goal.returns
returns c = bounds
