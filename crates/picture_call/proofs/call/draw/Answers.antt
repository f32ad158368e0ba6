use Rattle.picture_call.proofs.Later.{from_before}
use Rattle.picture_call.proofs.call.draw.Goals as goal

pub returns-in-Ok : goal.returns-in-Ok
returns-in-Ok g c = from_before c.args.call.now _ _ _ _ c.read.ensures.files c.read.ensures.faults c.read.ensures.calm
    c.draw_text.ensures
