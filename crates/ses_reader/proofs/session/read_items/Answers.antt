use Rattle.std.proofs.Common.{◌∙◌, subst, sym}
use Rattle.std.specs.Prelude.{All}
use Rattle.ses_reader.specs.Sound.{IsItemSound}
use Rattle.ses_reader.proofs.Sound.{session_sound}
use Rattle.ses_reader.proofs.session.read_items.Goals as goal

pub returns-in-None-clause-sound : goal.returns-in-None-clause-sound
returns-in-None-clause-sound c few = subst (All (IsItemSound c.args.d.now)) (sym c.in-Ok.ensures.value)
    (session_sound c.args.d.now c.args.tree.now few (sym c.in-Ok.ensures.noted ∙ c.in-None.is))
