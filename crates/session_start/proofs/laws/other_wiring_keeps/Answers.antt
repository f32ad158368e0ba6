use Rattle.session_start.proofs.Keeping.{sound_with, plain_with}
use Rattle.session_start.proofs.Sessions.{started_sound}
use Rattle.session_start.proofs.laws.other_wiring_keeps.Goals as goal

pub returns-clause-sound : goal.returns-clause-sound
returns-clause-sound c = sound_with

pub returns-clause-plain : goal.returns-clause-plain
returns-clause-plain c = plain_with

pub returns-clause-started : goal.returns-clause-started
returns-clause-started c = started_sound
