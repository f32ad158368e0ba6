use Rattle.session_start.proofs.Front.{starts_alone, starts_whole}
use Rattle.session_start.proofs.laws.legal_wiring_is_kept.Goals as goal

pub returns-clause-kept : goal.returns-clause-kept
returns-clause-kept c = starts_whole

pub returns-clause-alone : goal.returns-clause-alone
returns-clause-alone c = starts_alone
