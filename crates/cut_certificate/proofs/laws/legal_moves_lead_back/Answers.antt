use Rattle.cut_certificate.proofs.Backing.{legal_mutual}
use Rattle.cut_certificate.proofs.laws.legal_moves_lead_back.Goals as goal

pub returns : goal.returns
returns c = λ d m items net via_cost. legal_mutual d m items net via_cost
