use Rattle.least_offer.proofs.Later.{is_fair}
use Rattle.least_offer.proofs.late_offers_are_fair.Goals as goal

pub returns : goal.returns
returns c = is_fair c.prefixes_keep.ensures.whole c.prefixes_keep.ensures.stay
