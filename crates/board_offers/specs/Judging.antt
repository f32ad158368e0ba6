-- What the judgement of an offer says.
use Rattle.std.specs.Prelude.{◌≡◌, ℕ, List}
use Rattle.pcb_model.specs.declared.item.Item.{Item}
use Rattle.pcb_model.specs.declared.design.Design.{Design}
use Rattle.board_offers.specs.declared.offer.Offer.{Offer}
use Rattle.board_offers.specs.declared.judgement.Judged.{Judged}
use Rattle.board_offers.specs.declared.judgement.Judged.TheVariants.{Fault, Fine}
use Rattle.board_offers.specs.Items.{new_items}
use Rattle.board_offers.specs.Offers.{Known, IsWellFormed, FailsFirst}

-- by what an offer is judged
abbrev pub known_by : Design → List Item → ℕ → Known
known_by d given entries = record { design = d; given = given; entries = entries }

-- the first clause that fails, or the new items of a well-formed offer
abbrev pub Judges : Known → Offer → Judged → Type 0
Judges k o (Fault clause) = FailsFirst k o clause
Judges k o (Fine new) = IsWellFormed k o × (new ≡ new_items k.design k.given o)
