-- What a board answers to an offer that may be made there.
use Rattle.std.proofs.Common.{ℕ, inl, inr}
use Rattle.board_offers.specs.declared.offer.Offer.{Offer}
use Rattle.pcb_board.specs.declared.answer.Answer.{Answer}
use Rattle.pcb_board.specs.declared.answer.Answer.TheVariants.{Committed, Stale, Wrong, Malformed, Full}
use Rattle.pcb_board.specs.Boards.{BoardOf}
use Rattle.pcb_board.specs.Answers.{Step, known}
use Rattle.board_offers.specs.Offers.{FailsFirst, IsWellFormed}
use Rattle.least_offer.specs.Least.{MayBeMade}

-- what may be made is committed, or the board is full
abbrev pub IsTaken : Answer → Type 0
IsTaken (Committed number) = Unit {0}
IsTaken Full = Unit {0}
IsTaken _ = ⊥

no_clause : (b : BoardOf) (o : Offer) (clause : ℕ) → IsWellFormed (known b) o → FailsFirst (known b) o clause → ⊥
no_clause b o clause w (inl e) = e.1 w.timely
no_clause b o clause w (inr (_, inl e)) = e.1 w.ends
no_clause b o clause w (inr (_, inr (_, inl e))) = e.1 w.metals
no_clause b o clause w (inr (_, inr (_, inr (_, inl e)))) = e.1 w.across
no_clause b o clause w (inr (_, inr (_, inr (_, inr (_, inl e))))) = e.1 w.inside
no_clause b o clause w (inr (_, inr (_, inr (_, inr (_, inr (_, inl e)))))) = e.1 w.once
no_clause b o clause w (inr (_, inr (_, inr (_, inr (_, inr (_, inr (_, inl e))))))) = e.1 w.rips
no_clause b o clause w (inr (_, inr (_, inr (_, inr (_, inr (_, inr (_, inr (_, inl e)))))))) = e.1 w.shoves
no_clause b o clause w (inr (_, inr (_, inr (_, inr (_, inr (_, inr (_, inr (_, inr (_, inl e))))))))) = e.1 w.agree
no_clause b o clause w (inr (_, inr (_, inr (_, inr (_, inr (_, inr (_, inr (_, inr (_, inr never))))))))) = never.1

pub may_be_taken : (b : BoardOf) (o : Offer) (a : Answer) (c : BoardOf) → MayBeMade b o → Step b o a c → IsTaken a
may_be_taken b o (Committed number) c may step = tt
may_be_taken b o Full c may step = tt
may_be_taken b o (Malformed clause) c may step = absurd (no_clause b o clause may.formed step.1)
may_be_taken b o (Stale item commit) c may step = absurd (step.0.least.0 (may.clear item))
may_be_taken b o (Wrong item commit) c may step = absurd (step.0.least.0 (may.clear item))
