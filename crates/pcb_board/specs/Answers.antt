-- What the board answers to an offer, and what it is afterwards.
use Rattle.std.specs.Prelude.{◌≡◌, ℕ, ◌+◌, ◌<◌, ◌≤◌, List, [], ◌∷◌, ◌++◌, length, Some, None}
use Rattle.board_offers.specs.declared.offer.Offer.{Offer}
use Rattle.pcb_board.specs.declared.answer.Answer.{Answer}
use Rattle.pcb_board.specs.declared.answer.Answer.TheVariants.{Committed, Stale, Wrong, Malformed, Full}
use Rattle.pcb_board.specs.declared.answer.Entry.TheVariants.{Join, Back}
use Rattle.board_offers.specs.Items.{new_items, joined_items}
use Rattle.pcb_board.specs.Boards.{BoardOf, SnapOf, given, replayed, worker_entries, IsCommitOf}
use Rattle.board_offers.specs.Offers.{Known, IsMakeable, IsWellFormed, FailsFirst}
use Rattle.board_offers.specs.Troubles.{IsClear, FailsLeast}
use Rattle.board_offers.specs.declared.offer.TheConstants.{CLOSER}

-- a worker makes the offer, and as many entries of workers stand as may
pub record IsFull (b : BoardOf) (o : Offer) : Type 0 where
  pub worker : o.worker < CLOSER
  pub reached : b.cap ≤ worker_entries b.history

abbrev pub known : BoardOf → Known
known b = record { design = b.design; given = given b; entries = length b.history }

abbrev pub IsClearOn : BoardOf → Offer → ℕ → Type 0
IsClearOn b o x = IsClear b.design (given b) b.items o x

-- the board with the offer's entry
abbrev pub joined : BoardOf → Offer → BoardOf
joined b o = let first = length (given b) in record b {
  history = b.history ++ Join o first (first + length (new_items b.design (given b) o)) ∷ [];
  items = joined_items b.design (given b) b.items o;
}

-- the board with the items after its first `to` entries
abbrev pub taken_back : BoardOf → ℕ → BoardOf
taken_back b to = record b { history = b.history ++ Back to ∷ []; items = replayed b to }

-- the offer is neither too many nor malformed
pub record IsHeard (b : BoardOf) (o : Offer) : Type 0 where
  pub room : ¬ (IsFull b o)
  pub formed : IsWellFormed (known b) o

-- want of memory comes behind Full, and behind Malformed for clauses 1 to 3
pub record MayLackMemory (b : BoardOf) (o : Offer) : Type 0 where
  pub room : ¬ (IsFull b o)
  pub makeable : IsMakeable (known b) o

-- the least id with trouble, and the entry that removed or placed it
pub record MeetsTrouble (b : BoardOf) (o : Offer) (item commit : ℕ) : Type 0 where
  pub heard : IsHeard b o
  pub least : FailsLeast (IsClearOn b o) (Some item)
  pub commit_is : IsCommitOf b item commit

-- Stale or Wrong, by the entry that removed or placed the item
abbrev pub BlamesLast : BoardOf → ℕ → ℕ → Answer → Type 0
BlamesLast b base x (Stale item commit) = (item ≡ x) × IsCommitOf b x commit × (base < commit)
BlamesLast b base x (Wrong item commit) = (item ≡ x) × IsCommitOf b x commit × (commit ≤ base)
BlamesLast b base x _ = ⊥

-- the board b answers the offer o by an answer, and is c afterwards
abbrev pub Step : BoardOf → Offer → Answer → BoardOf → Type 0
Step b o Full c = IsFull b o × (c ≡ b)
Step b o (Malformed clause) c = ¬ (IsFull b o) × FailsFirst (known b) o clause × (c ≡ b)
Step b o (Stale item commit) c = MeetsTrouble b o item commit × (o.base < commit) × (c ≡ b)
Step b o (Wrong item commit) c = MeetsTrouble b o item commit × (commit ≤ o.base) × (c ≡ b)
Step b o (Committed number) c =
    IsHeard b o × FailsLeast (IsClearOn b o) None × (number ≡ length b.history + 1) × (c ≡ joined b o)

-- the offer is committed, or the board is full
abbrev pub IsTaken : BoardOf → Offer → Answer → Type 0
IsTaken b o (Committed number) = (number ≡ length b.history + 1) × ¬ (IsFull b o)
IsTaken b o Full = IsFull b o
IsTaken b o _ = ⊥

-- offers one after another, and their answers
abbrev pub Makes : BoardOf → List Offer → List Answer → BoardOf → Type 0
Makes b [] [] c = c ≡ b
Makes b [] (a ∷ answers) c = ⊥
Makes b (o ∷ offers) [] c = ⊥
Makes b (o ∷ offers) (a ∷ answers) c = (after : BoardOf) × Step b o a after × Makes after offers answers c

abbrev pub snap_of : BoardOf → SnapOf
snap_of b = record { design = b.design; items = b.items; number = length b.history }

-- the first of the offers were made, and others are left
pub record HasMade (b : BoardOf) (offers left : List Offer) (done : List Answer) (c : BoardOf) : Type 0 where
  pub made : List Offer
  pub split : offers ≡ made ++ left
  pub makes : Makes b made done c
