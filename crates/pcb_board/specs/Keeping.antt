-- What every board keeps.
use Rattle.std.specs.Prelude.{◌≡◌, ℕ, ◌<◌, ◌≤◌, ◌^◌, List, [], ◌++◌, length, All, Some, slice_get}
use Rattle.pcb_model.specs.declared.item.Item.{Item}
use Rattle.pcb_model.specs.declared.design.Design.{Design}
use Rattle.pcb_model.specs.Board.{IsLegal}
use Rattle.pcb_model.specs.Sound.{IsSound}
use Rattle.pcb_model.specs.Copper.{Ascends}
use Rattle.board_offers.specs.declared.offer.Offer.{Offer}
use Rattle.board_offers.specs.Given.{AreGiven}
use Rattle.board_offers.specs.Offers.{IsWellFormed}
use Rattle.pcb_board.specs.declared.answer.Entry.{Entry}
use Rattle.pcb_board.specs.declared.answer.Entry.TheVariants.{Join}
use Rattle.pcb_board.specs.declared.answer.BackFault.{BackFault}
use Rattle.pcb_board.specs.declared.answer.BackFault.TheVariants.{Later, Memory}
use Rattle.pcb_board.specs.Boards.{BoardOf, Starts, given, replayed, board_at}
use Rattle.pcb_board.specs.Answers.{known}

-- The design is sound. The items are legal and in order of id, after each number of entries too; the history replays to
-- them, and each of its joins was a well-formed offer for the board before it; each item is the one that its id was
-- given.
pub record IsBoard (b : BoardOf) : Type 0 where
  pub sound : IsSound b.design
  pub dropped : List ℕ
  pub starts : Starts b.design dropped b.start
  pub cap_within : b.cap ≤ 2 ^ 19
  pub replays : replayed b (length b.history) ≡ b.items
  pub formed : (k : ℕ) (o : Offer) (first after : ℕ) → slice_get b.history k ≡ Some (Join o first after)
      → IsWellFormed (known (board_at b k)) o
  pub legal : (n : ℕ) → n ≤ length b.history → IsLegal b.design (replayed b n)
  pub ascends : (n : ℕ) → n ≤ length b.history → Ascends (replayed b n)
  pub given_are : AreGiven b.design (given b)
  pub from_given : (n : ℕ) → n ≤ length b.history
      → All (λ (a : Item). slice_get (given b) a.id ≡ Some a) (replayed b n)

abbrev pub started : Design → List Item → ℕ → BoardOf
started d start cap = record { design = d; start = start; cap = cap; history = []; items = start }

-- a new board, and the places of what was dropped
pub record IsStarted (d : Design) (cap : ℕ) (b : BoardOf) (dropped : List ℕ) : Type 0 where
  pub start : List Item
  pub starts : Starts d dropped start
  pub board_is : b ≡ started d start cap

-- why the board doesn't go back: there are fewer entries, or memory is wanting
abbrev pub AnswersBack : BoardOf → ℕ → BackFault → Type 0
AnswersBack b to (Later entries) = (entries ≡ length b.history) × (entries < to)
AnswersBack b to (Memory cause) = to ≤ length b.history

-- the later board has the same design, start list and cap, and its history begins with that of the earlier
pub record Grows (b c : BoardOf) : Type 0 where
  pub design_stays : c.design ≡ b.design
  pub start_stays : c.start ≡ b.start
  pub cap_stays : c.cap ≡ b.cap
  pub entries : List Entry
  pub history_is : c.history ≡ b.history ++ entries
