-- What the seat of a pass knows between two steps.
use Rattle.std.specs.Prelude.{◌≡◌, ℕ, List, [], ◌∷◌, Option, Some, None}
use Rattle.atomic_table.specs.Table.{Me}
use Rattle.atomic_table.specs.Seated.{TableId}
use Rattle.pcb_board.specs.Boards.{BoardOf, no_board}
use Rattle.board_turn.specs.declared.event.Action.{Action}
use Rattle.board_turn.specs.declared.event.Action.TheVariants.{Snapped, Offered, NoMemory}
use Rattle.board_turn.specs.declared.lock.Outcome.{Outcome}
use Rattle.board_turn.specs.declared.lock.Outcome.TheVariants as outcome
use Rattle.board_turn.specs.declared.lock.Opening.{Opening}
use Rattle.board_turn.specs.declared.lock.PassView.{PassView}
use Rattle.board_turn.specs.declared.lock.Role.{Role}
use Rattle.board_turn.specs.declared.lock.Role.TheVariants.{Holds}
use Rattle.board_turn.specs.declared.lock.View.{View}
use Rattle.board_turn.specs.Events.{Reaches, own, IsPrefix, AllNamed}
use Rattle.board_turn.specs.Lock.{Slot, pass_view, view_of}
use Rattle.board_turn.specs.Turns.{PassOf}

abbrev pub first_pass : List PassView → PassView
first_pass [] = pass_view 0 []
first_pass (p ∷ ps) = p

-- the pass that a seat stands for
abbrev pub pass_at : Me Slot View → PassView
pass_at me = first_pass me.0.passes

-- a seat of one pass, without a slot
abbrev pub HasRole : Opening → Role → Me Slot View → Type 0
HasRole k r me = me ≡ (view_of k (pass_at me ∷ []) r, [])

-- a seat of one pass that holds the board's slot, from which the board was taken
abbrev pub HasBoardOut : Opening → ℕ → Me Slot View → Type 0
HasBoardOut k t me = me ≡ (view_of k (pass_at me ∷ []) (Holds t), (0, None) ∷ [])

-- the pass p took the board b, which the events leave that it has seen as q
pub record HasTaken (k : Opening) (p q : PassView) (b : BoardOf) : Type 0 where
  pub same : q.name ≡ p.name
  pub before : IsPrefix p.seen q.seen
  pub mine : own p.name q.seen ≡ own p.name p.seen
  pub called : AllNamed k.count q.seen
  pub legal : Reaches k.board.value q.seen b

abbrev pub action_of : Outcome → Action
action_of outcome.Snapped = Snapped
action_of (outcome.Offered o a) = Offered o.value a
action_of outcome.NoMemory = NoMemory

-- what a seat of no pass would begin with
abbrev pub no_opening : Opening
no_opening = record { board = record { marker = record {}; value = no_board }; count = 0 }

abbrev pub key_of : Option Opening → Opening
key_of (Some k) = k
key_of None = no_opening

abbrev pub pass_of : TableId → Opening → PassView → PassOf
pass_of z k p = record { turn = record { table = z; key = k }; name = p.name; seen = p.seen }
