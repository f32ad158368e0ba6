-- What contracts see of a turn and its passes.
use Rattle.std.specs.Prelude.{◌≡◌, ℕ, zero, suc, ◌+◌, List, [], ◌∷◌, ◌++◌}
use mathlib.Core.Option as maybe
use lib.ListN.{get_elem?}
use Rattle.atomic_table.specs.Seated.{TableId}
use Rattle.pcb_board.specs.Boards.{BoardOf}
use Rattle.board_turn.specs.declared.event.Action.{Action}
use Rattle.board_turn.specs.declared.event.Event.{Event}
use Rattle.board_turn.specs.declared.lock.Opening.{Opening}
use Rattle.board_turn.specs.Events.{event, Reaches, Extends, own, IsPrefix, AllNamed}

-- which turn it is, and with what it began
pub record TurnOf : Type 0 where
  pub table : TableId
  pub key : Opening

abbrev pub opening : TurnOf → BoardOf
opening t = t.key.board.value

-- how many passes the turn has; their names are the numbers below it
abbrev pub count_of : TurnOf → ℕ
count_of t = t.key.count

abbrev pub turn_of : TableId → Opening → TurnOf
turn_of z k = record { table = z; key = k }

-- a pass: its turn, its name, and all events up to its last call
pub record PassOf : Type 0 where
  pub turn : TurnOf
  pub name : ℕ
  pub seen : List Event

-- n passes that saw nothing, with the names from i on
abbrev pub passes_of : TurnOf → ℕ → ℕ → List PassOf
passes_of t i zero = []
passes_of t i (suc n) = record { turn = t; name = i; seen = [] } ∷ passes_of t (i + 1) n

-- A call of the pass p, which leaves it q: the events before it begin with all that the pass had seen, have no other
-- event of its name, and are of passes of the turn; b is the board that they leave, and the call's event comes next.
pub record Calls (p q : PassOf) (d : Action) (b : BoardOf) : Type 0 where
  pub events : List Event
  pub before : IsPrefix p.seen events
  pub mine : own p.name events ≡ own p.name p.seen
  pub called : AllNamed (count_of p.turn) events
  pub legal : Reaches (opening p.turn) events b
  pub now_is : q ≡ record { turn = p.turn; name = p.name; seen = events ++ event p.name d ∷ [] }

-- What all passes of a turn tell together: the events are what one of them has seen, and lead to the board b. They
-- begin with what each pass has seen and have no other event of its name, and each has the name of a pass.
pub record Ended (t : TurnOf) (ps : List PassOf) (b : BoardOf) : Type 0 where
  pub events : List Event
  pub longest : (k : ℕ) × (p : PassOf) × (get_elem? ps k ≡ maybe.some p) × (p.seen ≡ events)
  pub legal : Reaches (opening t) events b
  pub each : (k : ℕ) (p : PassOf) → get_elem? ps k ≡ maybe.some p
      → IsPrefix p.seen events × (own p.name events ≡ own p.name p.seen)
  pub called : (k : ℕ) (e : Event) → get_elem? events k ≡ maybe.some e
      → (j : ℕ) × (p : PassOf) × (get_elem? ps j ≡ maybe.some p) × (p.name ≡ e.name)
  pub history : Extends (opening t) events b
