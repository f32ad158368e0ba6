-- What passes did with one board, in order.
use Rattle.std.specs.Prelude.{◌≡◌, ℕ, ◌<◌, cond, eqb, List, [], ◌∷◌, ◌++◌, map, Option, Some, None}
use Rattle.board_offers.specs.declared.offer.Offer.{Offer}
use Rattle.pcb_board.specs.declared.answer.Answer.TheVariants.{Committed}
use Rattle.pcb_board.specs.declared.answer.Entry.{Entry}
use Rattle.pcb_board.specs.declared.answer.Entry.TheVariants.{Join, Back}
use Rattle.pcb_board.specs.Boards.{BoardOf}
use Rattle.pcb_board.specs.Answers.{Step}
use Rattle.board_turn.specs.declared.event.Action.{Action}
use Rattle.board_turn.specs.declared.event.Action.TheVariants.{Snapped, Offered, NoMemory}
use Rattle.board_turn.specs.declared.event.Event.{Event}

abbrev pub event : ℕ → Action → Event
event n d = record { name = n; action = d }

-- what one action makes of the board
abbrev pub Does : BoardOf → Action → BoardOf → Type 0
Does b Snapped c = c ≡ b
Does b (Offered o a) c = Step b o a c
Does b NoMemory c = c ≡ b

-- from the board b on, the events are what the board answers, and leave the board c
abbrev pub Reaches : BoardOf → List Event → BoardOf → Type 0
Reaches b [] c = c ≡ b
Reaches b (e ∷ es) c = (m : BoardOf) × Does b e.action m × Reaches m es c

-- the events of the pass of this name
abbrev pub own : ℕ → List Event → List Event
own n [] = []
own n (e ∷ es) = cond (eqb e.name n) (e ∷ []) [] ++ own n es

-- ys begins with xs
abbrev pub IsPrefix : {A : Type 0} → List A → List A → Type 0
IsPrefix {A} xs ys = (rest : List A) × (ys ≡ xs ++ rest)

-- each event has a name below n
abbrev pub AllNamed : ℕ → List Event → Type 0
AllNamed n [] = Unit {0}
AllNamed n (e ∷ es) = (e.name < n) × AllNamed n es

-- the offer of an action, where it was committed
abbrev pub committed_by : Action → List Offer
committed_by (Offered o (Committed number)) = o ∷ []
committed_by _ = []

-- the offers that were committed, in order
abbrev pub committed : List Event → List Offer
committed [] = []
committed (e ∷ es) = committed_by e.action ++ committed es

-- the offer of an entry that is a join
abbrev pub offer_in : Entry → Option Offer
offer_in (Join o first after) = Some o
offer_in (Back to) = None

-- the history of c is that of b and the joins of the offers that were committed
abbrev pub Extends : BoardOf → List Event → BoardOf → Type 0
Extends b es c = (entries : List Entry)
    × (c.history ≡ b.history ++ entries) × (map offer_in entries ≡ map Some (committed es))
