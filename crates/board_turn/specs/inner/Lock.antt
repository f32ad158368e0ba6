-- The rule of the ticket lock, in which one board goes from seat to seat: what private functions keep.
use Rattle.std.specs.Prelude.{◌≡◌, ◌≢◌, ◌⊎◌, ℕ, zero, suc, ◌+◌, ◌^◌, ◌<◌, ◌≤◌, eqb, List, [], ◌∷◌, ◌++◌}
use Rattle.std.specs.Prelude.{length, take, drop, Some, None}
use mathlib.Core.Option as maybe
use lib.ListN.{get_elem?}
use Rattle.atomic_table.specs.Table.{State, Me, Step, rest}
use Rattle.board_turn.specs.Claims.{total, one_if, once_below}
use Rattle.pcb_board.specs.Boards.{BoardOf}
use Rattle.board_turn.specs.declared.event.Action.{Action}
use Rattle.board_turn.specs.declared.event.Event.{Event}
use Rattle.board_turn.specs.declared.lock.Opening.{Opening}
use Rattle.board_turn.specs.declared.lock.PassView.{PassView}
use Rattle.board_turn.specs.declared.lock.Role.{Role}
use Rattle.board_turn.specs.declared.lock.Role.TheVariants.{Free, Waits, Holds}
use Rattle.board_turn.specs.declared.lock.View.{View}
use Rattle.board_turn.specs.Events.{event, Reaches, own, IsPrefix, AllNamed}
use Rattle.board_turn.specs.Lock.{Slot, pass_view, view_of}

-- ---- what holds after each step
-- how many of these passes have the name n
abbrev pub named : ℕ → List PassView → ℕ
named n [] = 0
named n (p ∷ ps) = one_if (eqb p.name n) + named n ps

-- 1 for a seat with the ticket t, and else 0
abbrev pub has_ticket : ℕ → Role → ℕ
has_ticket t Free = 0
has_ticket t (Waits u) = one_if (eqb u t)
has_ticket t (Holds u) = one_if (eqb u t)

-- what each pass has seen is a beginning of the events, and has all events of its name
abbrev pub HaveSeen : List Event → List PassView → Type 0
HaveSeen events [] = Unit {0}
HaveSeen events (p ∷ ps) = (IsPrefix p.seen events × (own p.name p.seen ≡ own p.name events)) × HaveSeen events ps

-- a seat with a ticket stands for one pass, and the one that holds the board is served and has seen all events
abbrev pub FitsRole : List Event → ℕ → List PassView → Role → Type 0
FitsRole events serving ps Free = Unit {0}
FitsRole events serving ps (Waits t) = length ps ≡ 1
FitsRole events serving ps (Holds t) = (t ≡ serving) × (p : PassView) × (ps ≡ p ∷ []) × (p.seen ≡ events)

-- what a seat's view tells is so
pub record IsTrueView (k : Opening) (events : List Event) (serving : ℕ) (v : View) : Type 0 where
  pub seen : HaveSeen events v.passes
  pub opened : 0 < length v.passes → v.opening ≡ Some k
  pub role : FitsRole events serving v.passes v.role

-- some seat has the board
abbrev pub HasHolder : List View → Type 0
HasHolder views = (by : ℕ) × (v : View) × (t : ℕ) × (get_elem? views by ≡ maybe.some v) × (v.role ≡ Holds t)

-- The words are the next ticket and the one that is served. Each ticket from the one served on is in one view, and so
-- is each name of a pass. There is one list of events, as long as the served number says, which the board answered
-- so; the board that it leaves is at home, or out with a seat.
pub record Kept (k : Opening) (s : State Slot View) : Type 0 where
  pub ticket : ℕ
  pub serving : ℕ
  pub words : s.words ≡ ticket ∷ serving ∷ []
  pub order : serving ≤ ticket
  pub small : ticket < 2 ^ 64
  pub events : List Event
  pub number : length events ≡ serving
  pub called : AllNamed k.count events
  pub board : BoardOf
  pub legal : Reaches k.board.value events board
  pub home : maybe.Option Slot
  pub homes : s.homes ≡ home ∷ []
  pub place : (home ≡ maybe.some (Some board)) ⊎ HasHolder s.views
  pub tickets : (t : ℕ) → total (λ v. has_ticket t v.role) s.views + once_below t serving ≡ once_below t ticket
  pub names : (n : ℕ) → total (λ v. named n v.passes) s.views ≡ once_below n k.count
  pub views : (by : ℕ) (v : View) → get_elem? s.views by ≡ maybe.some v → IsTrueView k events serving v

-- n passes that saw nothing, with the names from i on
abbrev pub new_passes : ℕ → ℕ → List PassView
new_passes i zero = []
new_passes i (suc n) = pass_view i [] ∷ new_passes (i + 1) n

abbrev pub no_passes : View
no_passes = record { passes = []; opening = None; role = Free }

abbrev pub with_role : View → Role → View
with_role v r = record v { role = r }

-- the pass with one event more
abbrev pub with_event : PassView → Action → PassView
with_event p d = pass_view p.name (p.seen ++ event p.name d ∷ [])

abbrev pub without_first : View → View
without_first v = record v { passes = drop 1 v.passes }

abbrev pub first_alone : View → View
first_alone v = record { passes = take 1 v.passes; opening = v.opening; role = Free }

abbrev pub both_views : View → View → View
both_views v w = record v { passes = w.passes ++ v.passes }

-- ---- steps
-- a load that learns nothing
abbrev pub Reads : Step Slot → Me Slot View → ℕ → Me Slot View → Type 0
Reads s me found now = now ≡ me

-- a compare-exchange that found what it expected drew that ticket
abbrev pub Draws : Step Slot → Me Slot View → ℕ → Me Slot View → Type 0
Draws s me found now = (found ≡ s.first → now ≡ (with_role me.0 (Waits found), me.1)) × (found ≢ s.first → now ≡ me)

-- where a seat is served, it sees all events, and gets the board that they leave
pub record Served (k : Opening) (p : PassView) (t : ℕ) (now : Me Slot View) : Type 0 where
  pub seen : List Event
  pub board : BoardOf
  pub before : IsPrefix p.seen seen
  pub mine : own p.name seen ≡ own p.name p.seen
  pub called : AllNamed k.count seen
  pub legal : Reaches k.board.value seen board
  pub now_is : now ≡ (view_of k (pass_view p.name seen ∷ []) (Holds t), (0, Some board) ∷ [])

-- a load of the served number by a seat that waits: at another number than its ticket's nothing changes
abbrev pub Looks : Step Slot → Me Slot View → ℕ → Me Slot View → Type 0
Looks s me found now = (k : Opening) (p : PassView) (t : ℕ) → me ≡ (view_of k (p ∷ []) (Waits t), [])
    → (found ≢ t → now ≡ me) × (found ≡ t → Served k p t now)

-- an addition to the served number by the seat that holds the board: the action is noted, and the slot given up
abbrev pub Advances : Action → Step Slot → Me Slot View → ℕ → Me Slot View → Type 0
Advances d s me found now = (k : Opening) (p : PassView) (t : ℕ) → me.0 ≡ view_of k (p ∷ []) (Holds t)
    → now ≡ (view_of k (with_event p d ∷ []) Free, rest me.1)
