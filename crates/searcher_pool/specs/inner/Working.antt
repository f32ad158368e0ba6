-- What one worker keeps while it works.
use Rattle.std.specs.Prelude.{◌≡◌, ℕ, ◌+◌, ◌-◌, ◌<◌, ◌≤◌, List, [], ◌∷◌, ◌++◌, length, sum_by}
use Rattle.std.specs.Prelude.{All, AllPairs, Any, false, cond, Option, Some, IfSome, slice_get}
use Rattle.route_lattice.specs.Mesh.{node_count}
use Rattle.pcb_board.specs.declared.answer.Answer.{Answer}
use Rattle.pcb_board.specs.declared.answer.Answer.TheVariants.{Committed, Stale}
use Rattle.pcb_board.specs.Boards.{BoardOf, is_worker, worker_entries}
use Rattle.pcb_board.specs.Keeping.{IsBoard}
use Rattle.board_offers.specs.declared.offer.Offer.{Offer}
use Rattle.pcb_board.specs.Boards.{SnapOf}
use Rattle.pcb_board.specs.Answers.{snap_of}
use Rattle.route_plan.specs.declared.mapped.MappedSnap.{MappedSnap}
use Rattle.route_plan.specs.Mapped.{IsMappedOn}
use Rattle.route_plan.specs.declared.plans.Planned.{Planned}
use Rattle.route_plan.specs.Plans.{IsOfferOf, Plans}
use Rattle.board_turn.specs.Claims.{CounterOf}
use Rattle.board_turn.specs.declared.event.Action.{Action}
use Rattle.board_turn.specs.declared.event.Action.TheVariants.{Offered}
use Rattle.board_turn.specs.declared.event.Event.{Event}
use Rattle.board_turn.specs.Events.{Reaches, own, IsPrefix}
use Rattle.board_turn.specs.Turns.{TurnOf, opening, count_of}
use Rattle.board_turn.specs.Turns as turn
use Rattle.searcher_pool.specs.declared.log.OfferNote.{OfferNote}
use Rattle.searcher_pool.specs.declared.worker.Worker.{Worker}
use Rattle.searcher_pool.specs.declared.worker.Attempt.{Attempt}
use Rattle.searcher_pool.specs.declared.worker.Attempt.TheVariants.{Ended, Joined, Late}
use Rattle.searcher_pool.specs.Passes.{PassOf, IsTold, IsSpent, EndsTask}
use Rattle.searcher_pool.specs.Passes.{named, noted, IsStale, IsStaleOf, IsFullAnswer}
use Rattle.board_offers.specs.declared.offer.TheConstants.{CLOSER}
use Rattle.searcher_pool.specs.Passes.{IsTask}

-- the turn over the board of the pass, with a pass of the turn for each worker
pub record IsTurnOf (p : PassOf) (t : TurnOf) : Type 0 where
  pub board : IsBoard (opening t)
  pub task : IsTask p (opening t).design
  pub count : count_of t ≡ p.workers
  pub some : 1 ≤ p.workers
  pub few : p.workers ≤ CLOSER

-- ---- what a worker knows
-- A pass of the turn and the notes of its worker: they are the offers that the pass made, with their answers. On the
-- board that the events leave which it has seen, each is told so; an offer rests on a board that has the commits that
-- earlier answers named; where an answer was that the board is full, it is; and one worker alone is never too late.
pub record Knows (p : PassOf) (t : TurnOf) (q : turn.PassOf) (drawn : List ℕ) (notes : List OfferNote) : Type 0 where
  pub turn_is : q.turn ≡ t
  pub below : q.name < p.workers
  pub notes_are : notes ≡ noted (own q.name q.seen)
  pub board : BoardOf
  pub reached : Reaches (opening t) q.seen board
  pub told : All (IsTold p (opening t) board q.name drawn) notes
  pub fresh : AllPairs (λ (a b : OfferNote). named a.answer ≤ b.offer.base) notes
  pub seen : All (λ (n : OfferNote). named n.answer ≤ length board.history) notes
  pub spent : All (λ (n : OfferNote). IsFullAnswer n.answer → IsSpent board) notes
  pub prompt : p.workers ≡ 1 → All (λ (n : OfferNote). ¬ (IsStale n.answer)) notes

-- what was mapped last, if anything, is of a board that has grown into the one that the events leave
pub record HasMapped (p : PassOf) (t : TurnOf) (events : List Event) (o : Option MappedSnap) : Type 0 where
  pub on : (b : BoardOf) → Reaches (opening t) events b → IfSome o (IsMappedOn p.lattice b)

-- the worker knows what its pass has seen, has memory for its searches, and has mapped what it saw
pub record IsReady (p : PassOf) (t : TurnOf) (w : Worker) : Type 0 where
  pub number_is : w.number ≡ w.pass.name
  pub size : w.search ≡ node_count p.lattice
  pub knows : Knows p t w.pass w.drawn.items w.notes.items
  pub mapped : HasMapped p t w.pass.seen w.mapped

-- the net is one of a place that was drawn
abbrev pub IsDrawn : PassOf → List ℕ → ℕ → Type 0
IsDrawn p drawn net = Any (λ place. slice_get p.tasks place ≡ Some net) drawn

-- the worker is ready, and the net is one of its tasks
pub record IsAtTask (p : PassOf) (t : TurnOf) (w : Worker) (net : ℕ) : Type 0 where
  pub ready : IsReady p t w
  pub drawn : IsDrawn p w.drawn.items net

-- the snapshot is of the board that the events leave
pub record IsSnapNow (t : TurnOf) (events : List Event) (s : SnapOf) : Type 0 where
  pub board : BoardOf
  pub reached : Reaches (opening t) events board
  pub is : s ≡ snap_of board

-- so the plan of a net is on the board that the events leave which the worker's pass has seen
abbrev pub PlansSeen : PassOf → TurnOf → Worker → ℕ → Planned → Type 0
PlansSeen p t w net plan = (b : BoardOf) → Reaches (opening t) w.pass.seen b
    → Plans p.lattice p.via_cost b w.number net p.penalty plan

-- a least offer of the worker for the net, on a board whose events its pass has seen
pub record IsPlanned (p : PassOf) (t : TurnOf) (w : Worker) (net : ℕ) (o : Offer) : Type 0 where
  pub board : BoardOf
  pub reached : Reaches (opening t) w.pass.seen board
  pub plan : IsOfferOf p.lattice p.via_cost board w.number net p.penalty o

-- ---- steps
-- the worker went on: its pass has seen more, and it has noted more
pub record IsAfter (v w : Worker) : Type 0 where
  pub name : w.pass.name ≡ v.pass.name
  pub seen : IsPrefix v.pass.seen w.pass.seen
  pub notes : IsPrefix v.notes.items w.notes.items
  pub drawn : w.drawn ≡ v.drawn
  pub seat : w.seat ≡ v.seat
  pub failed : w.failed ≡ v.failed

-- it went on, and noted nothing
pub record IsQuietAfter (v w : Worker) : Type 0 where
  pub after : IsAfter v w
  pub same : w.notes.items ≡ v.notes.items

-- the task ended by a board whose events the pass has seen
abbrev pub EndsSeen : PassOf → TurnOf → turn.PassOf → List OfferNote → ℕ → Type 0
EndsSeen p t q notes net = (b : BoardOf) → Reaches (opening t) q.seen b → EndsTask p (opening t) b notes net

-- 1 for a commit of a worker
abbrev pub commit_of : Action → ℕ
commit_of (Offered o (Committed number)) = cond (is_worker o.worker) 1 0
commit_of _ = 0

-- how many entries of workers may still come after these events
abbrev pub entries_left : TurnOf → List Event → ℕ
entries_left t events =
    (opening t).cap - (worker_entries (opening t).history + sum_by (λ (e : Event). commit_of e.action) events)

abbrev pub attempt_of : Answer → Attempt
attempt_of (Committed number) = Joined
attempt_of (Stale item commit) = Late
attempt_of _ = Ended

-- the task ended; or fewer entries may come; or the last offer for the net came too late
abbrev pub Attempts : PassOf → TurnOf → Worker → Worker → ℕ → Attempt → Type 0
Attempts p t v w net Ended = EndsSeen p t w.pass w.notes.items net
Attempts p t v w net Joined = entries_left t w.pass.seen < entries_left t v.pass.seen
Attempts p t v w net Late =
    (n : OfferNote) × (w.notes.items ≡ v.notes.items ++ n ∷ []) × IsStaleOf net n

-- all tasks that were drawn ended
abbrev pub EndsDrawn : PassOf → TurnOf → turn.PassOf → List ℕ → List OfferNote → Type 0
EndsDrawn p t q drawn notes = All (λ place. IfSome (slice_get p.tasks place) (EndsSeen p t q notes)) drawn

-- ---- the whole work of a worker
-- its seat is one at the counter, and drew what it drew, each place above those before
pub record IsSeated (c : CounterOf) (w : Worker) : Type 0 where
  pub table : w.seat.table ≡ c.table
  pub shares : w.seat.hand.shares ≡ 1
  pub drawn : w.seat.hand.drawn ≡ w.drawn.items
  pub ascends : AllPairs (λ (x y : ℕ). x < y) w.drawn.items

-- it may work, and left no task behind
pub record MayWork (p : PassOf) (t : TurnOf) (c : CounterOf) (w : Worker) : Type 0 where
  pub ready : IsReady p t w
  pub seated : IsSeated c w
  pub ended : EndsDrawn p t w.pass w.drawn.items w.notes.items

-- it worked, and unless memory was wanting no task is left
pub record Worked (p : PassOf) (t : TurnOf) (c : CounterOf) (name : ℕ) (w : Worker) : Type 0 where
  pub ready : IsReady p t w
  pub seated : IsSeated c w
  pub name_is : w.pass.name ≡ name
  pub done : w.failed ≡ false
      → (c.tasks ≤ w.seat.hand.floor) × EndsDrawn p t w.pass w.drawn.items w.notes.items
