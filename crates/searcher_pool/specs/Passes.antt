-- A pass: workers claim tasks, and plan and offer for each until it ends.
use Rattle.std.specs.Prelude.{◌≡◌, ℕ, ◌+◌, ◌≤◌, ◌<◌, ◌==◌, if◌then◌else◌, drop, flat_map, List, [], ◌∷◌, ◌++◌, ◌^◌}
use Rattle.std.specs.Prelude.{length, slice_get, slice_index_or, All, AllPairs, Any, Contains, Option, Some}
use Rattle.std.specs.Prelude.{IfSome, ◌⊎◌}
use Rattle.route_lattice.specs.Mesh.{Mesh}
use Rattle.board_offers.specs.declared.offer.Offer.{Offer}
use Rattle.pcb_board.specs.declared.answer.Entry.{Entry}
use Rattle.pcb_board.specs.declared.answer.Entry.TheVariants.{Join, Back}
use Rattle.pcb_board.specs.declared.answer.Answer.{Answer}
use Rattle.pcb_board.specs.declared.answer.Answer.TheVariants.{Committed, Stale, Wrong, Full}
use Rattle.pcb_board.specs.Boards.{BoardOf, board_at, worker_entries}
use Rattle.pcb_board.specs.Answers.{Step}
use Rattle.least_offer.specs.Least.{IsLeastOffer}
use Rattle.least_offer.specs.Late.{IsFair}
use Rattle.route_plan.specs.Plans.{IsWhole, IsShutIn}
use Rattle.board_turn.specs.Claims.{times, once_below}
use Rattle.board_turn.specs.declared.event.Action.{Action}
use Rattle.board_turn.specs.declared.event.Action.TheVariants.{Snapped, Offered, NoMemory}
use Rattle.board_turn.specs.declared.event.Event.{Event}
use Rattle.board_turn.specs.Events.{Reaches, own}
use Rattle.searcher_pool.specs.declared.log.OfferNote.{OfferNote}
use Rattle.searcher_pool.specs.declared.log.WorkerLog.{WorkerLog}
use Rattle.pcb_model.specs.declared.design.Design.{Design}
use Rattle.pcb_model.specs.Plain.{IsPlainCopper}
use Rattle.route_lattice.specs.Fits.{FitsDesign}

-- as many entries of workers stand as may
abbrev pub IsSpent : BoardOf → Type 0
IsSpent b = b.cap ≤ worker_entries b.history

-- no walk leads from the net's first island to another
pub record IsShutOn (m : Mesh) (via_cost : ℕ) (b : BoardOf) (net : ℕ) (penalty : Option ℕ) : Type 0 where
  pub nodes : List ℕ
  pub shut : IsShutIn b.design m b.items net via_cost penalty nodes

-- what a pass is given: the lattice, the price of a via, how many workers there are, the nets of its tasks, and the
-- penalty
pub record PassOf : Type 0 where
  pub lattice : Mesh
  pub via_cost : ℕ
  pub workers : ℕ
  pub tasks : List ℕ
  pub penalty : Option ℕ

-- ---- the board grows by joins of workers
-- the entry is a join of a worker of the pass, with its penalty
abbrev pub IsJoinOf : PassOf → Entry → Type 0
IsJoinOf p (Join offer first after) = (offer.worker < p.workers) × (offer.penalty ≡ p.penalty)
IsJoinOf p (Back to) = ⊥

-- the new board is the old one with such joins behind its history
pub record Grows (p : PassOf) (old new : BoardOf) : Type 0 where
  pub design : new.design ≡ old.design
  pub start : new.start ≡ old.start
  pub cap : new.cap ≡ old.cap
  pub entries : List Entry
  pub history : new.history ≡ old.history ++ entries
  pub joins : All (IsJoinOf p) entries

-- P holds of the board after some number of its entries, from one number to another
pub record Between (P : BoardOf → Type 0) (b : BoardOf) (from to : ℕ) : Type 0 where
  pub at : ℕ
  pub late : from ≤ at
  pub early : at ≤ to
  pub holds : P (board_at b at)

-- P holds of some board of the pass
abbrev pub OnSome : (BoardOf → Type 0) → BoardOf → BoardOf → Type 0
OnSome P old new = Between P new (length old.history) (length new.history)

-- ---- what a log tells
-- the offers that were committed, each with the number of its entry
abbrev pub committed : Offer → Answer → List (Offer × ℕ)
committed o (Committed number) = (o, number) ∷ []
committed o _ = []

abbrev pub commits_in : List OfferNote → List (Offer × ℕ)
commits_in notes = flat_map (λ (n : OfferNote). committed n.offer n.answer) notes

-- the joins of a worker among entries, the first of which has this number
abbrev pub join_by : ℕ → ℕ → Entry → List (Offer × ℕ)
join_by worker number (Join offer first after) = if offer.worker == worker then (offer, number) ∷ [] else []
join_by worker number (Back to) = []

abbrev pub joins_by : ℕ → ℕ → List Entry → List (Offer × ℕ)
joins_by worker number [] = []
joins_by worker number (e ∷ entries) = join_by worker number e ++ joins_by worker (number + 1) entries

-- the number of the commit that an answer names; 0 where it names none
abbrev pub named : Answer → ℕ
named (Committed number) = number
named (Stale item commit) = commit
named (Wrong item commit) = commit
named _ = 0

abbrev pub IsStale : Answer → Type 0
IsStale (Stale item commit) = Unit {0}
IsStale _ = ⊥

abbrev pub IsFullAnswer : Answer → Type 0
IsFullAnswer Full = Unit {0}
IsFullAnswer _ = ⊥

-- A note of a worker that drew these places: its offer is the worker's, for a net of its tasks, least on the board
-- after its base, which is a board of the pass; and the answer is the board's at that moment or a later one.
pub record IsTold (p : PassOf) (old new : BoardOf) (worker : ℕ) (drawn : List ℕ) (note : OfferNote) : Type 0 where
  pub worker_is : note.offer.worker ≡ worker
  pub penalty_is : note.offer.penalty ≡ p.penalty
  pub of_task : Any (λ place. slice_get p.tasks place ≡ Some note.offer.net) drawn
  pub begun : length old.history ≤ note.offer.base
  pub least : IsLeastOffer p.lattice p.via_cost (board_at new note.offer.base) note.offer
  pub at : ℕ
  pub late : note.offer.base ≤ at
  pub early : at ≤ length new.history
  pub next : BoardOf
  pub answered : Step (board_at new at) note.offer note.answer next
  pub fair : IsFair note.answer

-- the offers among events, with their answers
abbrev pub note_of : Action → List OfferNote
note_of Snapped = []
note_of (Offered o a) = record { offer = o; answer = a } ∷ []
note_of NoMemory = []

abbrev pub noted : List Event → List OfferNote
noted events = flat_map (λ (e : Event). note_of e.action) events

-- ---- how a task ends
-- xs stand among ys, in order
abbrev pub AreAmong : {X : Type 0} → List X → List X → Type 0
AreAmong [] ys = Unit {0}
AreAmong (x ∷ xs) [] = ⊥
AreAmong (x ∷ xs) (y ∷ ys) = ((x ≡ y) × AreAmong xs ys) ⊎ AreAmong (x ∷ xs) ys

abbrev pub IsStaleOf : ℕ → OfferNote → Type 0
IsStaleOf net note = (note.offer.net ≡ net) × IsStale note.answer

-- eight offers for the net came too late
pub record HasStales (notes : List OfferNote) (net : ℕ) : Type 0 where
  pub tries : List OfferNote
  pub eight : length tries ≡ 8
  pub among : AreAmong tries notes
  pub stale : All (IsStaleOf net) tries

-- the board took no more offers
pub record HasFull (notes : List OfferNote) (net : ℕ) : Type 0 where
  pub note : OfferNote
  pub there : Contains notes note
  pub net_is : note.offer.net ≡ net
  pub full : IsFullAnswer note.answer

-- on a board of the pass the net had one island, or nothing led on from its first one; or eight offers came too late;
-- or the board was full
abbrev pub EndsTask : PassOf → BoardOf → BoardOf → List OfferNote → ℕ → Type 0
EndsTask p old new notes net = OnSome (λ b. IsWhole b.design b.items net) old new
    ⊎ (OnSome (λ b. IsShutOn p.lattice p.via_cost b net p.penalty) old new ⊎ (HasStales notes net ⊎ HasFull notes net))

abbrev pub EndsPlace : PassOf → BoardOf → BoardOf → List OfferNote → ℕ → Type 0
EndsPlace p old new notes place = IfSome (slice_get p.tasks place) (EndsTask p old new notes)

-- ---- logs
-- The log of a worker: the places of its tasks ascend, its commits are the worker's entries of the pass, each of its
-- notes is told so, an offer is made on a board that has the commits that earlier answers named, and each of its tasks
-- ended.
pub record IsLog (p : PassOf) (old new : BoardOf) (log : WorkerLog) : Type 0 where
  pub worker_below : log.worker < p.workers
  pub ascends : AllPairs (λ (x y : ℕ). x < y) log.tasks
  pub commits : commits_in log.notes
      ≡ joins_by log.worker (length old.history + 1) (drop (length old.history) new.history)
  pub told : All (IsTold p old new log.worker log.tasks) log.notes
  pub fresh : AllPairs (λ (a b : OfferNote). named a.answer ≤ b.offer.base) log.notes
  pub ended : All (EndsPlace p old new log.notes) log.tasks

-- how often the place stands in the logs
abbrev pub claimed : ℕ → List WorkerLog → ℕ
claimed place [] = 0
claimed place (log ∷ logs) = times place log.tasks + claimed place logs

-- What a pass leaves: the board grew by joins of its workers; each worker has its log, in order; the notes of a log are
-- all offers that its worker made, among those that the board answered one after another; each place of the task list
-- stands in exactly one log, once; each log is one; where an answer was that the board is full, it is; and one worker
-- alone is never too late.
pub record IsPassed (p : PassOf) (old new : BoardOf) (logs : List WorkerLog) : Type 0 where
  pub grows : Grows p old new
  pub count : length logs ≡ p.workers
  pub numbered : (k : ℕ) (d : WorkerLog) → k < length logs → (slice_index_or logs k d).worker ≡ k
  pub events : List Event
  pub answered : Reaches old events new
  pub notes_are : All (λ (log : WorkerLog). log.notes ≡ noted (own log.worker events)) logs
  pub once : (place : ℕ) → claimed place logs ≡ once_below place (length p.tasks)
  pub logs_are : All (IsLog p old new) logs
  pub spent : All (λ (log : WorkerLog). All (λ (n : OfferNote). IsFullAnswer n.answer → IsSpent new) log.notes) logs
  pub prompt : p.workers ≡ 1 → All (λ (log : WorkerLog). All (λ (n : OfferNote). ¬ (IsStale n.answer)) log.notes) logs

-- some offer of these logs met a full board
abbrev pub MetFull : List WorkerLog → Type 0
MetFull logs = Any (λ (log : WorkerLog). Any (λ (note : OfferNote). IsFullAnswer note.answer) log.notes) logs

abbrev pub pass_from : Mesh → ℕ → ℕ → List ℕ → Option ℕ → PassOf
pass_from m via_cost workers tasks penalty = record {
  lattice = m;
  via_cost = via_cost;
  workers = workers;
  tasks = tasks;
  penalty = penalty;
}

-- what is given fits the design
pub record IsTask (p : PassOf) (d : Design) : Type 0 where
  pub plain : IsPlainCopper d
  pub fits : FitsDesign d p.lattice
  pub cost : p.via_cost ≤ 2 ^ 30
  pub small_penalty : IfSome p.penalty (λ q. q ≤ 2 ^ 30)
  pub nets : All (λ net. net < length d.nets) p.tasks
