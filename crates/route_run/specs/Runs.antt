-- Runs: passes over the nets, the pass that is kept, and the closing pass.
use Rattle.std.specs.Prelude.{◌≡◌, ◌⊎◌, ℕ, ◌+◌, ◌-◌, ◌*◌, ◌<◌, ◌≤◌, ◌^◌, nat_le, Bool, true, false, if◌then◌else◌}
use Rattle.std.specs.Prelude.{List, [], ◌∷◌, length, take, sum_by, flat_map, remove, slice_get, Option, Some, None}
use Rattle.std.specs.List.{AllZip}
use Rattle.pcb_model.specs.declared.item.Item.{Item}
use Rattle.pcb_model.specs.declared.design.Design.{Design}
use Rattle.pcb_model.specs.Plain.{IsPlainCopper}
use Rattle.pcb_islands.specs.declared.net.Island.{Island}
use Rattle.pcb_islands.specs.Islands.{AreIslands}
use Rattle.route_lattice.specs.Mesh.{Mesh, node_count}
use Rattle.route_lattice.specs.Walks.{Hop, Leads}
use Rattle.path_wire.specs.Diagonals.{wide_graph}
use Rattle.board_offers.specs.declared.offer.Offer.{Offer}
use Rattle.pcb_board.specs.declared.answer.Entry.{Entry}
use Rattle.pcb_board.specs.declared.answer.Entry.TheVariants.{Join, Back}
use Rattle.pcb_board.specs.declared.answer.Answer.TheVariants.{Stale}
use Rattle.pcb_board.specs.Boards.{BoardOf, Starts, board_at}
use Rattle.pcb_board.specs.Answers.{Step}
use Rattle.pcb_board.specs.Keeping.{IsBoard}
use Rattle.least_offer.specs.Least.{IsLeastOffer, IsWideOffer}
use Rattle.route_plan.specs.Plans.{IsWhole}
use Rattle.cut_certificate.specs.declared.cut.Cut.{Cut}
use Rattle.cut_certificate.specs.Cuts.{IsStart, IsGoal}
use Rattle.closing_pass.specs.Closing.{Closes, AreEnds}
use Rattle.closing_pass.specs.OpenCount.{IsOpenCount, NeverMore}
use Rattle.closing_pass.specs.Settled.{AreSettled}
use Rattle.wide_pass.specs.Rounds.{ClosesWide, IsWideSize}
use Rattle.searcher_pool.specs.declared.log.WorkerLog.{WorkerLog}
use Rattle.searcher_pool.specs.Passes.{PassOf, Between, IsJoinOf, IsPassed, IsShutOn, IsSpent, MetFull}
use Rattle.route_run.specs.declared.facts.PassLine.{PassLine}
use Rattle.route_run.specs.declared.facts.Facts.{Facts}
use Rattle.route_lattice.specs.Fits.{FitsDesign}

-- what a run goes by: the price of a via in nm, how many workers there are, how many passes there may be, of how many
-- items that a cut names settled moves are tried, and whether the closing pass joins by moves at 45 degrees too
pub record RunOf : Type 0 where
  pub via_cost : ℕ
  pub workers : ℕ
  pub passes : ℕ
  pub tries : ℕ
  pub diagonal : Bool

abbrev pub run_from : ℕ → ℕ → ℕ → ℕ → Bool → RunOf
run_from via_cost workers passes tries diagonal = record {
  via_cost = via_cost;
  workers = workers;
  passes = passes;
  tries = tries;
  diagonal = diagonal;
}

-- ---- open connections
-- the net has several islands
pub record HasSeveral (d : Design) (items : List Item) (net : ℕ) : Type 0 where
  pub found : List Island
  pub islands : AreIslands d items net found
  pub several : 2 ≤ length found

-- ---- how a net is worked off, between two numbers of entries
-- A least offer of a worker of the pass for the net came too late for the entry with this number: it rests on a board
-- from `floor` on and before that entry, and a board up to the pass's end answers so.
pub record IsTooLate (m : Mesh) (via_cost workers : ℕ) (penalty : Option ℕ) (b : BoardOf)
    (to net floor entry : ℕ) : Type 0 where
  pub offer : Offer
  pub worker_is : offer.worker < workers
  pub net_is : offer.net ≡ net
  pub penalty_is : offer.penalty ≡ penalty
  pub least : IsLeastOffer m via_cost (board_at b offer.base) offer
  pub after_last : floor ≤ offer.base
  pub before_entry : offer.base < entry
  pub at : ℕ
  pub late : offer.base ≤ at
  pub early : at ≤ to
  pub item : ℕ
  pub next : BoardOf
  pub answered : Step (board_at b at) offer (Stale item entry) next

-- offers one after another, each too late for its entry
abbrev pub AreTooLate : Mesh → ℕ → ℕ → Option ℕ → BoardOf → ℕ → ℕ → ℕ → List ℕ → Type 0
AreTooLate m via_cost workers penalty b to net floor [] = Unit {0}
AreTooLate m via_cost workers penalty b to net floor (entry ∷ entries) =
    IsTooLate m via_cost workers penalty b to net floor entry
    × AreTooLate m via_cost workers penalty b to net entry entries

-- with several workers, eight of them
pub record WasTooLate (m : Mesh) (via_cost workers : ℕ) (penalty : Option ℕ) (b : BoardOf) (from to net : ℕ) : Type
    0 where
  pub several_workers : 1 < workers
  pub entries : List ℕ
  pub eight : length entries ≡ 8
  pub each : AreTooLate m via_cost workers penalty b to net from entries

-- on some board the net has at most one island; or no walk leads on from its first one; or at the end the board takes
-- no more entries of workers; or eight offers came too late
abbrev pub IsWorkedOff : PassOf → BoardOf → ℕ → ℕ → ℕ → Type 0
IsWorkedOff p b from to net =
    Between (λ x. IsWhole x.design x.items net) b from to
    ⊎ (Between (λ x. IsShutOn p.lattice p.via_cost x net p.penalty) b from to
    ⊎ (IsSpent (board_at b to)
    ⊎ WasTooLate p.lattice p.via_cost p.workers p.penalty b from to net))

-- ---- passes
-- the penalty of pass k in nm: none of the first, and else 5 mm times its number
abbrev pub penalty_of : ℕ → Option ℕ
penalty_of k = if nat_le k 1 then None else Some (5000000 * k)

-- what pass k goes by, but for its tasks, which are the nets that have several islands when it starts
abbrev pub pass_at : Mesh → ℕ → ℕ → ℕ → PassOf
pass_at m via_cost workers k =
    record { lattice = m; via_cost = via_cost; workers = workers; tasks = []; penalty = penalty_of k }

-- how many entries stand after the first k passes
abbrev pub entries_after : List PassLine → ℕ → ℕ
entries_after lines k = sum_by (λ (line : PassLine). line.commits) (take k lines)

-- A pass, from one number of entries on: its entries are joins of its workers with its penalty; each net that had
-- several islands was worked off; and its line tells how many entries it made, and what is open after them.
pub record IsPass (p : PassOf) (b : BoardOf) (from : ℕ) (line : PassLine) : Type 0 where
  pub there : from + line.commits ≤ length b.history
  pub joins : (n : ℕ) (e : Entry) → from ≤ n → n < from + line.commits → slice_get b.history n ≡ Some e
      → IsJoinOf p e
  pub worked : (net : ℕ) → net < length b.design.nets → HasSeveral b.design (board_at b from).items net
      → IsWorkedOff p b from (from + line.commits) net
  pub leaves : IsOpenCount b.design (board_at b (from + line.commits)).items line.parted

-- none of the offers of a pass between two numbers of entries met a full board, as its logs tell
pub record HadRoom (p : PassOf) (b : BoardOf) (from to : ℕ) : Type 0 where
  pub tasks : List ℕ
  pub logs : List WorkerLog
  pub passed : IsPassed (record p { tasks = tasks }) (board_at b from) (board_at b to) logs
  pub room : ¬ (MetFull logs)

-- Passes one after another, each with its line. A pass follows only where connections are open and no offer of the pass
-- before met a full board, and behind a later pass than the first only where that made an entry.
pub record ArePasses (m : Mesh) (r : RunOf) (b : BoardOf) (lines : List PassLine) : Type 0 where
  pub few : length lines ≤ r.passes
  pub each : (k : ℕ) (line : PassLine) → slice_get lines k ≡ Some line
      → IsPass (pass_at m r.via_cost r.workers (k + 1)) b (entries_after lines k) line
  pub goes_on : (k : ℕ) (line : PassLine) → slice_get lines k ≡ Some line → k + 1 < length lines → 0 < line.parted
  pub moves : (k : ℕ) (line : PassLine) → slice_get lines k ≡ Some line → 0 < k → k + 1 < length lines
      → 0 < line.commits
  pub room : (k : ℕ) (line : PassLine) → slice_get lines k ≡ Some line → k + 1 < length lines
      → HadRoom (pass_at m r.via_cost r.workers (k + 1)) b (entries_after lines k)
      (entries_after lines k + line.commits)

-- no pass follows the last: nothing is open; or it is above the first and made no entry; or it has the last number;
-- or the board takes no more entries of workers
pub record HaveEnded (r : RunOf) (b : BoardOf) (lines : List PassLine) : Type 0 where
  pub last : PassLine
  pub last_is : slice_get lines (length lines - 1) ≡ Some last
  pub ends : (last.parted ≡ 0)
      ⊎ (((1 < length lines) × (last.commits ≡ 0))
      ⊎ ((length lines ≡ r.passes)
      ⊎ IsSpent (board_at b (entries_after lines (length lines)))))

-- ---- the pass that is kept
-- counted from 1, the first pass after which the least is open
pub record IsBest (lines : List PassLine) (kept : ℕ) : Type 0 where
  pub counted : 1 ≤ kept
  pub line : PassLine
  pub line_is : slice_get lines (kept - 1) ≡ Some line
  pub least : (k : ℕ) (other : PassLine) → slice_get lines k ≡ Some other → line.parted ≤ other.parted
  pub first : (k : ℕ) (other : PassLine) → slice_get lines k ≡ Some other → k + 1 < kept
      → line.parted < other.parted

-- the number of entries behind the passes where the last is kept, and else behind the entry that takes the board back
-- to the end of the kept one
abbrev pub ClosesFrom : BoardOf → List PassLine → ℕ → ℕ → Type 0
ClosesFrom b lines kept from =
    let end = entries_after lines (length lines) in
    ((kept ≡ length lines) × (from ≡ end))
    ⊎ ((kept < length lines) × (slice_get b.history end ≡ Some (Back (entries_after lines kept))) × (from ≡ end + 1))

-- ---- facts
-- the nets that have no cut, in order
abbrev pub complete_from : ℕ → List (List Cut) → List ℕ
complete_from net [] = []
complete_from net ([] ∷ ends) = net ∷ complete_from (net + 1) ends
complete_from net ((cut ∷ cuts) ∷ ends) = complete_from (net + 1) ends

-- with moves at 45 degrees, for each cut how many nodes the net's moves reach, those among them
abbrev pub AreWide : Bool → Mesh → ℕ → BoardOf → List Cut → Option (List ℕ) → Type 0
AreWide false m via_cost b cuts wide = wide ≡ None
AreWide true m via_cost b cuts None = ⊥
AreWide true m via_cost b cuts (Some sizes) = AllZip (IsWideSize b.design m b.items via_cost) cuts sizes

-- The lattice's grid and nodes, the places of wiring that wasn't legal, how many joins the closing pass made, and how
-- the nets end: each is complete, or has a cut for each of its islands, no settled move of the first items that such a
-- cut names helps, and how far moves at 45 degrees reach from it, where they are asked for.
pub record AreFacts (m : Mesh) (via_cost tries : ℕ) (diagonal : Bool) (b : BoardOf) (from : ℕ) (facts : Facts) : Type
    0 where
  pub grid_is : facts.grid ≡ m.grid
  pub nodes_are : facts.nodes ≡ node_count m
  pub dropped_are : Starts b.design facts.dropped b.start
  pub joins_are : from + facts.joins ≡ length b.history
  pub ends : List (List Cut)
  pub ends_are : AreEnds b.design m via_cost b.items (length b.design.nets) ends
  pub settled : AreSettled m via_cost tries b ends
  pub complete_is : facts.complete ≡ complete_from 0 ends
  pub cuts_are : facts.cuts ≡ flat_map (λ (cuts : List Cut). cuts) ends
  pub wide_is : AreWide diagonal m via_cost b facts.cuts facts.wide

-- ---- runs
-- a least offer; with moves at 45 degrees it may also be one of the closing pass by a least walk over them, where no
-- legal walk leads from its island to another
abbrev pub MayJoin : Bool → Mesh → ℕ → BoardOf → Offer → Type 0
MayJoin false m via_cost b o = IsLeastOffer m via_cost b o
MayJoin true m via_cost b o = IsLeastOffer m via_cost b o ⊎ IsWideOffer m via_cost b o

-- each join was such an offer on the board after its base, which is an earlier one
pub record AreLeast (diagonal : Bool) (m : Mesh) (via_cost : ℕ) (b : BoardOf) : Type 0 where
  pub each : (n : ℕ) (o : Offer) (first after : ℕ) → slice_get b.history n ≡ Some (Join o first after)
      → (o.base ≤ n) × MayJoin diagonal m via_cost (board_at b o.base) o

-- the closing pass, or with moves at 45 degrees its rounds
abbrev pub ClosesBy : Bool → Mesh → ℕ → BoardOf → BoardOf → Type 0
ClosesBy false m via_cost old new = Closes m via_cost old new
ClosesBy true m via_cost old new = ClosesWide m via_cost old new

-- A run of a design on a lattice: on the board of the design's fixed items and its legal wiring, which takes at most
-- 2^19 entries of workers, passes were made until they ended; the best of them is kept; and from its end the closing
-- pass joined what could be joined, after which no more connections are open. The board is legal after each number of
-- its entries.
pub record IsRun (d : Design) (m : Mesh) (r : RunOf) (b : BoardOf) (facts : Facts) : Type 0 where
  pub board : IsBoard b
  pub design_is : b.design ≡ d
  pub cap_is : b.cap ≡ 2 ^ 19
  pub passes : ArePasses m r b facts.passes
  pub ended : HaveEnded r b facts.passes
  pub best : IsBest facts.passes facts.kept
  pub from : ℕ
  pub closes_from : ClosesFrom b facts.passes facts.kept from
  pub closing : ClosesBy r.diagonal m r.via_cost (board_at b from) b
  pub fewer : NeverMore (board_at b from) b
  pub least : AreLeast r.diagonal m r.via_cost b
  pub facts_are : AreFacts m r.via_cost r.tries r.diagonal b from facts

-- A run as it is handed back: one of several that may have been made, by the workers that there are or by fewer. No
-- clause says which one.
pub record IsSomeRun (d : Design) (m : Mesh) (r : RunOf) (b : BoardOf) (facts : Facts) : Type 0 where
  pub workers : ℕ
  pub some : 1 ≤ workers
  pub few : workers ≤ r.workers
  pub run : IsRun d m (record r { workers = workers }) b facts

-- ---- what a run says of its cuts
-- the cut's island: it has this pin first, and no walk over the net's moves, those at 45 degrees among them, leads from
-- it to another island of the net
pub record IsWideShut (d : Design) (m : Mesh) (items : List Item) (via_cost : ℕ) (cut : Cut) : Type 0 where
  pub found : List Island
  pub islands : AreIslands d items cut.net found
  pub place : ℕ
  pub island : Island
  pub island_is : slice_get found place ≡ Some island
  pub pin_is : slice_get island.pins 0 ≡ Some cut.pin
  pub shut : (from to : ℕ) (hops : List Hop) → IsStart d m items island from
      → IsGoal d m items (remove found place) to → Leads (wide_graph d m items island.net via_cost) from hops to → ⊥

-- the design is of plain copper, the lattice fits it, and the price of a via is small
pub record IsTask (d : Design) (m : Mesh) (via_cost : ℕ) : Type 0 where
  pub plain : IsPlainCopper d
  pub fits : FitsDesign d m
  pub small_cost : via_cost ≤ 2 ^ 30
