-- What the private functions of a run keep and answer.
use Rattle.std.specs.Prelude.{◌≡◌, ◌⊎◌, ℕ, ◌+◌, ◌-◌, ◌<◌, ◌≤◌, Bool, IsTrue, not, vec_len}
use Rattle.std.specs.Prelude.{List, [], flat_map, length, sum_by, slice_get, slice_index_or}
use Rattle.std.specs.Prelude.{All, Contains, Some, false}
use Rattle.pcb_model.specs.declared.item.Item.{Item}
use Rattle.pcb_model.specs.declared.design.Design.{Design}
use Rattle.pcb_islands.specs.declared.net.Island.{Island}
use Rattle.pcb_islands.specs.Islands.{AreIslands}
use Rattle.route_lattice.specs.Mesh.{Mesh, node_count}
use Rattle.board_offers.specs.declared.offer.Offer.{Offer}
use Rattle.pcb_board.specs.declared.answer.Entry.TheVariants.{Join}
use Rattle.pcb_board.specs.Boards.{BoardOf, board_at}
use Rattle.pcb_board.specs.Answers.{taken_back}
use Rattle.pcb_board.specs.Keeping.{IsBoard}
use Rattle.least_offer.specs.Least.{IsLeastOffer}
use Rattle.cut_certificate.specs.declared.cut.Cut.{Cut}
use Rattle.closing_pass.specs.Closing.{AreEnds}
use Rattle.closing_pass.specs.Settled.{AreSettled}
use Rattle.searcher_pool.specs.declared.input.PassInput.{PassInput}
use Rattle.searcher_pool.specs.Inputs.{CanPass}
use Rattle.searcher_pool.specs.Passes.{PassOf, Grows, IsSpent}
use Rattle.route_run.specs.declared.facts.PassLine.{PassLine}
use Rattle.route_run.specs.declared.connections.OpenNets.{OpenNets}
use Rattle.route_run.specs.declared.run.Kept.{Kept}
use Rattle.route_run.specs.declared.run.Routed.{Routed}
use Rattle.route_run.specs.declared.input.RunInput.{RunInput}
use Rattle.route_run.specs.Inputs.{CanRun}
use Rattle.closing_pass.specs.OpenCount.{IsOpenCount, NeverMore}
use Rattle.route_run.specs.declared.run.Shut.{Shut}
use Rattle.route_run.specs.Runs.{RunOf, HasSeveral, IsWorkedOff, ArePasses, AreLeast, AreWide, ClosesBy, HaveEnded}
use Rattle.route_run.specs.Runs.{IsBest, complete_from, entries_after, HadRoom, pass_at}

-- ---- what is open
-- so many connections of the net are open
pub record IsOpenNet (d : Design) (items : List Item) (net count : ℕ) : Type 0 where
  pub found : List Island
  pub islands : AreIslands d items net found
  pub count_is : count ≡ length found - 1

-- of the first n nets those that have several islands, and how many connections are open
pub record AreOpenNets (d : Design) (items : List Item) (n : ℕ) (nets : List ℕ) (count : ℕ) : Type 0 where
  pub within : All (λ net. net < n) nets
  pub all : (net : ℕ) → net < n → HasSeveral d items net → Contains nets net
  pub found : List (List Island)
  pub found_all : length found ≡ n
  pub islands : (net : ℕ) (own : List Island) → slice_get found net ≡ Some own → AreIslands d items net own
  pub sum_is : count ≡ sum_by (λ (own : List Island). length own - 1) found

-- so it is with all nets of a board
pub record AreOpenOn (b : BoardOf) (open_nets : OpenNets) : Type 0 where
  pub few : vec_len open_nets.nets ≤ length b.design.nets
  pub are : AreOpenNets b.design b.items (length b.design.nets) open_nets.nets.items open_nets.count

-- ---- passes
-- the pass without its tasks
abbrev pub untasked : PassOf → PassOf
untasked p = record p { tasks = [] }

-- a pass may be made on the board, and its tasks are the nets that have several islands there
pub record CanWorkOff (j : PassInput) (b : BoardOf) : Type 0 where
  pub input : CanPass j b
  pub count : ℕ
  pub open_nets : AreOpenNets b.design b.items (length b.design.nets) j.tasks.now count

-- a run may be made on the board, which has no entry yet
pub record IsNew (j : RunInput) (b : BoardOf) : Type 0 where
  pub input : CanRun j b.design
  pub none : b.history ≡ []

-- The nets with several islands were worked off, by joins of the pass's workers, each of them a least offer. Where the
-- board was full for an offer, it takes no more, and else no offer met a full board.
pub record AreWorkedOff (p : PassOf) (old new : BoardOf) (full : Bool) : Type 0 where
  pub grows : Grows p old new
  pub board : IsBoard new
  pub worked : (net : ℕ) → net < length old.design.nets → HasSeveral old.design old.items net
      → IsWorkedOff p new (length old.history) (length new.history) net
  pub least : (n : ℕ) (o : Offer) (first after : ℕ) → length old.history ≤ n
      → slice_get new.history n ≡ Some (Join o first after)
      → (o.base ≤ n) × IsLeastOffer p.lattice p.via_cost (board_at new o.base) o
  pub spent : IsTrue full → IsSpent new
  pub room : IsTrue (not full) → HadRoom p new (length old.history) (length new.history)

-- a pass was made: its nets were worked off, and its line counts its joins and what is open now
pub record IsMade (p : PassOf) (old new : BoardOf) (line : PassLine) (full : Bool) : Type 0 where
  pub nets : AreWorkedOff p old new full
  pub commits : length old.history + line.commits ≡ length new.history
  pub leaves : IsOpenCount new.design new.items line.parted

-- why no pass follows the one of this number
abbrev pub EndsBy : ℕ → PassLine → Bool → Type 0
EndsBy number line full = (line.parted ≡ 0) ⊎ (((1 < number) × (line.commits ≡ 0)) ⊎ IsTrue full)

-- passes were made, by least offers, and nothing else stands in the history
pub record HasPassed (m : Mesh) (r : RunOf) (b : BoardOf) (lines : List PassLine) : Type 0 where
  pub board : IsBoard b
  pub passes : ArePasses m r b lines
  pub least : AreLeast false m r.via_cost b
  pub no_more : length b.history ≡ entries_after lines (length lines)

-- a further pass may follow these
abbrev pub MayFollow : Mesh → RunOf → BoardOf → List PassLine → Type 0
MayFollow m r b lines = (k : ℕ) (line : PassLine) → slice_get lines k ≡ Some line → k + 1 ≡ length lines
    → (0 < line.parted) × (0 < k → 0 < line.commits)
    × HadRoom (pass_at m r.via_cost r.workers (k + 1)) b (entries_after lines k) (entries_after lines k + line.commits)

-- a board keeps its design, its start list and its cap
pub record Stays (old new : BoardOf) : Type 0 where
  pub design_stays : new.design ≡ old.design
  pub start_stays : new.start ≡ old.start
  pub cap_stays : new.cap ≡ old.cap

-- ---- the pass that is kept
-- of the first n passes the one at this place is the first after which the least is open
pub record IsBestOf (lines : List PassLine) (n place : ℕ) : Type 0 where
  pub within : place < n
  pub least : (k : ℕ) (d : PassLine) → k < n
      → (slice_index_or lines place d).parted ≤ (slice_index_or lines k d).parted
  pub first : (k : ℕ) (d : PassLine) → k < place
      → (slice_index_or lines place d).parted < (slice_index_or lines k d).parted

-- where the last pass is kept the board stays, and else it goes back to the end of the kept one
abbrev pub GoesBack : List PassLine → ℕ → BoardOf → BoardOf → Type 0
GoesBack lines kept old new =
    ((kept ≡ length lines) × (new ≡ old))
    ⊎ ((kept < length lines) × (entries_after lines kept ≤ length old.history)
    × (new ≡ taken_back old (entries_after lines kept)))

-- passes were made over the first board until they ended, and the board stands at the end of the kept one
pub record IsKept (m : Mesh) (r : RunOf) (first : BoardOf) (kept : Kept) : Type 0 where
  pub passed : BoardOf
  pub same : Stays first passed
  pub has : HasPassed m r passed kept.lines
  pub ended : HaveEnded r passed kept.lines
  pub best : IsBest kept.lines kept.kept
  pub gone : GoesBack kept.lines kept.kept passed kept.board

-- what the closing pass answers, or with moves at 45 degrees its rounds
pub record IsShutOut (m : Mesh) (via_cost tries : ℕ) (diagonal : Bool) (old : BoardOf) (s : Shut) : Type 0 where
  pub closes : ClosesBy diagonal m via_cost old s.closed.board
  pub count : length old.history + s.closed.joins ≡ length s.closed.board.history
  pub ends : AreEnds s.closed.board.design m via_cost s.closed.board.items (length s.closed.board.design.nets)
      s.closed.ends
  pub settled : AreSettled m via_cost tries s.closed.board s.closed.ends
  pub fewer : NeverMore old s.closed.board
  pub wide : AreWide diagonal m via_cost s.closed.board (flat_map (λ (cuts : List Cut). cuts) s.closed.ends) s.wide

-- what is told of a run that the closing pass ended
abbrev pub routed_of : Mesh → List ℕ → List PassLine → ℕ → Shut → Routed
routed_of m dropped lines kept shut = record {
  board = shut.closed.board;
  facts = record {
    grid = m.grid;
    nodes = node_count m;
    dropped = dropped;
    passes = lines;
    kept = kept;
    joins = shut.closed.joins;
    complete = complete_from 0 shut.closed.ends;
    cuts = flat_map (λ (cuts : List Cut). cuts) shut.closed.ends;
    wide = shut.wide;
  };
}

-- the closing pass was made from the end of the kept pass, and is told
pub record IsFinished (m : Mesh) (via_cost tries : ℕ) (diagonal : Bool) (kept : Kept) (dropped : List ℕ)
    (routed : Routed) : Type 0 where
  pub shut : Shut
  pub out : IsShutOut m via_cost tries diagonal kept.board shut
  pub board : IsBoard shut.closed.board
  pub told : routed ≡ routed_of m dropped kept.lines kept.kept shut
