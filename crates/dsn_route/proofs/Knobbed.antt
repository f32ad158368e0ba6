-- What a `route` writes reads back, and is right: its grid and its workers are in the ranges of the laws.
use Rattle.std.proofs.Common.{◌≡◌, inl, inr, ℕ, ◌≤◌, ◌*◌, ◌^◌, zero, suc, refl, subst, sym, List, Bool, true, false}
use Rattle.std.proofs.Common.{Option, Some, None, Result, Err, arith, unwrap_or, lit≤, nat_le, IfSome}
use Rattle.std.proofs.lemmas.Option.{none-some}
use Rattle.pcb_model.specs.declared.design.Design.{Design}
use Rattle.pcb_model.specs.Sound.{IsSound}
use Rattle.pcb_board.specs.Boards.{BoardOf}
use Rattle.route_lattice.specs.Mesh.{node_count}
use Rattle.route_lattice.specs.Whole.{default_grid, lattice_of}
use Rattle.route_lattice.specs.declared.limits.TheConstants.{DEFAULT_NODES, MOST_NODES}
use Rattle.route_lattice.proofs.Grids.{doubled, first_from, grid_small}
use Rattle.board_offers.specs.declared.offer.TheConstants.{CLOSER}
use Rattle.route_run.specs.declared.facts.Facts.{Facts}
use Rattle.route_run.specs.Runs.{IsRun, RunOf}
use Rattle.route_report.specs.Report.{report_of}
use Rattle.dsn_design.specs.Reading.{HasDesign}
use Rattle.dsn_tree.specs.declared.fault.TreeFault.{TreeFault}
use Rattle.dsn_tree.specs.declared.fault.TreeFault.TheVariants as tree_fault
use Rattle.dsn_tree.specs.Trees.{HasFault, Unless}
use Rattle.ses_writer.specs.Session.{session_of}
use Rattle.ses_reader.specs.declared.item.SesItem.{SesItem}
use Rattle.ses_reader.specs.declared.item.SesFault.{SesFault}
use Rattle.ses_reader.specs.declared.item.SesFault.TheVariants.{Spelling, Refused}
use Rattle.ses_reader.specs.Reading.{HasSession, ReadsSession}
use Rattle.session_law.specs.Back.{TellsWiring}
use Rattle.session_start.specs.Starting.{IsLater}
use Rattle.route_check.specs.declared.verdict.Verdict.{Verdict}
use Rattle.route_check.specs.declared.verdict.JudgeFault.{JudgeFault}
use Rattle.route_check.specs.Judged.{IsYes, Judges}
use Rattle.check_law.specs.Written.{AreSmall}
use Rattle.dsn_route.specs.Commands.{run_at}
use Rattle.dsn_route.specs.Judging.{IsNoSession, tree_place}
use Rattle.dsn_route.specs.Due.{AreOfRun}

-- ---- the grid
abbrev IsGrid : ℕ → Type 0
IsGrid grid = (1000 ≤ grid) × (grid ≤ 409600000)

tried : (p : ℕ → Bool) (n g : ℕ) → 1000 ≤ g → g * 2 ^ n ≡ 409600000 → IsGrid (first_from p 409600000 n g)
tried p zero g low is = (lit≤ tt, lit≤ tt)
tried p (suc n) g low is = by (p g) refl (tried p n (2 * g) (omega arith) (doubled (suc n) n g refl is))
  where
    by : (b : Bool) → p g ≡ b → IsGrid (first_from p 409600000 n (2 * g))
        → IsGrid (first_from p 409600000 (suc n) g)
    by true e rest = rw e (low, grid_small (suc n) g is)
    by false e rest = rw e rest

default_within : (d : Design) → IsGrid (default_grid d)
unfolding default_grid
default_within d =
    tried (λ grid. nat_le (node_count (lattice_of d grid)) DEFAULT_NODES) 12 100000 (lit≤ tt) refl

grid_at : (given : Option ℕ) (d : Design) → IfSome given (λ nm. (1000 ≤ nm) × (nm ≤ 100000000))
    → IsGrid (unwrap_or given (default_grid d))
grid_at None d within = default_within d
grid_at (Some nm) d within = (within.0, let h = within.1 in omega (arith, h))

-- ---- the laws
abbrev pub ReadsBack : Type 0
ReadsBack = (text : List ℕ) (d : Design) (grid : ℕ) (r : RunOf) (b : BoardOf) (facts : Facts) (omit : Bool)
    (result : Result (List SesItem) SesFault) → HasDesign text d → r.workers ≤ CLOSER
    → IsRun d (lattice_of d grid) r b facts → ReadsSession (session_of d b.items omit) d result
    → TellsWiring d b.items omit result

abbrev pub RunsAreRight : Type 0
RunsAreRight = (text : List ℕ) (d : Design) (grid : ℕ) (r : RunOf) (b : BoardOf) (facts : Facts) (omit : Bool)
    (xs : List SesItem) (answer : Result Verdict JudgeFault) → HasDesign text d → r.workers ≤ CLOSER
    → 1000 ≤ grid → grid ≤ 409600000 → node_count (lattice_of d grid) ≤ MOST_NODES
    → IsRun d (lattice_of d grid) r b facts → AreSmall d b.items facts → HasSession (session_of d b.items omit) d xs
    → Judges d xs (report_of d (lattice_of d grid) b.items facts false) answer → IsYes answer

-- the same of runs that start from an earlier session
abbrev pub LaterReadsBack : Type 0
LaterReadsBack = (text : List ℕ) (read d : Design) (grid : ℕ) (r : RunOf) (b : BoardOf) (facts : Facts) (omit : Bool)
    (result : Result (List SesItem) SesFault) → HasDesign text read → IsLater read d → r.workers ≤ CLOSER
    → IsRun d (lattice_of d grid) r b facts → ReadsSession (session_of d b.items omit) read result
    → TellsWiring d b.items omit result

abbrev pub LaterRunsAreRight : Type 0
LaterRunsAreRight = (text : List ℕ) (read d : Design) (grid : ℕ) (r : RunOf) (b : BoardOf) (facts : Facts)
    (omit : Bool) (xs : List SesItem) (answer : Result Verdict JudgeFault) → HasDesign text read → IsSound read
    → IsLater read d → r.workers ≤ CLOSER → 1000 ≤ grid → grid ≤ 409600000
    → node_count (lattice_of d grid) ≤ MOST_NODES → IsRun d (lattice_of d grid) r b facts
    → AreSmall d b.items facts → HasSession (session_of d b.items omit) read xs
    → Judges read xs (report_of d (lattice_of d grid) b.items facts false) answer → IsYes answer

-- a fault that has a place isn't want of memory
placed : (text : List ℕ) (f : TreeFault) (place : ℕ) → HasFault text f → tree_place f ≡ Some place
    → Unless f (HasFault text f) × (Unless f ⊥ → ⊥)
placed text (tree_fault.Memory e) place has is = absurd (none-some place is)
placed text (tree_fault.QuoteOpen at) place has is = (has, λ no. no)
placed text (tree_fault.BadQuoteByte at) place has is = (has, λ no. no)
placed text (tree_fault.Unclosed at) place has is = (has, λ no. no)
placed text (tree_fault.Surplus at) place has is = (has, λ no. no)
placed text (tree_fault.TooDeep at) place has is = (has, λ no. no)
placed text tree_fault.Empty place has is = (has, λ no. no)

module _ (text : List ℕ) (read : Design) (reads : HasDesign text read) (told page : List ℕ)
    (w : AreOfRun read told page) where
  -- the design of the run
  abbrev d : Design
  d = w.design

  -- the run as it was made
  abbrev ran : RunOf
  ran = record (run_at w.knobs w.diagonal) { workers = w.run.workers }

  few_workers : ran.workers ≤ CLOSER
  few_workers =
      let fewer : w.run.workers ≤ w.knobs.workers = w.run.few in
      let few = w.within.workers.1 in omega (arith, fewer, few)

  abbrev grid : ℕ
  grid = unwrap_or w.knobs.grid (default_grid d)

  -- its session tells its wiring
  tells_wiring : ReadsBack → LaterReadsBack → (result : Result (List SesItem) SesFault)
      → ReadsSession (session_of d w.board.items w.knobs.omit_fixed) read result
      → TellsWiring d w.board.items w.knobs.omit_fixed result
  tells_wiring law later result given = elim w.starts [
    | inl same ↦ law text d grid ran w.board w.facts w.knobs.omit_fixed result
        (subst (HasDesign text) (sym same) reads) few_workers w.run.run
        (subst (λ (x : Design). ReadsSession (session_of d w.board.items w.knobs.omit_fixed) x result) (sym same) given)
    | inr is ↦ later text read d grid ran w.board w.facts w.knobs.omit_fixed result reads is few_workers w.run.run given
  ]

  pub is_readable : ReadsBack → LaterReadsBack → (place : ℕ) → IsNoSession told read place → ⊥
  is_readable law later place (inl (f, has, is)) =
      let both = placed (session_of d w.board.items w.knobs.omit_fixed) f place
      (subst (λ (t : List ℕ). HasFault t f) w.session_is has) is in
      both.1 (tells_wiring law later (Err (Spelling f)) both.0)
  is_readable law later place (inr (number, refused)) =
      tells_wiring law later (Err (Refused number place))
      (subst (λ (t : List ℕ). ReadsSession t read (Err (Refused number place))) w.session_is refused)

  pub is_yes : RunsAreRight → LaterRunsAreRight → IsSound read → (items : List SesItem)
      (answer : Result Verdict JudgeFault) → HasSession told read items → Judges read items page answer → IsYes answer
  is_yes law later sound items answer has judges =
      let within = grid_at w.knobs.grid d w.within.grid in
      let session = subst (λ (t : List ℕ). HasSession t read items) w.session_is has in
      let judged = subst (λ (t : List ℕ). Judges read items t answer) w.report_is judges in
      elim w.starts [
        | inl same ↦ law text d grid ran w.board w.facts w.knobs.omit_fixed items answer
            (subst (HasDesign text) (sym same) reads) few_workers within.0 within.1 w.few w.run.run w.small
            (subst (λ (x : Design). HasSession (session_of d w.board.items w.knobs.omit_fixed) x items) (sym same)
            session)
            (subst (λ (x : Design). Judges x items (report_of d (lattice_of d grid) w.board.items w.facts false) answer)
            (sym same) judged)
        | inr is ↦ later text read d grid ran w.board w.facts w.knobs.omit_fixed items answer reads sound is few_workers
            within.0 within.1 w.few w.run.run w.small session judged
      ]
