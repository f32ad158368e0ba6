-- What a worker has mapped last, and what a plan on it says.
use Rattle.std.proofs.Common.{◌≡◌, ◌∙◌, ◌<◌, ◌≤◌, ℕ, sym, ap, subst, List, Option, Some, None, Result, Ok, Err}
use Rattle.std.proofs.Common.{IfOk, length, All}
use Rattle.std.specs.Prelude.{IfSome}
use Rattle.std.specs.Borrow.{Bor}
use Rattle.std.specs.Option.{option_copied}
use Rattle.std.proofs.lemmas.Option.{get_or_from_slice_get, slice_get_within}
use Rattle.pcb_model.specs.Plain.{IsPlainCopper}
use Rattle.pcb_model.specs.declared.design.Design.{Design}
use Rattle.route_lattice.specs.Fits.{FitsDesign}
use Rattle.pcb_board.specs.Boards.{BoardOf, SnapOf}
use Rattle.pcb_board.specs.Keeping.{IsBoard}
use Rattle.board_offers.specs.declared.offer.TheConstants.{CLOSER}
use Rattle.route_plan.specs.declared.mapped.MappedSnap.{MappedSnap}
use Rattle.route_plan.specs.Mapped.{CanMap, IsMapped, IsLater, IsMappedOn}
use Rattle.route_plan.proofs.Mapping.{BoardsServe, IdsStay, can_map, mapped_now, some_later, still_mapped}
use Rattle.route_plan.specs.declared.plans.Planned.{Planned}
use Rattle.route_plan.specs.Planners.{CanSearch, planner_of}
use Rattle.route_plan.specs.Plans.{IsSnapOf, PlansNet}
use Rattle.board_turn.specs.declared.event.Event.{Event}
use Rattle.board_turn.specs.Events.{Reaches, IsPrefix}
use Rattle.board_turn.specs.Turns.{TurnOf, opening}
use Rattle.board_turn.proofs.EventLists.{reaches_grows, reaches_one, reaches_parts}
use Rattle.searcher_pool.specs.declared.worker.Worker.{Worker}
use Rattle.searcher_pool.specs.Passes.{PassOf}
use Rattle.searcher_pool.specs.inner.Working.{HasMapped, IsDrawn, IsSnapNow, IsTurnOf, PlansSeen}

-- what the law of events says of boards
abbrev pub BoardsKeep : Type 0
BoardsKeep = (b c : BoardOf) (es : List Event) → IsBoard b → Reaches b es c → IsBoard c

-- ---- what was mapped last
-- what was mapped stays so where the pass sees more
mapped_on : (p : PassOf) (t : TurnOf) (es fs : List Event) (o : Option MappedSnap) (b : BoardOf) → IsPrefix es fs
    → HasMapped p t es o → Reaches (opening t) fs b → IfSome o (IsMappedOn p.lattice b)
mapped_on p t es fs o b more has reached =
    let parts = reaches_parts (opening t) b es more.0
    (subst (λ (xs : List Event). Reaches (opening t) xs b) more.1 reached) in
    still_mapped p.lattice parts.0 b o (reaches_grows parts.0 b more.0 parts.2) (has.on parts.0 parts.1)

pub mapped_still : (p : PassOf) (t : TurnOf) (es fs : List Event) (o : Option MappedSnap) → IsPrefix es fs
    → HasMapped p t es o → HasMapped p t fs o
mapped_still p t es fs o more has = record { on = λ b reached. mapped_on p t es fs o b more has reached }

-- what was mapped of the board of the turn stays so
pub mapped_first : (p : PassOf) (t : TurnOf) (es : List Event) (o : Option MappedSnap)
    → IfSome o (IsMappedOn p.lattice (opening t)) → HasMapped p t es o
mapped_first p t es o h = record {
  on = λ b reached. still_mapped p.lattice (opening t) b o (reaches_grows (opening t) b es reached) h;
}

-- and where nothing was mapped nothing is asked
pub mapped_none : (p : PassOf) (t : TurnOf) (es : List Event) → HasMapped p t es None
mapped_none p t es = record { on = λ b reached. tt }

-- what is lent of what may be there is that
pub lent_is : {X : Type 0} (P : X → Type 0) (lent : Option (Bor X)) (o : Option X) → option_copied lent ≡ o
    → IfSome o P → IfSome lent (λ x. P x.now)
lent_is P None o is h = tt
lent_is P (Some x) o is h = subst (λ (y : Option _). IfSome y P) (sym is) h

-- ---- nets
-- a net of a place that was drawn is one of the design
pub net_there : (p : PassOf) (d : Design) (drawn : List ℕ) (net : ℕ) → All (λ n. n < length d.nets) p.tasks
    → IsDrawn p drawn net → net < length d.nets
net_there p d drawn net all (k, place, within, at, is) =
    subst (λ (n : ℕ). n < length d.nets) (get_or_from_slice_get p.tasks place net 0 is)
    (all place 0 (slice_get_within p.tasks place net is))

-- ---- a snapshot of the board that the events leave
module _ (p : PassOf) (t : TurnOf) (is_turn : IsTurnOf p t) (keep : BoardsKeep) (es : List Event) (s : SnapOf)
    (now : IsSnapNow t es s) where
  pub kept : IsBoard now.board
  kept = keep (opening t) now.board es is_turn.board now.reached

  stays : now.board.design ≡ (opening t).design
  stays = (reaches_grows (opening t) now.board es now.reached).design_stays

  pub design_is : s.design ≡ (opening t).design
  design_is = ap (λ (x : SnapOf). x.design) now.is ∙ stays

  fits : FitsDesign now.board.design p.lattice
  fits = subst (λ (d : Design). FitsDesign d p.lattice) (sym stays) is_turn.task.fits

  -- it can be mapped
  pub snap_maps : BoardsServe → CanMap p.lattice s
  snap_maps serve = can_map p.lattice now.board s kept fits serve now.is

  -- it is later than what was mapped
  pub snap_later : BoardsServe → IdsStay → (o : Option MappedSnap) → HasMapped p t es o
      → IfSome o (λ mapped. IsLater p.lattice mapped s)
  snap_later serve ids o has =
      some_later p.lattice now.board s o kept serve ids now.is (has.on now.board now.reached)

  -- plans may be searched on it
  pub snap_search : BoardsServe → (worker : ℕ) → worker ≤ CLOSER → CanSearch p.lattice s p.via_cost worker
  snap_search serve worker few =
      subst (λ (x : SnapOf). CanSearch p.lattice x p.via_cost worker) (sym now.is) (record {
        sound = kept.sound;
        plain = subst IsPlainCopper (sym stays) is_turn.task.plain;
        fits = fits;
        serves = serve now.board kept;
        small_cost = is_turn.task.cost;
        closer = few;
      })

  -- it is one of each board that the events leave
  snap_of_board : (b : BoardOf) → Reaches (opening t) es b → IsSnapOf s b
  snap_of_board b reached = subst (IsSnapOf s) (reaches_one (opening t) b now.board es reached now.reached) (record {
    board = kept;
    is = sym now.is;
    plain = subst IsPlainCopper (sym stays) is_turn.task.plain;
  })

  -- what was mapped of it is of the board
  pub snap_mapped : (mapped : MappedSnap) → IsMapped p.lattice s mapped → HasMapped p t es (Some mapped)
  snap_mapped mapped is = record {
    on = λ b reached. subst (λ (x : BoardOf). IsMappedOn p.lattice x mapped)
        (reaches_one (opening t) b now.board es reached now.reached)
        (mapped_now p.lattice now.board s mapped kept now.is is);
  }

  -- what a plan on the mapped snapshot says is what it says of the board
  pub snap_seen : {E : Type 0} (w : Worker) (net : ℕ) (mapped : MappedSnap) (r : Result Planned E) → es ≡ w.pass.seen
      → IsMapped p.lattice s mapped
      → IfOk r (PlansNet (planner_of p.lattice mapped.snap p.via_cost w.number) net p.penalty)
      → IfOk r (PlansSeen p t w net)
  snap_seen w net mapped (Ok plan) same is h = λ b reached.
      h b (subst (λ (x : SnapOf). IsSnapOf x b) (sym is.snap_is)
      (snap_of_board b (subst (λ (xs : List Event). Reaches (opening t) xs b) (sym same) reached)))
  snap_seen w net mapped (Err e) same is h = h
