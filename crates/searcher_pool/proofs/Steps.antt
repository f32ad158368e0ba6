-- What a worker keeps over a call of its pass.
use Rattle.std.proofs.Common.{◌≡◌, ◌∙◌, ◌<◌, ℕ, refl, sym, ap, subst, arith, List, [], ◌∷◌, ◌++◌, length}
use Rattle.std.proofs.Common.{inl, inr, Result, Ok, Err, IfOk, IfErr}
use Rattle.std.proofs.lemmas.List.{append-nil, append_assoc}
use Rattle.std.specs.Prelude.{Contains}
use Rattle.std.proofs.lemmas.List.Elements.{Contains-push}
use Rattle.board_offers.specs.declared.offer.Offer.{Offer}
use Rattle.pcb_board.specs.declared.answer.Answer.{Answer}
use Rattle.pcb_board.specs.declared.answer.Answer.TheVariants.{Committed, Stale, Wrong, Malformed, Full}
use Rattle.pcb_board.specs.Boards.{BoardOf, SnapOf}
use Rattle.pcb_board.specs.Answers.{Step, snap_of}
use Rattle.pcb_board.specs.Keeping.{IsBoard, Grows}
use Rattle.route_lattice.specs.Mesh.{node_count}
use Rattle.pcb_board.proofs.Prefix.{board_whole}
use Rattle.route_lattice.specs.declared.moves.Reach.{Reach}
use Rattle.route_plan.specs.declared.plans.Planned.TheVariants as planned
use Rattle.route_plan.specs.Plans.{IsOfferOf, IsWhole}
use Rattle.least_offer.specs.Least.{MayBeMade}
use Rattle.least_offer.specs.Late.{IsFair}
use Rattle.board_turn.specs.declared.event.Action.{Action}
use Rattle.board_turn.specs.declared.event.Action.TheVariants.{Snapped, Offered, NoMemory}
use Rattle.board_turn.specs.declared.event.Event.{Event}
use Rattle.board_turn.specs.Events.{Does, Reaches, IsPrefix}
use Rattle.board_turn.specs.Turns.{TurnOf, Calls, opening}
use Rattle.board_turn.specs.Turns as turn
use Rattle.searcher_pool.specs.declared.log.OfferNote.{OfferNote}
use Rattle.searcher_pool.specs.declared.worker.Worker.{Worker}
use Rattle.searcher_pool.specs.declared.worker.Attempt.{Attempt}
use Rattle.searcher_pool.specs.declared.worker.Attempt.TheVariants.{Ended, Joined, Late}
use Rattle.searcher_pool.specs.Passes.{Between, IsShutOn, PassOf, note_of}
use Rattle.searcher_pool.specs.inner.Working.{Attempts, EndsSeen, HasMapped, IsAfter, IsDrawn, IsPlanned}
use Rattle.searcher_pool.specs.inner.Working.{IsQuietAfter, IsReady, IsSnapNow, IsTurnOf, Knows, PlansSeen}
use Rattle.searcher_pool.specs.inner.Working.{attempt_of}
use Rattle.searcher_pool.proofs.Following.{BoardsKeep, mapped_still}
use Rattle.board_turn.proofs.EventLists.{reaches_grows, reaches_one}
use Rattle.searcher_pool.proofs.Seen.{longer}
use Rattle.searcher_pool.proofs.Knowing.{fewer_left, fewer_seen, knows_offered, knows_quiet, legal, moved}

pub prefix_same : {A : Type 0} (xs ys : List A) → ys ≡ xs → IsPrefix xs ys
prefix_same xs ys same = ([], same ∙ sym (append-nil xs))

pub prefix_on : {A : Type 0} (xs ys zs : List A) → IsPrefix xs ys → IsPrefix ys zs → IsPrefix xs zs
prefix_on xs ys zs first second = (
  first.0 ++ second.0,
  second.1 ∙ ap (λ (us : List _). us ++ second.0) first.1 ∙ append_assoc xs first.0 second.0,
)

-- a worker whose pass did nothing, with the notes that it had
pub after_noted : (v w : Worker) → w.pass.name ≡ v.pass.name → w.pass.seen ≡ v.pass.seen
    → w.notes.items ≡ v.notes.items → w.drawn ≡ v.drawn → w.seat ≡ v.seat → w.failed ≡ v.failed → IsAfter v w
after_noted v w name seen notes drawn seat failed = record {
  name = name;
  seen = prefix_same v.pass.seen w.pass.seen seen;
  notes = prefix_same v.notes.items w.notes.items notes;
  drawn = drawn;
  seat = seat;
  failed = failed;
}

pub after_on : (u v w : Worker) → IsAfter u v → IsAfter v w → IsAfter u w
after_on u v w first second = record {
  name = second.name ∙ first.name;
  seen = prefix_on u.pass.seen v.pass.seen w.pass.seen first.seen second.seen;
  notes = prefix_on u.notes.items v.notes.items w.notes.items first.notes second.notes;
  drawn = second.drawn ∙ first.drawn;
  seat = second.seat ∙ first.seat;
  failed = second.failed ∙ first.failed;
}

-- what was mapped stays so when the pass has seen more
mapped_after : (p : PassOf) (t : TurnOf) (v w : Worker) → IsPrefix v.pass.seen w.pass.seen → w.mapped ≡ v.mapped
    → IsReady p t v → HasMapped p t w.pass.seen w.mapped
mapped_after p t v w seen same ready = subst (HasMapped p t w.pass.seen) (sym same)
    (mapped_still p t v.pass.seen w.pass.seen v.mapped seen ready.mapped)

-- the worker is as before but for its pass, its search and its notes
pub record IsKept (p : PassOf) (v w : Worker) : Type 0 where
  pub number : w.number ≡ v.number
  pub size : w.search ≡ node_count p.lattice
  pub drawn : w.drawn ≡ v.drawn
  pub seat : w.seat ≡ v.seat
  pub mapped : w.mapped ≡ v.mapped
  pub failed : w.failed ≡ v.failed

pub record Went (p : PassOf) (t : TurnOf) (v w : Worker) : Type 0 where
  pub ready : IsReady p t w
  pub after : IsAfter v w

-- a call that makes no offer
pub quiet : (p : PassOf) (t : TurnOf) (v w : Worker) (d : Action) (b : BoardOf) → IsReady p t v → IsKept p v w
    → w.notes.items ≡ v.notes.items → note_of d ≡ [] → Does b d b → Calls v.pass w.pass d b → Went p t v w
quiet p t v w d b ready kept notes silent did calls =
    let k = ready.knows in
    let m = moved p t v.pass w.pass v.drawn.items v.notes.items d b k calls b did in
    let name = ap (λ (x : turn.PassOf). x.name) calls.now_is in
    let seen : IsPrefix v.pass.seen w.pass.seen = subst (λ (xs : List Event). IsPrefix v.pass.seen xs)
    (sym (ap (λ (x : turn.PassOf). x.seen) calls.now_is)) m.seen in
    record {
      ready = record {
        number_is = kept.number ∙ ready.number_is ∙ sym name;
        size = kept.size;
        knows = subst (λ (xs : List ℕ). Knows p t w.pass xs w.notes.items) (ap (λ (x : _). x.items) (sym kept.drawn))
            (subst (Knows p t w.pass v.drawn.items) (sym notes)
            (knows_quiet p t v.pass w.pass v.drawn.items v.notes.items d b k calls silent did));
        mapped = mapped_after p t v w seen kept.mapped ready;
      };
      after = record {
        name = name;
        seen = seen;
        notes = prefix_same v.notes.items w.notes.items notes;
        drawn = kept.drawn;
        seat = kept.seat;
        failed = kept.failed;
      };
    }

pub record Tried (p : PassOf) (t : TurnOf) (v w : Worker) (net : ℕ) (a : Answer) : Type 0 where
  pub ready : IsReady p t w
  pub after : IsAfter v w
  pub attempt : Attempts p t v w net (attempt_of a)

-- a snapshot was taken, or memory was wanting
pub record Looks {E : Type 0} (p : PassOf) (t : TurnOf) (v w : Worker) (r : Result SnapOf E) : Type 0 where
  pub ready : IsReady p t w
  pub after : IsQuietAfter v w
  pub snap : IfOk r (IsSnapNow t w.pass.seen)

pub looked : {E : Type 0} (p : PassOf) (t : TurnOf) (v w : Worker) (r : Result SnapOf E) → IsReady p t v → IsKept p v w
    → w.notes.items ≡ v.notes.items
    → IfOk r (λ s. (b : BoardOf) × Calls v.pass w.pass Snapped b × (s ≡ snap_of b))
    → IfErr r (λ e. (b : BoardOf) × Calls v.pass w.pass NoMemory b) → Looks p t v w r
looked p t v w (Err e) ready kept notes found (b, calls) =
    let went = quiet p t v w NoMemory b ready kept notes refl refl calls in
    record { ready = went.ready; after = record { after = went.after; same = notes }; snap = tt }
looked p t v w (Ok s) ready kept notes (b, calls, is) failed =
    let went = quiet p t v w Snapped b ready kept notes refl refl calls in
    record {
      ready = went.ready;
      after = record { after = went.after; same = notes };
      snap = record {
        board = b;
        reached = subst (λ (es : List Event). Reaches (opening t) es b)
            (sym (ap (λ (x : turn.PassOf). x.seen) calls.now_is))
            (moved p t v.pass w.pass v.drawn.items v.notes.items Snapped b ready.knows calls b refl).reached;
        is = is;
      };
    }

-- a call that makes the offer of a plan
module _ (p : PassOf) (t : TurnOf) (is_turn : IsTurnOf p t) (keep : BoardsKeep)
    (late : (b c after : BoardOf) (o : Offer) (a : Answer) → IsBoard b → IsBoard c → Grows b c → MayBeMade b o
    → Step c o a after → IsFair a) where
  -- what the answer makes of the task
  attempted : (v w : Worker) (net : ℕ) (o : Offer) (a : Answer) (b c : BoardOf) → IsReady p t v → o.worker < 16
      → o.net ≡ net → w.notes.items ≡ v.notes.items ++ record { offer = o; answer = a } ∷ []
      → Calls v.pass w.pass (Offered o a) b → Step b o a c → IsFair a
      → Attempts p t v w net (attempt_of a)
  attempted v w net o (Committed number) b c ready below is notes calls step fair =
      fewer_left t v.pass w.pass o number b c ready.knows.turn_is calls step below
  attempted v w net o (Stale item commit) b c ready below is notes calls step fair =
      (record { offer = o; answer = Stale item commit }, notes, (is, tt))
  attempted v w net o Full b c ready below is notes calls step fair = λ end reached. inr (inr (inr (record {
    note = record { offer = o; answer = Full };
    there = subst (λ (xs : List OfferNote). Contains xs
        (record { offer = o; answer = Full })) (sym notes)
        (Contains-push v.notes.items (record { offer = o; answer = Full }));
    net_is = is;
    full = tt;
  })))
  attempted v w net o (Wrong item commit) b c ready below is notes calls step fair = absurd fair
  attempted v w net o (Malformed clause) b c ready below is notes calls step fair = absurd fair

  pub offered : (v w : Worker) (net : ℕ) (o copy : Offer) (a : Answer) (b c : BoardOf) → IsReady p t v
      → IsKept p v w → IsPlanned p t v net o → IsDrawn p v.drawn.items net → copy ≡ o
      → w.notes.items ≡ v.notes.items ++ record { offer = copy; answer = a } ∷ []
      → Calls v.pass w.pass (Offered o a) b → Step b o a c → Tried p t v w net a
  offered v w net o copy a b c ready kept planned task same noted calls step =
      let k = ready.knows in
      let notes : w.notes.items ≡ v.notes.items ++ record { offer = o; answer = a } ∷ [] =
      noted ∙ ap (λ (x : Offer). v.notes.items ++ record { offer = x; answer = a } ∷ []) same in
      let m = moved p t v.pass w.pass v.drawn.items v.notes.items (Offered o a) b k calls c step in
      let name = ap (λ (x : turn.PassOf). x.name) calls.now_is in
      let seen : IsPrefix v.pass.seen w.pass.seen = subst (λ (xs : List Event). IsPrefix v.pass.seen xs)
      (sym (ap (λ (x : turn.PassOf). x.seen) calls.now_is)) m.seen in
      let known_is : planned.board ≡ k.board =
      reaches_one (opening t) k.board planned.board v.pass.seen k.reached planned.reached in
      let plan : IsOfferOf p.lattice p.via_cost k.board v.pass.name net p.penalty o =
      subst (λ (n : ℕ). IsOfferOf p.lattice p.via_cost k.board n net p.penalty o) ready.number_is
      (subst (λ (x : BoardOf). IsOfferOf p.lattice p.via_cost x v.number net p.penalty o) known_is
      planned.plan) in
      let board_known = keep (opening t) k.board v.pass.seen is_turn.board k.reached in
      let board_b = keep (opening t) b calls.events is_turn.board
      (legal p t v.pass w.pass v.drawn.items v.notes.items (Offered o a) b k calls) in
      let fair = late k.board b c o a board_known board_b m.then_is plan.may step in
      let below : o.worker < 16 = (let w_is = plan.worker_is in let n = k.below in let few = is_turn.few in
      omega (arith, w_is, n, few)) in
      record {
        ready = record {
          number_is = kept.number ∙ ready.number_is ∙ sym name;
          size = kept.size;
          knows = subst (λ (xs : List ℕ). Knows p t w.pass xs w.notes.items)
              (ap (λ (x : _). x.items) (sym kept.drawn))
              (subst (Knows p t w.pass v.drawn.items) (sym notes)
              (knows_offered p t v.pass w.pass v.drawn.items v.notes.items o a net b c k calls is_turn board_known
              board_b plan task step fair));
          mapped = mapped_after p t v w seen kept.mapped ready;
        };
        after = record {
          name = name;
          seen = seen;
          notes = (record { offer = o; answer = a } ∷ [], notes);
          drawn = kept.drawn;
          seat = kept.seat;
          failed = kept.failed;
        };
        attempt = attempted v w net o a b c ready below plan.net_is notes calls step fair;
      }

-- an attempt from an earlier moment, between which and the later one no note was made
pub attempt_on : (p : PassOf) (t : TurnOf) (u v w : Worker) (net : ℕ) (a : Attempt) → IsQuietAfter u v
    → Attempts p t v w net a → Attempts p t u w net a
attempt_on p t u v w net Ended quiet h = h
attempt_on p t u v w net Joined quiet h =
    let fewer = fewer_seen t u.pass.seen v.pass.seen quiet.after.seen in
    omega (arith, fewer, h)
attempt_on p t u v w net Late quiet (n, more, stale) =
    (n, more ∙ ap (λ (xs : List OfferNote). xs ++ n ∷ []) quiet.same, stale)

-- nothing was noted in two steps
pub quiet_on : (u v w : Worker) → IsQuietAfter u v → IsQuietAfter v w → IsQuietAfter u w
quiet_on u v w first second = record {
  after = after_on u v w first.after second.after;
  same = second.same ∙ first.same;
}

-- what a plan says of the board that the worker's pass has seen
module _ (p : PassOf) (t : TurnOf) (is_turn : IsTurnOf p t) (keep : BoardsKeep) (w : Worker) (net : ℕ) where
  -- what holds of that board holds of some board of the pass
  shown : (P : BoardOf → Type 0) → ((c : BoardOf) → Reaches (opening t) w.pass.seen c → P c) → (c : BoardOf)
      → Reaches (opening t) w.pass.seen c → Between P c (length (opening t).history) (length c.history)
  shown P holds c reached = record {
    at = length c.history;
    late = longer (opening t) c (reaches_grows (opening t) c w.pass.seen reached);
    early = omega arith;
    holds = subst P (sym (board_whole c (keep (opening t) c w.pass.seen is_turn.board reached))) (holds c reached);
  }

  pub ends_whole : PlansSeen p t w net planned.Whole → EndsSeen p t w.pass w.notes.items net
  ends_whole plan = λ c reached. inl (shown (λ x. IsWhole x.design x.items net) plan c reached)

  pub ends_shut : (reach : Reach) → PlansSeen p t w net (planned.Shut reach) → EndsSeen p t w.pass w.notes.items net
  ends_shut reach plan = λ c reached.
      inr (inl (shown (λ x. IsShutOn p.lattice p.via_cost x net p.penalty)
      (λ d there. record { nodes = reach.nodes; shut = plan d there }) c reached))

  pub is_planned : (o : Offer) → IsReady p t w → PlansSeen p t w net (planned.Offer o) → IsPlanned p t w net o
  is_planned o ready plan = record {
    board = ready.knows.board;
    reached = ready.knows.reached;
    plan = (plan ready.knows.board ready.knows.reached).offer;
  }

pub on_ok : {A E : Type 0} (P Q : A → Type 0) (r : Result A E) → ((a : A) → P a → Q a) → IfOk r P → IfOk r Q
on_ok P Q (Ok a) next h = next a h
on_ok P Q (Err e) next h = h
