-- What a worker knows after a call of its pass.
use Rattle.std.proofs.Common.{◌≡◌, ◌∙◌, ◌+◌, ◌≤◌, ◌<◌, ℕ, Bool, cond, true, false}
use Rattle.std.proofs.Common.{refl, sym, ap, subst, arith, List, [], ◌∷◌, ◌++◌, length, All, inl, inr}
use Rattle.std.specs.Prelude.{Any, Some, slice_get}
use Rattle.std.proofs.lemmas.List.{append-nil, append_assoc, length-append}
use Rattle.std.proofs.lemmas.Grind.{flat_map-append}
use Rattle.std.proofs.lemmas.List.Sums.{sum_by-append, sum_by-cons}
use Rattle.std.proofs.lemmas.List.Elements.{All-append, All-cons, All-nil, All-weaker}
use Rattle.std.proofs.lemmas.List.Quantifiers.{all_pairs_push}
use Rattle.std.proofs.lemmas.Bool.{cases_lt, eq-eqb, lt-ltb}
use Rattle.board_offers.specs.declared.offer.Offer.{Offer}
use Rattle.pcb_board.specs.declared.answer.Answer.{Answer}
use Rattle.pcb_board.specs.declared.answer.Answer.TheVariants.{Committed, Stale, Wrong, Malformed, Full}
use Rattle.board_offers.specs.Items.{is_on}
use Rattle.pcb_board.specs.Boards.{BoardOf, board_at, worker_entries}
use Rattle.pcb_board.specs.Answers.{Step}
use Rattle.pcb_board.specs.Keeping.{IsBoard, Grows}
use Rattle.pcb_board.proofs.Prefix.{board_before}
use Rattle.pcb_board.proofs.Runs.{grows_on, step_grows}
use Rattle.least_offer.specs.Least.{IsLeastOffer}
use Rattle.least_offer.specs.Late.{IsFair}
use Rattle.route_plan.specs.Plans.{IsOfferOf}
use Rattle.board_turn.specs.declared.event.Action.{Action}
use Rattle.board_turn.specs.declared.event.Action.TheVariants.{Offered}
use Rattle.board_turn.specs.declared.event.Event.{Event}
use Rattle.board_turn.specs.Events.{event, Does, Reaches, own, IsPrefix}
use Rattle.board_turn.specs.Turns.{TurnOf, Calls, opening, count_of}
use Rattle.board_turn.specs.Turns as turn
use Rattle.searcher_pool.specs.declared.log.OfferNote.{OfferNote}
use Rattle.searcher_pool.specs.Passes.{PassOf, IsTold, IsFullAnswer, IsSpent, IsStale, named, note_of, noted}
use Rattle.searcher_pool.specs.inner.Working.{IsDrawn, IsTurnOf, Knows, commit_of, entries_left}
use Rattle.searcher_pool.proofs.Boards.{may_be_taken, IsTaken}
use Rattle.board_turn.proofs.EventLists.{own-append, reaches_grows, reaches_one, reaches_parts, reaches-snoc}
use Rattle.board_turn.proofs.EventLists.{saw_all_alone}
use Rattle.searcher_pool.proofs.Seen.{commits, earlier_board, join_entry, longer, spent_later}
use Rattle.searcher_pool.proofs.Seen.{workers_after}

All-one : {X : Type 0} (P : X → Type 0) (x : X) → P x → All P (x ∷ [])
All-one P x p = All-cons P x [] p (All-nil P)

All-more : {X : Type 0} (P : X → Type 0) (xs : List X) (x : X) → All P xs → P x → All P (xs ++ x ∷ [])
All-more P xs x all p = All-append P xs (x ∷ []) all (All-one P x p)

-- what is told on a board is told on a later one
pub told_later : (p : PassOf) (old b c : BoardOf) (name : ℕ) (drawn : List ℕ) (note : OfferNote) → Grows b c
    → IsTold p old b name drawn note → IsTold p old c name drawn note
told_later p old b c name drawn note grows told =
    let base_le : note.offer.base ≤ length b.history = omega (arith, told.late, told.early) in
    let more = longer b c grows in
    record {
      worker_is = told.worker_is;
      penalty_is = told.penalty_is;
      of_task = told.of_task;
      begun = told.begun;
      least = subst (λ (x : BoardOf). IsLeastOffer p.lattice p.via_cost x note.offer)
          (sym (board_before b c note.offer.base grows base_le)) told.least;
      at = told.at;
      late = told.late;
      early = omega (arith, told.early, more);
      next = told.next;
      answered = subst (λ (x : BoardOf). Step x note.offer note.answer told.next)
          (sym (board_before b c told.at grows told.early)) told.answered;
      fair = told.fair;
    }

-- what a call tells of the events, the boards and the notes, from what the worker knew
pub record Moved (t : TurnOf) (q : turn.PassOf) (events : List Event) (d : Action) (known b c : BoardOf) : Type 0 where
  pub seen : IsPrefix q.seen (events ++ event q.name d ∷ [])
  pub reached : Reaches (opening t) (events ++ event q.name d ∷ []) c
  pub then_is : Grows known b
  pub grows : Grows known c
  pub notes : noted (own q.name (events ++ event q.name d ∷ [])) ≡ noted (own q.name q.seen) ++ note_of d

module _ (p : PassOf) (t : TurnOf) (q r : turn.PassOf) (drawn : List ℕ) (notes : List OfferNote) (d : Action)
    (b : BoardOf) (k : Knows p t q drawn notes) (calls : Calls q r d b) where
  abbrev e : Event
  e = event q.name d

  pub legal : Reaches (opening t) calls.events b
  legal = subst (λ (x : TurnOf). Reaches (opening x) calls.events b) k.turn_is calls.legal

  -- what the worker knew of is the board after the first of the events
  then_grows : Grows k.board b
  then_grows =
      let parts = reaches_parts (opening t) b q.seen calls.before.0
      (subst (λ (xs : List Event). Reaches (opening t) xs b) calls.before.1 legal) in
      subst (λ (x : BoardOf). Grows x b) (reaches_one (opening t) k.board parts.0 q.seen k.reached parts.1)
      (reaches_grows parts.0 b calls.before.0 parts.2)

  own_event : own q.name (e ∷ []) ≡ e ∷ []
  own_event = ap (λ (z : Bool). cond z (e ∷ []) [] ++ []) (eq-eqb q.name q.name refl)

  pub moved : (c : BoardOf) → Does b d c → Moved t q calls.events d k.board b c
  moved c did = record {
    seen = (
      calls.before.0 ++ e ∷ [],
      ap (λ (xs : List Event). xs ++ e ∷ []) calls.before.1 ∙ append_assoc q.seen calls.before.0 (e ∷ []),
    );
    reached = reaches-snoc (opening t) b c calls.events e legal did;
    then_is = then_grows;
    grows = grows_on k.board b c then_grows (reaches_grows b c (e ∷ []) (c, did, refl));
    notes =
        let owns : own q.name (calls.events ++ e ∷ []) ≡ own q.name q.seen ++ e ∷ [] =
        own-append q.name calls.events (e ∷ [])
        ∙ ap (λ (xs : List Event). xs ++ own q.name (e ∷ [])) calls.mine
        ∙ ap (λ (xs : List Event). own q.name q.seen ++ xs) own_event in
        ap noted owns ∙ flat_map-append (λ (x : Event). note_of x.action) (own q.name q.seen) (e ∷ [])
        ∙ ap (λ (xs : List OfferNote). noted (own q.name q.seen) ++ xs) (append-nil (note_of d));
  }

  -- a call that makes no offer adds no note
  pub knows_quiet : note_of d ≡ [] → Does b d b → Knows p t r drawn notes
  knows_quiet silent did =
      let m = moved b did in
      let more = longer k.board b m.grows in
      subst (λ (x : turn.PassOf). Knows p t x drawn notes) (sym calls.now_is) (record {
        turn_is = k.turn_is;
        below = k.below;
        notes_are = k.notes_are ∙ sym (append-nil _)
            ∙ ap (λ (xs : List OfferNote). noted (own q.name q.seen) ++ xs) (sym silent) ∙ sym m.notes;
        board = b;
        reached = m.reached;
        told = All-weaker (IsTold p (opening t) k.board q.name drawn) (IsTold p (opening t) b q.name drawn)
            (λ note. told_later p (opening t) k.board b q.name drawn note m.grows) notes k.told;
        fresh = k.fresh;
        seen = λ i n lt. let old = k.seen i n lt in omega (arith, old, more);
        spent = λ i n lt full. spent_later k.board b m.grows (k.spent i n lt full);
        prompt = k.prompt;
      })

-- one pass of a turn sees no event between its calls
pub alone : (p : PassOf) (t : TurnOf) (q r : turn.PassOf) (drawn : List ℕ) (notes : List OfferNote) (d : Action)
    (b : BoardOf) (k : Knows p t q drawn notes) → Calls q r d b → count_of t ≡ p.workers → p.workers ≡ 1
    → b ≡ k.board
alone p t q r drawn notes d b k calls count only =
    let one : count_of q.turn ≡ 1 = ap count_of k.turn_is ∙ count ∙ only in
    let first : q.name ≡ 0 = (let n = k.below in omega (arith, n, only)) in
    let same : calls.events ≡ q.seen = saw_all_alone q.name (count_of q.turn) q.seen calls.events first one
    calls.before calls.mine calls.called in
    reaches_one (opening t) k.board b q.seen k.reached
    (subst (λ (xs : List Event). Reaches (opening t) xs b) same (legal p t q r drawn notes d b k calls))

-- ---- offers
-- what an answer names is no later than the entry of a commit
named_within : (b c : BoardOf) (o : Offer) (a : Answer) → Step b o a c → IsFair a → named a ≤ length c.history
named_within b c o Full step fair = omega arith
named_within b c o (Malformed clause) step fair = omega arith
named_within b c o (Wrong item commit) step fair = absurd fair
named_within b c o (Stale item commit) step fair =
    let more = longer b c (step_grows b c o (Stale item commit) step) in
    by (is_on item b.items) refl more
  where
    by : (on : Bool) → is_on item b.items ≡ on → length b.history ≤ length c.history → commit ≤ length c.history
    by true e more = (let n = (step.0.commit_is.placed e).within in omega (arith, n, more))
    by false e more = (let n = (step.0.commit_is.removed e).within in omega (arith, n, more))
named_within b c o (Committed number) step fair =
    let same = ap (λ (x : BoardOf). length x.history) step.3 in
    let n = step.2 in
    let l = length-append b.history (join_entry b o ∷ []) in
    omega (arith, same, n, l)

-- an answer that the board is full is given by a board that is
full_is : (b c : BoardOf) (o : Offer) (a : Answer) → Step b o a c → IsFullAnswer a → IsSpent c
full_is b c o Full step full = subst IsSpent (sym step.1) step.0.reached
full_is b c o (Malformed clause) step full = absurd full
full_is b c o (Stale item commit) step full = absurd full
full_is b c o (Wrong item commit) step full = absurd full
full_is b c o (Committed number) step full = absurd full

never_late : (a : Answer) → IsTaken a → ¬ (IsStale a)
never_late Full taken stale = stale
never_late (Committed number) taken stale = stale
never_late (Malformed clause) taken stale = stale
never_late (Wrong item commit) taken stale = stale
never_late (Stale item commit) taken stale = taken

abbrev Fresh : OfferNote → OfferNote → Type 0
Fresh a b = named a.answer ≤ b.offer.base

-- the call of an offer that was planned on the board that the worker knows adds its note
pub knows_offered : (p : PassOf) (t : TurnOf) (q r : turn.PassOf) (drawn : List ℕ) (notes : List OfferNote)
    (o : Offer) (a : Answer) (net : ℕ) (b c : BoardOf) (k : Knows p t q drawn notes)
    (calls : Calls q r (Offered o a) b) → IsTurnOf p t → IsBoard k.board → IsBoard b
    → IsOfferOf p.lattice p.via_cost k.board q.name net p.penalty o → IsDrawn p drawn net → Step b o a c → IsFair a
    → Knows p t r drawn (notes ++ record { offer = o; answer = a } ∷ [])
knows_offered p t q r drawn notes o a net b c k calls is_turn kept kept_b plan task step fair =
    let m = moved p t q r drawn notes (Offered o a) b k calls c step in
    let note : OfferNote = record { offer = o; answer = a } in
    let to_known = longer k.board b m.then_is in
    let to_next = longer b c (step_grows b c o a step) in
    let more = longer k.board c m.grows in
    let begun = longer (opening t) k.board (reaches_grows (opening t) k.board q.seen k.reached) in
    let base = plan.base_is in
    let told : IsTold p (opening t) c q.name drawn note = record {
      worker_is = plan.worker_is;
      penalty_is = plan.penalty_is;
      of_task = subst (λ (n : ℕ). Any (λ place. slice_get p.tasks place ≡ Some n) drawn) (sym plan.net_is) task;
      begun = omega (arith, begun, base);
      least = subst (λ (x : BoardOf). IsLeastOffer p.lattice p.via_cost x o)
          (sym (ap (board_at c) base ∙ earlier_board k.board c kept m.grows)) plan.least;
      at = length b.history;
      late = omega (arith, base, to_known);
      early = to_next;
      next = c;
      answered = subst (λ (x : BoardOf). Step x o a c)
          (sym (earlier_board b c kept_b (step_grows b c o a step))) step;
      fair = fair;
    } in
    subst (λ (x : turn.PassOf). Knows p t x drawn (notes ++ note ∷ [])) (sym calls.now_is) (record {
      turn_is = k.turn_is;
      below = k.below;
      notes_are = ap (λ (xs : List OfferNote). xs ++ note ∷ []) k.notes_are ∙ sym m.notes;
      board = c;
      reached = m.reached;
      told = All-more (IsTold p (opening t) c q.name drawn) notes note
          (All-weaker (IsTold p (opening t) k.board q.name drawn) (IsTold p (opening t) c q.name drawn)
          (λ n. told_later p (opening t) k.board c q.name drawn n m.grows) notes k.told) told;
      fresh = all_pairs_push Fresh notes note k.fresh
          (λ i n lt. let s = k.seen i n lt in omega (arith, s, base));
      seen = All-more (λ (n : OfferNote). named n.answer ≤ length c.history) notes note
          (λ i n lt. let s = k.seen i n lt in omega (arith, s, more)) (named_within b c o a step fair);
      spent = All-more (λ (n : OfferNote). IsFullAnswer n.answer → IsSpent c) notes note
          (λ i n lt full. spent_later k.board c m.grows (k.spent i n lt full)) (full_is b c o a step);
      prompt = λ only. All-more (λ (n : OfferNote). ¬ (IsStale n.answer)) notes note (k.prompt only)
          (never_late a (may_be_taken k.board o a c plan.may
          (subst (λ (x : BoardOf). Step x o a c)
          (alone p t q r drawn notes (Offered o a) b k calls is_turn.count only) step)));
    })

-- ---- how many entries may come
-- more events leave no more
pub fewer_seen : (t : TurnOf) (xs ys : List Event) → IsPrefix xs ys → entries_left t ys ≤ entries_left t xs
fewer_seen t xs ys (rest, is) =
    let same = ap commits is in
    let both = sum_by-append (λ (e : Event). commit_of e.action) xs rest in
    omega (arith, same, both)

-- a commit of a worker leaves fewer
pub fewer_left : (t : TurnOf) (q r : turn.PassOf) (o : Offer) (number : ℕ) (b c : BoardOf) → q.turn ≡ t
    → Calls q r (Offered o (Committed number)) b → Step b o (Committed number) c → o.worker < 16
    → entries_left t r.seen < entries_left t q.seen
fewer_left t q r o number b c is calls step below =
    let e = event q.name (Offered o (Committed number)) in
    let legal : Reaches (opening t) calls.events b =
    subst (λ (x : TurnOf). Reaches (opening x) calls.events b) is calls.legal in
    let stood = workers_after (opening t) b calls.events legal in
    let cap = (reaches_grows (opening t) b calls.events legal).cap_stays in
    let open_yet : worker_entries b.history < b.cap = elim (cases_lt (worker_entries b.history) b.cap) [
      | inl lt ↦ lt
      | inr ge ↦ absurd (step.0.room (record { worker = below; reached = omega (arith, ge) }))
    ] in
    let seen_is = ap (λ (x : turn.PassOf). commits x.seen) calls.now_is in
    let both = sum_by-append (λ (x : Event). commit_of x.action) calls.events (e ∷ []) in
    let one : commits (e ∷ []) ≡ 1 =
    sum_by-cons (λ (x : Event). commit_of x.action) e []
    ∙ ap (λ (z : Bool). cond z 1 0 + 0) (lt-ltb o.worker 16 below) in
    let fewer = fewer_seen t q.seen calls.events calls.before in
    omega (arith, stood, cap, open_yet, seen_is, both, one, fewer)
