-- What all workers know together: the whole pass.
use Rattle.std.proofs.Common.{◌≡◌, ◌∙◌, ◌+◌, ◌≤◌, ◌<◌, ℕ, Bool, cond, true, false, eqb, zero, suc}
use Rattle.std.proofs.Common.{refl, sym, ap, ap₂, subst, arith, List, [], ◌∷◌, ◌++◌, length, drop, All, inl, inr}
use Rattle.std.proofs.Common.{Option, Some, None, get_or}
use Rattle.std.specs.Prelude.{IfSome, slice_get}
use Rattle.std.specs.List.{AllZip}
use mathlib.Core.Option as maybe
use lib.ListN.{get_elem?}
use Rattle.std.proofs.lemmas.List.{append-nil, append_assoc, length-append}
use Rattle.std.proofs.lemmas.Grind.{flat_map-append}
use Rattle.std.proofs.lemmas.List.Elements.{All-cons, All-nil, All-weaker, All-head}
use Rattle.std.proofs.lemmas.Bool.{cases_lt, eq-eqb, eqb-true}
use Rattle.board_offers.specs.declared.offer.Offer.{Offer}
use Rattle.pcb_board.specs.declared.answer.Entry.{Entry}
use Rattle.pcb_board.specs.declared.answer.Entry.TheVariants.{Join}
use Rattle.pcb_board.specs.declared.answer.Answer.TheVariants.{Committed, Stale, Wrong, Malformed, Full}
use Rattle.pcb_board.specs.Boards.{BoardOf}
use Rattle.pcb_board.specs.Answers.{Step}
use Rattle.pcb_board.specs.Keeping as board
use Rattle.board_turn.specs.Claims.{once_below}
use Rattle.board_turn.specs.declared.event.Action.{Action}
use Rattle.board_turn.specs.declared.event.Action.TheVariants.{Snapped, Offered, NoMemory}
use Rattle.board_turn.specs.declared.event.Event.{Event}
use Rattle.board_turn.specs.Events.{Does, Reaches, own, AllNamed}
use Rattle.board_turn.specs.Turns.{TurnOf, Ended, opening}
use Rattle.board_turn.specs.Turns as turn
use Rattle.searcher_pool.specs.declared.log.OfferNote.{OfferNote}
use Rattle.searcher_pool.specs.declared.log.WorkerLog.{WorkerLog}
use Rattle.searcher_pool.specs.Passes.{PassOf, EndsPlace, EndsTask, Grows, IsFullAnswer, IsJoinOf, IsLog, IsPassed}
use Rattle.searcher_pool.specs.Passes.{IsSpent, IsStale, IsTold, claimed, commits_in, committed, joins_by}
use Rattle.searcher_pool.specs.Passes.{note_of, noted}
use Rattle.searcher_pool.specs.inner.Working.{EndsDrawn, EndsSeen, Knows}
use Rattle.searcher_pool.specs.inner.Workers.{AreEnded, AreLogsOf, IsLogOf}
use Rattle.board_turn.proofs.EventLists.{reaches_grows, reaches_one, reaches_parts}
use Rattle.searcher_pool.proofs.Seen.{spent_later}
use Rattle.searcher_pool.proofs.Knowing.{told_later}
use Rattle.searcher_pool.proofs.Ending.{ends_later}

-- ---- lists side by side
-- what stands beside an element
beside : {X Y : Type 0} (R : X → Y → Type 0) (xs : List X) (ys : List Y) (j : ℕ) (x : X) → AllZip R xs ys
    → get_elem? xs j ≡ maybe.some x → (y : Y) × R x y
beside R [] [] j x zip there = absurd (maybe.some-ne-none x (sym there))
beside R [] (y ∷ ys) j x zip there = absurd zip
beside R (z ∷ xs) [] j x zip there = absurd zip
beside R (z ∷ xs) (y ∷ ys) zero x zip there =
    (y, subst (λ (w : _). R w y) (maybe.some-injective z x there) zip.0)
beside R (z ∷ xs) (y ∷ ys) (suc j) x zip there = beside R xs ys j x zip.1 there

-- what holds of each element by the one beside it
by_pairs : {X Y : Type 0} (R : X → Y → Type 0) (P : Y → Type 0) (xs : List X) (ys : List Y)
    → ((j : ℕ) (x : X) (y : Y) → get_elem? xs j ≡ maybe.some x → R x y → P y) → AllZip R xs ys → All P ys
by_pairs R P [] [] each zip = All-nil P
by_pairs R P [] (y ∷ ys) each zip = absurd zip
by_pairs R P (x ∷ xs) [] each zip = absurd zip
by_pairs R P (x ∷ xs) (y ∷ ys) each zip =
    All-cons P y ys (each zero x y refl zip.0) (by_pairs R P xs ys (λ j. each (suc j)) zip.1)

both_zip : {X Y : Type 0} (R S : X → Y → Type 0) (xs : List X) (ys : List Y) → AllZip R xs ys → AllZip S xs ys
    → AllZip (λ (x : X) (y : Y). R x y × S x y) xs ys
both_zip R S [] [] r s = tt
both_zip R S [] (y ∷ ys) r s = absurd r
both_zip R S (x ∷ xs) [] r s = absurd r
both_zip R S (x ∷ xs) (y ∷ ys) r s = ((r.0, s.0), both_zip R S xs ys r.1 s.1)

at_place : {X : Type 0} (xs : List X) (k : ℕ) (d : X) → k < length xs → get_elem? xs k ≡ maybe.some (get_or xs k d)
at_place [] k d lt = absurd (omega (arith, lt))
at_place (x ∷ xs) zero d lt = refl
at_place (x ∷ xs) (suc k) d lt = at_place xs k d (omega (arith, lt))

-- an element of the first list, and what stands beside it at the same place
beside_at : {X Y : Type 0} (R : X → Y → Type 0) (xs : List X) (ys : List Y) (k : ℕ) (d : Y) → AllZip R xs ys
    → k < length ys → (x : X) × (get_elem? xs k ≡ maybe.some x) × R x (get_or ys k d)
beside_at R [] [] k d zip lt = absurd (omega (arith, lt))
beside_at R [] (y ∷ ys) k d zip lt = absurd zip
beside_at R (x ∷ xs) [] k d zip lt = absurd zip
beside_at R (x ∷ xs) (y ∷ ys) zero d zip lt = (x, refl, zip.0)
beside_at R (x ∷ xs) (y ∷ ys) (suc k) d zip lt = beside_at R xs ys k d zip.1 (omega (arith, lt))

-- ---- whose events they are
named_all : (w : ℕ) (es : List Event)
    → ((k : ℕ) (e : Event) → get_elem? es k ≡ maybe.some e → e.name < w) → AllNamed w es
named_all w [] each = tt
named_all w (e ∷ es) each = (each zero e refl, named_all w es (λ k. each (suc k)))

own_none : (w n : ℕ) (es : List Event) → AllNamed w es → w ≤ n → own n es ≡ []
own_none w n [] named le = refl
own_none w n (e ∷ es) (first, named) le = by (eqb e.name n) refl (own_none w n es named le)
  where
    by : (same : Bool) → eqb e.name n ≡ same → own n es ≡ [] → own n (e ∷ es) ≡ []
    by true is rest = absurd (let it = eqb-true e.name n is in omega (arith, it, first, le))
    by false is rest = ap (λ (z : Bool). cond z (e ∷ []) [] ++ own n es) is ∙ rest

-- the note is of an offer of this worker, with the penalty of the pass
abbrev IsOf : PassOf → ℕ → OfferNote → Type 0
IsOf p n note = (note.offer.worker ≡ n) × (note.offer.penalty ≡ p.penalty)

-- the event is of a worker of the pass, and so is its offer
abbrev IsOurs : PassOf → Event → Type 0
IsOurs p e = (e.name < p.workers) × All (IsOf p e.name) (note_of e.action)

abbrev AreOurs : PassOf → List Event → Type 0
AreOurs p [] = Unit {0}
AreOurs p (e ∷ es) = IsOurs p e × AreOurs p es

All-front : {X : Type 0} (P : X → Type 0) (xs ys : List X) → All P (xs ++ ys) → All P xs
All-front P [] ys all = All-nil P
All-front P (x ∷ xs) ys all =
    All-cons P x xs (All-head P x (xs ++ ys) all)
    (All-front P xs ys (λ k d lt. all (suc k) d (omega (arith, lt))))

All-behind : {X : Type 0} (P : X → Type 0) (xs ys : List X) → All P (xs ++ ys) → All P ys
All-behind P [] ys all = all
All-behind P (x ∷ xs) ys all = All-behind P xs ys (λ k d lt. all (suc k) d (omega (arith, lt)))

-- notes of the first event, and of those behind it
noted-cons : (n : ℕ) (e : Event) (es : List Event)
    → noted (own n (e ∷ es)) ≡ noted (cond (eqb e.name n) (e ∷ []) []) ++ noted (own n es)
noted-cons n e es = flat_map-append (λ (x : Event). note_of x.action) (cond (eqb e.name n) (e ∷ []) []) (own n es)

are_ours : (p : PassOf) (es : List Event) → AllNamed p.workers es
    → ((n : ℕ) → All (IsOf p n) (noted (own n es))) → AreOurs p es
are_ours p [] named each = tt
are_ours p (e ∷ es) (first, named) each =
    let parts : (n : ℕ) → All (IsOf p n) (noted (cond (eqb e.name n) (e ∷ []) []) ++ noted (own n es)) =
    λ n. subst (All (IsOf p n)) (noted-cons n e es) (each n) in
    let mine : All (IsOf p e.name) (note_of e.action) =
    subst (All (IsOf p e.name)) (ap (λ (z : Bool). noted (cond z (e ∷ []) [])) (eq-eqb e.name e.name refl)
    ∙ append-nil (note_of e.action))
    (All-front (IsOf p e.name) (noted (cond (eqb e.name e.name) (e ∷ []) [])) (noted (own e.name es))
    (parts e.name)) in (
      (first, mine),
      are_ours p es named
          (λ n. All-behind (IsOf p n) (noted (cond (eqb e.name n) (e ∷ []) [])) (noted (own n es)) (parts n)),
    )

-- ---- the entries of the pass
-- the entries behind those of b are joins of workers of the pass, and each worker noted its own
record AreTold (p : PassOf) (b : BoardOf) (es : List Event) (c : BoardOf) : Type 0 where
  entries : List Entry
  history : c.history ≡ b.history ++ entries
  joins : All (IsJoinOf p) entries
  commits : (n : ℕ) → commits_in (noted (own n es)) ≡ joins_by n (length b.history + 1) entries

-- an event without a commit changes nothing
skipped : (p : PassOf) (b m c : BoardOf) (e : Event) (es : List Event) → m ≡ b → commits_in (note_of e.action) ≡ []
    → AreTold p m es c → AreTold p b (e ∷ es) c
skipped p b m c e es same none rest =
    let r : AreTold p b es c = subst (λ (x : BoardOf). AreTold p x es c) same rest in
    record {
      entries = r.entries;
      history = r.history;
      joins = r.joins;
      commits = λ n. ap commits_in (noted-cons n e es)
          ∙ flat_map-append (λ (x : OfferNote). committed x.offer x.answer)
          (noted (cond (eqb e.name n) (e ∷ []) [])) (noted (own n es))
          ∙ ap (λ (xs : List (Offer × ℕ)). xs ++ commits_in (noted (own n es))) (by n (eqb e.name n))
          ∙ r.commits n;
    }
  where
    by : (n : ℕ) (z : Bool) → commits_in (noted (cond z (e ∷ []) [])) ≡ []
    by n true = ap commits_in (append-nil (note_of e.action)) ∙ none
    by n false = refl

-- a commit is a join of its worker
joined_on : (p : PassOf) (b m c : BoardOf) (name : ℕ) (o : Offer) (number : ℕ) (es : List Event)
    → Step b o (Committed number) m → IsOurs p (record { name = name; action = Offered o (Committed number) })
    → AreTold p m es c → AreTold p b (record { name = name; action = Offered o (Committed number) } ∷ es) c
joined_on p b m c name o number es step ours rest =
    let e : Event = record { name = name; action = Offered o (Committed number) } in
    let is = (All-head (IsOf p name) (record { offer = o; answer = Committed number }) [] ours.1) in
    let grown = ap (λ (x : BoardOf). x.history) step.3 in
    let count : length m.history ≡ number = ap length grown ∙ length-append b.history _ ∙ sym step.2 in
    let join : Entry = Join o _ _ in
    record {
      entries = join ∷ rest.entries;
      history = rest.history ∙ ap (λ (h : List Entry). h ++ rest.entries) grown
          ∙ append_assoc b.history (join ∷ []) rest.entries;
      joins = All-cons (IsJoinOf p) join rest.entries
          ((let w = is.0 in let l = ours.0 in omega (arith, w, l)), is.1) rest.joins;
      commits = λ n. ap commits_in (noted-cons n e es)
          ∙ flat_map-append (λ (x : OfferNote). committed x.offer x.answer)
          (noted (cond (eqb name n) (e ∷ []) [])) (noted (own n es))
          ∙ ap₂ (λ (xs ys : List (Offer × ℕ)). xs ++ ys)
          (by n (eqb name n) ∙ ap (λ (w : ℕ). cond (eqb w n) ((o, number) ∷ []) []) (sym is.0)
          ∙ ap (λ (k : ℕ). cond (eqb o.worker n) ((o, k) ∷ []) []) step.2)
          (rest.commits n ∙ ap (λ (k : ℕ). joins_by n (k + 1) rest.entries) (count ∙ step.2));
    }
  where
    by : (n : ℕ) (z : Bool) → commits_in (noted (cond z (record {
      name = name;
      action = Offered o (Committed number);
    } ∷ []) [])) ≡ cond z ((o, number) ∷ []) []
    by n true = refl
    by n false = refl

-- the events tell all entries of the pass
all_told : (p : PassOf) (b c : BoardOf) (es : List Event) → Reaches b es c → AreOurs p es → AreTold p b es c
all_told p b c [] same ours = record {
  entries = [];
  history = ap (λ (x : BoardOf). x.history) same ∙ sym (append-nil b.history);
  joins = All-nil (IsJoinOf p);
  commits = λ n. refl;
}
all_told p b c (e ∷ es) (m, did, more) (mine, ours) = by e.name e.action did mine (all_told p m c es more ours)
  where
    by : (name : ℕ) (d : Action) → Does b d m → IsOurs p (record { name = name; action = d }) → AreTold p m es c
        → AreTold p b (record { name = name; action = d } ∷ es) c
    by name Snapped did mine rest = skipped p b m c (record { name = name; action = Snapped }) es did refl rest
    by name NoMemory did mine rest = skipped p b m c (record { name = name; action = NoMemory }) es did refl rest
    by name (Offered o Full) did mine rest =
        skipped p b m c (record { name = name; action = Offered o Full }) es did.1 refl rest
    by name (Offered o (Malformed clause)) did mine rest =
        skipped p b m c (record { name = name; action = Offered o (Malformed clause) }) es did.2 refl rest
    by name (Offered o (Stale item commit)) did mine rest =
        skipped p b m c (record { name = name; action = Offered o (Stale item commit) }) es did.2 refl rest
    by name (Offered o (Wrong item commit)) did mine rest =
        skipped p b m c (record { name = name; action = Offered o (Wrong item commit) }) es did.2 refl rest
    by name (Offered o (Committed number)) did mine rest = joined_on p b m c name o number es did mine rest

module _ (p : PassOf) (t : TurnOf) (b : BoardOf) (passes : List turn.PassOf) (logs : List WorkerLog)
    (ended : Ended t passes b) (logs_of : AreLogsOf p t passes logs) (count : length logs ≡ p.workers) where
  abbrev old : BoardOf
  old = opening t

  -- each event has the name of a worker
  all_named : AllNamed p.workers ended.events
  all_named = named_all p.workers ended.events (λ k e there.
      let c = ended.called k e there in
      let l = beside (IsLogOf p t) passes logs c.0 c.1 logs_of.logs_are c.2 in
      let below = l.1.knows.below in
      let same = c.3 in
      omega (arith, below, same))

  -- the notes of each name are of offers of that worker
  all_of : (n : ℕ) → All (IsOf p n) (noted (own n ended.events))
  all_of n = elim (cases_lt n p.workers) [
    | inr out ↦ subst (λ (es : List Event). All (IsOf p n) (noted es))
        (sym (own_none p.workers n ended.events all_named (omega (arith, out)))) (All-nil (IsOf p n))
    | inl below ↦
        let none : WorkerLog = record { worker = 0; tasks = []; notes = [] } in
        let within : n < length logs = omega (arith, below, count) in
        let l = beside_at (IsLogOf p t) passes logs n none logs_of.logs_are within in
        let name : l.0.name ≡ n = sym l.2.worker_is ∙ logs_of.numbered n none within in
        let k = l.2.knows in
        let notes : All (IsOf p l.0.name) (noted (own l.0.name ended.events)) =
        subst (All (IsOf p l.0.name)) (k.notes_are ∙ ap noted (sym (ended.each n l.0 l.1).1))
        (All-weaker (IsTold p old k.board l.0.name (get_or logs n none).tasks) (IsOf p l.0.name)
        (λ note told. (told.worker_is, told.penalty_is)) (get_or logs n none).notes k.told) in
        subst (λ (m : ℕ). All (IsOf p m) (noted (own m ended.events))) name notes
  ]

  told : AreTold p old ended.events b
  told = all_told p old b ended.events ended.legal (are_ours p ended.events all_named all_of)

  -- the board grew by joins of the workers
  pub grown : Grows p old b
  grown =
      let grows = reaches_grows old b ended.events ended.legal in
      record {
        design = grows.design_stays;
        start = grows.start_stays;
        cap = grows.cap_stays;
        entries = told.entries;
        history = told.history;
        joins = told.joins;
      }

  -- the end is a later board than the last that a pass has seen
  end_grows : (j : ℕ) (q : turn.PassOf) (drawn : List ℕ) (notes : List OfferNote)
      → get_elem? passes j ≡ maybe.some q → (k : Knows p t q drawn notes) → board.Grows k.board b
  end_grows j q drawn notes there k =
      let front = (ended.each j q there).0 in
      let parts = reaches_parts old b q.seen front.0
      (subst (λ (es : List Event). Reaches old es b) front.1 ended.legal) in
      subst (λ (x : BoardOf). board.Grows x b) (reaches_one old k.board parts.0 q.seen k.reached parts.1)
      (reaches_grows parts.0 b front.0 parts.2)

  dropped : drop (length old.history) b.history ≡ told.entries
  dropped = ap (drop (length old.history)) told.history ∙ drop-all old.history told.entries
    where
      drop-all : (xs ys : List Entry) → drop (length xs) (xs ++ ys) ≡ ys
      drop-all [] ys = refl
      drop-all (x ∷ xs) ys = drop-all xs ys

  abbrev IsEndedLog : turn.PassOf → WorkerLog → Type 0
  IsEndedLog q log = IsLogOf p t q log × EndsDrawn p t q log.tasks log.notes

  -- a log of a worker whose tasks ended
  is_log : (j : ℕ) (q : turn.PassOf) (log : WorkerLog) → get_elem? passes j ≡ maybe.some q → IsEndedLog q log
      → IsLog p old b log
  is_log j q log there (l, ends) =
      let k = l.knows in
      let grows = end_grows j q log.tasks log.notes there k in
      record {
        worker_below = (let below = k.below in let is = l.worker_is in omega (arith, below, is));
        ascends = l.ascends;
        commits = ap commits_in (k.notes_are ∙ ap noted (sym (ended.each j q there).1)) ∙ told.commits q.name
            ∙ ap₂ (λ (n : ℕ) (es : List Entry). joins_by n (length old.history + 1) es) (sym l.worker_is)
            (sym dropped);
        told = subst (λ (n : ℕ). All (IsTold p old b n log.tasks) log.notes) (sym l.worker_is)
            (All-weaker (IsTold p old k.board q.name log.tasks) (IsTold p old b q.name log.tasks)
            (λ note. told_later p old k.board b q.name log.tasks note grows) log.notes k.told);
        fresh = k.fresh;
        ended = All-weaker (λ place. IfSome (slice_get p.tasks place) (EndsSeen p t q log.notes))
            (EndsPlace p old b log.notes) (λ place. on (slice_get p.tasks place)) log.tasks ends;
      }
    where
      on : (o : Option ℕ) → IfSome o (EndsSeen p t q log.notes) → IfSome o (EndsTask p old b log.notes)
      on None e = e
      on (Some net) e = subst (λ (xs : List OfferNote). EndsTask p old b xs net) (append-nil log.notes)
          (ends_later p old l.knows.board b log.notes [] net (end_grows j q log.tasks log.notes there l.knows)
          (e l.knows.board l.knows.reached))

  -- where all tasks ended, the whole pass
  pub all_passed : AreEnded p t passes logs → ((x : ℕ) → claimed x logs ≡ once_below x (length p.tasks))
      → IsPassed p old b logs
  all_passed ends once = record {
    grows = grown;
    count = count;
    numbered = logs_of.numbered;
    events = ended.events;
    answered = ended.legal;
    notes_are = by_pairs (IsLogOf p t) (λ (log : WorkerLog). log.notes ≡ noted (own log.worker ended.events)) passes
        logs
        (λ j q log there l. l.knows.notes_are ∙ ap noted (sym (ended.each j q there).1)
        ∙ ap (λ (n : ℕ). noted (own n ended.events)) (sym l.worker_is)) logs_of.logs_are;
    once = once;
    logs_are = by_pairs IsEndedLog (IsLog p old b) passes logs is_log
        (both_zip (IsLogOf p t) (λ (q : turn.PassOf) (log : WorkerLog). EndsDrawn p t q log.tasks log.notes) passes
        logs logs_of.logs_are ends);
    spent = by_pairs (IsLogOf p t)
        (λ (log : WorkerLog). All (λ (n : OfferNote). IsFullAnswer n.answer → IsSpent b) log.notes) passes logs
        (λ j q log there l. λ i d lt full. spent_later l.knows.board b
        (end_grows j q log.tasks log.notes there l.knows) (l.knows.spent i d lt full)) logs_of.logs_are;
    prompt = λ only. by_pairs (IsLogOf p t)
        (λ (log : WorkerLog). All (λ (n : OfferNote). ¬ (IsStale n.answer)) log.notes) passes logs
        (λ j q log there l. l.knows.prompt only) logs_of.logs_are;
  }
