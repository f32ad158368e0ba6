-- From what a pass tells to how each net was worked off, for any number of workers.
use Rattle.std.proofs.Common.{◌≡◌, ◌∙◌, ◌+◌, ◌≤◌, ◌<◌, ℕ, Bool, true, false, cond, zero, suc, refl, sym, ap, subst}
use Rattle.std.proofs.Common.{arith, List, [], ◌∷◌, length, Option, Some, inl, inr, All, Contains, true≢false}
use Rattle.std.specs.Prelude.{AllPairs, IfSome, IsTrue, eqb, not, slice_get}
use Rattle.std.proofs.lemmas.Bool.{cases_lt, eqb-true, lt-ltb}
use Rattle.std.proofs.lemmas.List.Elements.{All-contains, All-head, All-tail}
use Rattle.std.proofs.lemmas.Option.{slice_get-get_or}
use Rattle.board_offers.specs.declared.offer.Offer.{Offer}
use Rattle.board_offers.proofs.Lists.{in_here, in_later}
use Rattle.pcb_board.specs.declared.answer.Entry.TheVariants.{Join}
use Rattle.pcb_board.specs.declared.answer.Answer.{Answer}
use Rattle.pcb_board.specs.declared.answer.Answer.TheVariants.{Committed, Stale, Wrong, Malformed, Full}
use Rattle.pcb_board.specs.Boards.{BoardOf, board_at}
use Rattle.pcb_board.specs.Keeping.{IsBoard}
use Rattle.pcb_board.specs.Keeping.{Grows as Later}
use Rattle.pcb_board.specs.Answers.{Step}
use Rattle.pcb_board.proofs.Prefix.{board_before, board_whole}
use Rattle.least_offer.specs.Least.{IsLeastOffer}
use Rattle.board_turn.specs.Claims.{one_if, times}
use Rattle.searcher_pool.specs.declared.log.OfferNote.{OfferNote}
use Rattle.searcher_pool.specs.declared.log.WorkerLog.{WorkerLog}
use Rattle.searcher_pool.specs.Passes.{AreAmong, EndsPlace, EndsTask, IsFullAnswer, IsLog, IsPassed, IsSpent, IsStale}
use Rattle.searcher_pool.specs.Passes.{IsStaleOf, IsTold, MetFull, PassOf, claimed, named}
use Rattle.route_run.specs.declared.connections.OpenNets.{OpenNets}
use Rattle.route_run.specs.declared.facts.PassLine.{PassLine}
use Rattle.closing_pass.specs.OpenCount.{IsOpenCount}
use Rattle.route_run.specs.Runs.{AreTooLate, IsTooLate, IsWorkedOff}
use Rattle.route_run.specs.inner.Passing.{AreOpenNets, AreOpenOn, AreWorkedOff, IsMade}
use Rattle.route_run.proofs.Counting.{open_count}

-- ---- places in logs
-- what is there some times is there
drawn_there : (x : ℕ) (ys : List ℕ) → 0 < times x ys → Contains ys x
drawn_there x [] some = absurd (omega (arith, some))
drawn_there x (y ∷ ys) some = by (eqb y x) refl (drawn_there x ys)
  where
    by : (b : Bool) → eqb y x ≡ b → (0 < times x ys → Contains ys x) → Contains (y ∷ ys) x
    by true e later = subst (λ z. Contains (y ∷ ys) z) (eqb-true y x e) (in_here y ys)
    by false e later = in_later y x ys
        (later (let m : 1 ≤ cond false 1 0 + times x ys = rw e at some in omega (arith, m)))

-- a log that has the place
record HasPlace (place : ℕ) (logs : List WorkerLog) : Type 0 where
  log : WorkerLog
  there : Contains logs log
  has : Contains log.tasks place

log_of : (place : ℕ) (logs : List WorkerLog) → 0 < claimed place logs → HasPlace place logs
log_of place [] some = absurd (omega (arith, some))
log_of place (log ∷ logs) some = by (times place log.tasks) refl (log_of place logs)
  where
    by : (n : ℕ) → times place log.tasks ≡ n → (0 < claimed place logs → HasPlace place logs)
        → HasPlace place (log ∷ logs)
    by zero e later =
        let h = later (omega (arith, some, e)) in
        record { log = h.log; there = in_later log h.log logs h.there; has = h.has }
    by (suc n) e later =
        record { log = log; there = in_here log logs; has = drawn_there place log.tasks (omega (arith, e)) }

-- ---- offers that came too late
abbrev Fresh : OfferNote → OfferNote → Type 0
Fresh a b = named a.answer ≤ b.offer.base

abbrev From : ℕ → OfferNote → Type 0
From floor n = floor ≤ n.offer.base

module _ (p : PassOf) (old new : BoardOf) (worker : ℕ) (few : worker < p.workers) (drawn : List ℕ) (net : ℕ) where
  abbrev Told : OfferNote → Type 0
  Told = IsTold p old new worker drawn

  record Late (floor : ℕ) (tries : List OfferNote) : Type 0 where
    entries : List ℕ
    all : length entries ≡ length tries
    each : AreTooLate p.lattice p.via_cost p.workers p.penalty new (length new.history) net floor entries

  -- an offer came too late for the commit that its note names
  too_late : (floor : ℕ) (n : OfferNote) (a : Answer) → n.answer ≡ a → IsStale a → n.offer.net ≡ net → Told n
      → floor ≤ n.offer.base
      → IsTooLate p.lattice p.via_cost p.workers p.penalty new (length new.history) net floor (named a)
  too_late floor n (Stale item commit) is stale net_is told from =
      let step : Step (board_at new told.at) n.offer (Stale item commit) told.next =
      subst (λ (a : Answer). Step (board_at new told.at) n.offer a told.next) is told.answered in
      record {
        offer = n.offer;
        worker_is = (let is = told.worker_is in omega (arith, is, few));
        net_is = net_is;
        penalty_is = told.penalty_is;
        least = told.least;
        after_last = from;
        before_entry = step.1;
        at = told.at;
        late = told.late;
        early = told.early;
        item = item;
        next = told.next;
        answered = step;
      }
  too_late floor n (Committed number) is stale net_is told from = absurd stale
  too_late floor n (Wrong item commit) is stale net_is told from = absurd stale
  too_late floor n (Malformed clause) is stale net_is told from = absurd stale
  too_late floor n Full is stale net_is told from = absurd stale

  -- so do several, each resting on a board after the commit before
  all_late : (floor : ℕ) (tries notes : List OfferNote) → All (From floor) notes → All Told notes
      → AllPairs Fresh notes → All (IsStaleOf net) tries → AreAmong tries notes → Late floor tries
  all_late floor [] notes from told fresh stale among = record { entries = []; all = refl; each = tt }
  all_late floor (x ∷ xs) [] from told fresh stale among = absurd among
  all_late floor (x ∷ xs) (y ∷ ys) from told fresh stale (inr later) =
      all_late floor (x ∷ xs) ys (All-tail (From floor) y ys from) (All-tail Told y ys told)
      (λ i j d lt within. fresh (suc i) (suc j) d (omega (arith, lt)) (omega (arith, within))) stale later
  all_late floor (x ∷ xs) (y ∷ ys) from told fresh stale (inl here) =
      let mine : IsStaleOf net y = subst (IsStaleOf net) here.0 (All-head (IsStaleOf net) x xs stale) in
      let after : All (From (named y.answer)) ys = λ k d lt. fresh zero (suc k) d (omega arith) (omega (arith, lt)) in
      let rest = all_late (named y.answer) xs ys after (All-tail Told y ys told)
      (λ i j d lt within. fresh (suc i) (suc j) d (omega (arith, lt)) (omega (arith, within)))
      (All-tail (IsStaleOf net) x xs stale) here.1 in
      record {
        entries = named y.answer ∷ rest.entries;
        all = ap suc rest.all;
        each = (
          too_late floor y y.answer refl mine.1 mine.0 (All-head Told y ys told) (All-head (From floor) y ys from),
          rest.each,
        );
      }

abbrev IsPrompt : OfferNote → Type 0
IsPrompt n = ¬ (IsStale n.answer)

-- where no answer is that an offer came too late, no eight are
none_stale : (net : ℕ) (tries notes : List OfferNote) → length tries ≡ 8 → AreAmong tries notes
    → All (IsStaleOf net) tries → All IsPrompt notes → ⊥
none_stale net [] notes eight among stale prompt = absurd (omega (arith, eight))
none_stale net (x ∷ xs) [] eight among stale prompt = absurd among
none_stale net (x ∷ xs) (y ∷ ys) eight (inl here) stale prompt =
    All-head IsPrompt y ys prompt (subst (IsStaleOf net) here.0 (All-head (IsStaleOf net) x xs stale)).1
none_stale net (x ∷ xs) (y ∷ ys) eight (inr later) stale prompt =
    none_stale net (x ∷ xs) ys eight later stale (All-tail IsPrompt y ys prompt)

-- ---- tasks
abbrev SpentBy : BoardOf → OfferNote → Type 0
SpentBy new n = IsFullAnswer n.answer → IsSpent new

-- each net of a task was worked off
pub worked_off : (p : PassOf) (old new : BoardOf) (logs : List WorkerLog) → 0 < p.workers → IsBoard new
    → IsPassed p old new logs → (place net : ℕ) → slice_get p.tasks place ≡ Some net → place < length p.tasks
    → IsWorkedOff p new (length old.history) (length new.history) net
worked_off p old new logs some kept passed place net is within =
    let h = log_of place logs
    (let e = passed.once place ∙ ap one_if (lt-ltb place (length p.tasks) within) in omega (arith, e)) in
    let log = All-contains (IsLog p old new) logs h.log passed.logs_are h.there in
    let ended : EndsTask p old new h.log.notes net =
    subst (λ (o : Option ℕ). IfSome o (EndsTask p old new h.log.notes)) is
    (All-contains (EndsPlace p old new h.log.notes) h.log.tasks place log.ended h.has) in
    by h log ended
  where
    by : (h : HasPlace place logs) → IsLog p old new h.log → EndsTask p old new h.log.notes net
        → IsWorkedOff p new (length old.history) (length new.history) net
    by h log (inl whole) = inl whole
    by h log (inr (inl shut)) = inr (inl shut)
    by h log (inr (inr (inr full))) =
        let notes : All (SpentBy new) h.log.notes =
        All-contains (λ (l : WorkerLog). All (SpentBy new) l.notes) logs h.log passed.spent h.there in
        let spent : IsSpent new = All-contains (SpentBy new) h.log.notes full.note notes full.there full.full in
        inr (inr (inl (subst IsSpent (sym (board_whole new kept)) spent)))
    by h log (inr (inr (inl stales))) = elim (cases_lt 1 p.workers) [
      | inl several ↦
          let l = all_late p old new h.log.worker log.worker_below h.log.tasks net (length old.history) stales.tries
          h.log.notes
          (λ k d lt. (log.told k d lt).begun) log.told log.fresh stales.stale stales.among in
          inr (inr (inr (record {
            several_workers = several;
            entries = l.entries;
            eight = l.all ∙ stales.eight;
            each = l.each;
          })))
      | inr one ↦ absurd
          (none_stale net stales.tries h.log.notes stales.eight stales.among stales.stale
          (All-contains (λ (l : WorkerLog). All IsPrompt l.notes) logs h.log
          (passed.prompt (omega (arith, one, some))) h.there))
    ]

-- one is true and the other isn't
never_both : (b : Bool) → IsTrue b → IsTrue (not b) → ⊥
never_both true t n = true≢false (sym n)
never_both false t n = true≢false (sym t)

-- the boards of a pass are those after the entries that stood before it, and after its own
at_ends : (p : PassOf) (old new : BoardOf) (logs : List WorkerLog) → IsBoard old → IsBoard new → IsPassed p old new logs
    → IsPassed p (board_at new (length old.history)) (board_at new (length new.history)) logs
at_ends p old new logs before kept passed =
    let grows : Later old new = record {
      design_stays = passed.grows.design;
      start_stays = passed.grows.start;
      cap_stays = passed.grows.cap;
      entries = passed.grows.entries;
      history_is = passed.grows.history;
    } in
    let first : board_at new (length old.history) ≡ old =
    board_before old new (length old.history) grows (omega arith) ∙ board_whole old before in
    subst (λ (b : BoardOf). IsPassed p b (board_at new (length new.history)) logs) (sym first)
    (subst (λ (b : BoardOf). IsPassed p old b logs) (sym (board_whole new kept)) passed)

-- a pass over all nets with several islands
pub worked_from : (p : PassOf) (old new : BoardOf) (full : Bool) (logs : List WorkerLog) (count : ℕ) → 0 < p.workers
    → IsBoard old → IsBoard new → IsPassed p old new logs
    → ((n : ℕ) (o : Offer) (first after : ℕ) → length old.history ≤ n
    → slice_get new.history n ≡ Some (Join o first after)
    → (o.base ≤ n) × IsLeastOffer p.lattice p.via_cost (board_at new o.base) o)
    → AreOpenNets old.design old.items (length old.design.nets) p.tasks count → (IsTrue full → IsSpent new)
    → (MetFull logs → IsTrue full) → AreWorkedOff (record p { tasks = [] }) old new full
worked_from p old new full logs count some before kept passed least open_nets spent met = record {
  grows = record {
    design = passed.grows.design;
    start = passed.grows.start;
    cap = passed.grows.cap;
    entries = passed.grows.entries;
    history = passed.grows.history;
    joins = passed.grows.joins;
  };
  board = kept;
  worked = λ net lt several.
      let task = open_nets.all net lt several in
      worked_off p old new logs some kept passed task.0 net
      (slice_get-get_or p.tasks task.0 net task.1 ∙ ap (λ (x : ℕ). Some x) task.2) task.1;
  least = least;
  spent = spent;
  room = λ other. record {
    tasks = p.tasks;
    logs = logs;
    passed = at_ends p old new logs before kept passed;
    room = λ is. never_both full (met is) other;
  };
}

-- with its line that is a pass that was made
pub made_from : (p : PassOf) (old new : BoardOf) (full : Bool) (line : PassLine) (nets : OpenNets)
    → AreWorkedOff p old new full → length old.history + line.commits ≡ length new.history → AreOpenOn new nets
    → line.parted ≡ nets.count → IsMade p old new line full
made_from p old new full line nets are commits is parted = record {
  nets = are;
  commits = commits;
  leaves = subst (IsOpenCount new.design new.items) (sym parted) (open_count new.design new.items _ _ is.are);
}
