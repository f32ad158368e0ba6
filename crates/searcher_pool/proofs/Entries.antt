-- What follows of a pass: each of its entries was told by its worker.
use Rattle.std.proofs.Common.{Bool, cond, ◌≡◌, ◌∙◌, ◌+◌, ◌≤◌, ◌<◌, ℕ, zero, suc, refl, sym, ap}
use Rattle.std.proofs.Common.{subst, arith, List, [], ◌∷◌, ◌++◌, length, take, drop, get_or, Some, inl}
use Rattle.std.proofs.Common.{inr, All}
use Rattle.std.specs.Prelude.{Contains, slice_get}
use Rattle.std.proofs.lemmas.List.{length-take-le}
use Rattle.std.proofs.lemmas.List.Elements.{All-contains, Contains-append_cases, Contains-append_left}
use Rattle.std.proofs.lemmas.List.Elements.{Contains-append_right}
use Rattle.std.proofs.lemmas.Bool.{eq-eqb}
use Rattle.std.proofs.lemmas.Option.{none-some, same_Some, slice_get_within}
use Rattle.board_offers.specs.declared.offer.Offer.{Offer}
use Rattle.board_offers.proofs.Lists.{in_from, look_cases}
use Rattle.pcb_board.specs.declared.answer.Entry.{Entry}
use Rattle.pcb_board.specs.declared.answer.Entry.TheVariants.{Join}
use Rattle.pcb_board.specs.declared.answer.Answer.{Answer}
use Rattle.pcb_board.specs.declared.answer.Answer.TheVariants.{Committed, Stale, Wrong, Malformed, Full}
use Rattle.pcb_board.specs.Boards.{BoardOf, board_at}
use Rattle.pcb_board.specs.Answers.{Step}
use Rattle.least_offer.specs.Least.{IsLeastOffer}
use Rattle.searcher_pool.specs.declared.log.OfferNote.{OfferNote}
use Rattle.searcher_pool.specs.declared.log.WorkerLog.{WorkerLog}
use Rattle.searcher_pool.specs.Passes.{PassOf, IsPassed, IsLog, IsTold, IsJoinOf, IsFullAnswer, IsSpent, MetFull}
use Rattle.searcher_pool.specs.Passes.{commits_in, committed, join_by, joins_by}

-- a list without this element
lone : {X : Type 0} (x y : X) → Contains (x ∷ []) y → x ≡ y
lone x y (zero, within, is) = is
lone x y (suc k, within, is) = absurd (omega (arith, within))

empty : {X : Type 0} (y : X) → Contains [] y → ⊥
empty y (k, within, is) = absurd (omega (arith, within))

-- a join of the worker stands among its joins, with its number
join_there : (worker number : ℕ) (entries : List Entry) (j : ℕ) (o : Offer) (first after : ℕ)
    → slice_get entries j ≡ Some (Join o first after) → o.worker ≡ worker
    → Contains (joins_by worker number entries) (o, number + j)
join_there worker number [] j o first after there is = absurd (none-some (Join o first after) there)
join_there worker number (e ∷ entries) zero o first after there is =
    let mine : join_by worker number (Join o first after) ≡ (o, number) ∷ [] =
    ap (λ (b : Bool). cond b ((o, number) ∷ []) []) (eq-eqb o.worker worker is) in
    let it : join_by worker number e ≡ (o, number + 0) ∷ [] = ap (join_by worker number)
    (same_Some e (Join o first after) there) ∙ (mine ∙ ap (λ (n : ℕ). (o, n) ∷ []) (omega arith)) in
    Contains-append_left (join_by worker number e) (joins_by worker (number + 1) entries) (o, number + 0)
    (subst (λ (xs : List (Offer × ℕ)). Contains xs (o, number + 0)) (sym it) (0, omega arith, refl))
join_there worker number (e ∷ entries) (suc j) o first after there is =
    let later : number + 1 + j ≡ number + suc j = omega arith in
    Contains-append_right (join_by worker number e) (joins_by worker (number + 1) entries) (o, number + suc j)
    (subst (λ (n : ℕ). Contains (joins_by worker (number + 1) entries) (o, n)) later (join_there worker (number + 1)
    entries j o first after there is))

-- a note that the offer was committed with this number
record IsNoted (notes : List OfferNote) (o : Offer) (number : ℕ) : Type 0 where
  note : OfferNote
  there : Contains notes note
  offer_is : note.offer ≡ o
  answer_is : note.answer ≡ Committed number

-- what is committed by one answer
by_answer : (note : OfferNote) (a : Answer) → note.answer ≡ a → (o : Offer) (number : ℕ)
    → Contains (committed note.offer a) (o, number) → (note.offer ≡ o) × (note.answer ≡ Committed number)
by_answer note (Committed n) is o number h =
    let same = lone (note.offer, n) (o, number) h in
    (ap (λ (p : Offer × ℕ). p.0) same, is ∙ ap (λ (p : Offer × ℕ). Committed p.1) same)
by_answer note (Stale item commit) is o number h = absurd (empty (o, number) h)
by_answer note (Wrong item commit) is o number h = absurd (empty (o, number) h)
by_answer note (Malformed clause) is o number h = absurd (empty (o, number) h)
by_answer note Full is o number h = absurd (empty (o, number) h)

-- each commit has its note
noted : (notes : List OfferNote) (o : Offer) (number : ℕ) → Contains (commits_in notes) (o, number)
    → IsNoted notes o number
noted [] o number h = absurd (empty (o, number) h)
noted (note ∷ notes) o number h = elim (Contains-append_cases (committed note.offer note.answer) (commits_in notes)
    (o, number) h) [
      | inl here ↦
          let is = by_answer note note.answer refl o number here in
          record { note = note; there = (0, omega arith, refl); offer_is = is.0; answer_is = is.1 }
      | inr later ↦
          let rest = noted notes o number later in
          record {
            note = rest.note;
            there = Contains-append_right (note ∷ []) notes rest.note rest.there;
            offer_is = rest.offer_is;
            answer_is = rest.answer_is;
          }
    ]

-- a note of a commit is told at the entry before it
told_least : (p : PassOf) (old new : BoardOf) (worker n : ℕ) (drawn : List ℕ) (note : OfferNote) (a : Answer)
    → note.answer ≡ a → a ≡ Committed (n + 1) → IsTold p old new worker drawn note
    → (note.offer.base ≤ n) × IsLeastOffer p.lattice p.via_cost (board_at new note.offer.base) note.offer
told_least p old new worker n drawn note a is committed_it told =
    let step : Step (board_at new told.at) note.offer (Committed (n + 1)) told.next =
    subst (λ (x : Answer). Step (board_at new told.at) note.offer x told.next) (is ∙ committed_it) told.answered in
    let number : n + 1 ≡ length (take told.at new.history) + 1 = step.2 in
    let long : length (take told.at new.history) ≡ told.at = length-take-le told.at new.history told.early in
    (omega (arith, number, long, told.late), told.least)

-- each entry of a pass is a least offer on the board after its base
pub entry_least : (p : PassOf) (old new : BoardOf) (logs : List WorkerLog) → IsPassed p old new logs
    → (n : ℕ) (o : Offer) (first after : ℕ) → length old.history ≤ n
    → slice_get new.history n ≡ Some (Join o first after) → (o.base ≤ n) × IsLeastOffer p.lattice p.via_cost
    (board_at new o.base) o
entry_least p old new logs passed n o first after late there =
    let entries = passed.grows.entries in
    let on_both : slice_get (old.history ++ entries) n ≡ Some (Join o first after) = ap (λ (h : List Entry). slice_get h
    n) (sym passed.grows.history) ∙ there in
    elim (look_cases old.history entries n (Join o first after) on_both) [
      | inl early ↦ absurd (let within = slice_get_within old.history n (Join o first after) early in
          omega (arith, within, late))
      | inr new_one ↦
          let join : IsJoinOf p (Join o first after) = All-contains (IsJoinOf p) entries (Join o first after)
          passed.grows.joins (in_from entries new_one.place (Join o first after) new_one.there) in
          let within : o.worker < length logs = omega (arith, join.0, passed.count) in
          let none : WorkerLog = record { worker = 0; tasks = []; notes = [] } in
          let log : WorkerLog = get_or logs o.worker none in
          let is_log : IsLog p old new log = passed.logs_are o.worker none within in
          let worker_is : log.worker ≡ o.worker = passed.numbered o.worker none within in
          let dropped : drop (length old.history) new.history ≡ entries = ap (drop (length old.history))
          passed.grows.history ∙ drop-all old.history entries in
          let among : Contains (joins_by log.worker (length old.history + 1) entries)
          (o, length old.history + 1 + new_one.place) =
          join_there log.worker (length old.history + 1) entries new_one.place o first after new_one.there
          (sym worker_is) in
          let number : length old.history + 1 + new_one.place ≡ n + 1 = omega (arith, new_one.place_is) in
          let commit : Contains (commits_in log.notes) (o, n + 1) =
          subst (λ (xs : List (Offer × ℕ)). Contains xs (o, n + 1)) (sym (is_log.commits
          ∙ ap (joins_by log.worker (length old.history + 1)) dropped))
          (subst (λ (k : ℕ). Contains (joins_by log.worker (length old.history + 1) entries) (o, k)) number among) in
          let found = noted log.notes o (n + 1) commit in
          let told : IsTold p old new log.worker log.tasks found.note = All-contains (IsTold p old new log.worker
          log.tasks) log.notes found.note is_log.told found.there in
          subst (λ (x : Offer). (x.base ≤ n) × IsLeastOffer p.lattice p.via_cost (board_at new x.base) x) found.offer_is
          (told_least p old new log.worker n log.tasks found.note found.note.answer refl found.answer_is told)
    ]
  where
    drop-all : (xs ys : List Entry) → drop (length xs) (xs ++ ys) ≡ ys
    drop-all [] ys = refl
    drop-all (x ∷ xs) ys = drop-all xs ys

-- where some offer met a full board it is full
pub full_spent : (p : PassOf) (old new : BoardOf) (logs : List WorkerLog) → IsPassed p old new logs → MetFull logs
    → IsSpent new
full_spent p old new logs passed met =
    let log : WorkerLog = met.1 in
    let full = met.4 in
    let each : All (λ (n : OfferNote). IsFullAnswer n.answer → IsSpent new) log.notes =
    subst (λ (l : WorkerLog). All (λ (n : OfferNote). IsFullAnswer n.answer → IsSpent new) l.notes) met.3
    (passed.spent met.0 log met.2) in
    subst (λ (n : OfferNote). IsFullAnswer n.answer → IsSpent new) full.3 (each full.0 full.1 full.2) full.4
