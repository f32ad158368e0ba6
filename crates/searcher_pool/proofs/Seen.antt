-- What events tell of the boards that they lead to.
use Rattle.std.proofs.Common.{◌≡◌, ◌∙◌, ◌+◌, ◌≤◌, ℕ, cond}
use Rattle.std.proofs.Common.{ap, arith, List, [], ◌∷◌, ◌++◌, length}
use Rattle.std.specs.Prelude.{sum_by}
use Rattle.std.proofs.lemmas.List.{append-nil, append_assoc, length-append}
use Rattle.std.proofs.lemmas.List.Sums.{fold-append, sum_by-cons}
use Rattle.board_offers.specs.declared.offer.Offer.{Offer}
use Rattle.pcb_board.specs.declared.answer.Answer.{Answer}
use Rattle.pcb_board.specs.declared.answer.Answer.TheVariants.{Committed, Stale, Wrong, Malformed, Full}
use Rattle.board_offers.specs.Items.{new_items}
use Rattle.pcb_board.specs.declared.answer.Entry.{Entry}
use Rattle.pcb_board.specs.declared.answer.Entry.TheVariants.{Join}
use Rattle.pcb_board.specs.Boards.{BoardOf, board_at, given, is_of_worker, worker_entries}
use Rattle.pcb_board.specs.Answers.{Step}
use Rattle.pcb_board.specs.Keeping.{IsBoard, Grows}
use Rattle.pcb_board.proofs.Prefix.{board_before, board_whole}
use Rattle.board_turn.specs.declared.event.Action.{Action}
use Rattle.board_turn.specs.declared.event.Action.TheVariants.{Snapped, Offered, NoMemory}
use Rattle.board_turn.specs.declared.event.Event.{Event}
use Rattle.board_turn.specs.Events.{Does, Reaches}
use Rattle.searcher_pool.specs.Passes.{IsSpent}
use Rattle.searcher_pool.specs.inner.Working.{commit_of}

-- ---- later boards
pub longer : (b c : BoardOf) → Grows b c → length b.history ≤ length c.history
longer b c grows =
    let n = ap length grows.history_is ∙ length-append b.history grows.entries in
    omega (arith, n)

-- the board after as many entries as an earlier one has is that one
pub earlier_board : (b c : BoardOf) → IsBoard b → Grows b c → board_at c (length b.history) ≡ b
earlier_board b c kept grows = board_before b c (length b.history) grows (omega arith) ∙ board_whole b kept

workers_stay : (xs ys : List Entry) → worker_entries xs ≤ worker_entries (xs ++ ys)
workers_stay xs [] = let same = ap worker_entries (append-nil xs) in omega (arith, same)
workers_stay xs (y ∷ ys) =
    let next = workers_stay (xs ++ y ∷ []) ys in
    let same = ap worker_entries (append_assoc xs (y ∷ []) ys) in
    let one = one_entry xs y in
    omega (arith, next, same, one)
  where
    one_entry : (xs : List Entry) (e : Entry) → worker_entries xs ≤ worker_entries (xs ++ e ∷ [])
    one_entry xs e =
        let same = fold-append (λ (n : ℕ) (x : Entry). n + cond (is_of_worker x) 1 0) 0 xs (e ∷ []) in
        omega (arith, same)

-- a board that takes no more entries of workers takes none later
pub spent_later : (b c : BoardOf) → Grows b c → IsSpent b → IsSpent c
spent_later b c grows spent =
    let cap = grows.cap_stays in
    let same = ap worker_entries grows.history_is in
    let more = workers_stay b.history grows.entries in
    omega (arith, cap, same, more, spent)

-- ---- commits of workers among events
-- the entry of an offer that is committed
abbrev pub join_entry : BoardOf → Offer → Entry
join_entry b o = Join o (length (given b)) (length (given b) + length (new_items b.design (given b) o))

-- one entry more is of a worker or not
pub workers_more : (entries : List Entry) (e : Entry)
    → worker_entries (entries ++ e ∷ []) ≡ worker_entries entries + cond (is_of_worker e) 1 0
workers_more entries e = fold-append (λ (n : ℕ) (x : Entry). n + cond (is_of_worker x) 1 0) 0 entries (e ∷ [])

by_answer : (b c : BoardOf) (o : Offer) (a : Answer) → Step b o a c
    → worker_entries c.history ≡ worker_entries b.history + commit_of (Offered o a)
by_answer b c o Full h = ap (λ (x : BoardOf). worker_entries x.history) h.1 ∙ omega arith
by_answer b c o (Malformed clause) h = ap (λ (x : BoardOf). worker_entries x.history) h.2 ∙ omega arith
by_answer b c o (Stale item commit) h = ap (λ (x : BoardOf). worker_entries x.history) h.2 ∙ omega arith
by_answer b c o (Wrong item commit) h = ap (λ (x : BoardOf). worker_entries x.history) h.2 ∙ omega arith
by_answer b c o (Committed number) h =
    ap (λ (x : BoardOf). worker_entries x.history) h.3 ∙ workers_more b.history (join_entry b o)

by_action : (b c : BoardOf) (d : Action) → Does b d c
    → worker_entries c.history ≡ worker_entries b.history + commit_of d
by_action b c Snapped h = ap (λ (x : BoardOf). worker_entries x.history) h ∙ omega arith
by_action b c (Offered o a) h = by_answer b c o a h
by_action b c NoMemory h = ap (λ (x : BoardOf). worker_entries x.history) h ∙ omega arith

abbrev pub commits : List Event → ℕ
commits es = sum_by (λ (e : Event). commit_of e.action) es

-- the entries of workers are those that stood and the commits
pub workers_after : (b c : BoardOf) (es : List Event) → Reaches b es c
    → worker_entries c.history ≡ worker_entries b.history + commits es
workers_after b c [] h = ap (λ (x : BoardOf). worker_entries x.history) h ∙ omega arith
workers_after b c (e ∷ es) (m, did, more) =
    let first = by_action b m e.action did in
    let rest = workers_after m c es more in
    let both = sum_by-cons (λ (x : Event). commit_of x.action) e es in
    omega (arith, first, rest, both)
