-- One pass more.
use Rattle.std.proofs.Common.{◌≡◌, ◌∙◌, ◌+◌, ◌≤◌, ◌<◌, ℕ, sym, ap, subst, arith, List, []}
use Rattle.std.proofs.Common.{◌∷◌, ◌++◌, length, Option, Some, inl, inr}
use Rattle.std.specs.Prelude.{Bool, IsTrue, not, false, slice_get, sum_by}
use Rattle.std.proofs.Math.Seq.{take-length}
use Rattle.std.proofs.lemmas.Bool.{cases_lt}
use Rattle.std.proofs.lemmas.List.{length-append, take-append-le}
use Rattle.std.proofs.lemmas.List.Elements.{All-contains}
use Rattle.std.proofs.lemmas.List.Sums.{sum_by_push}
use Rattle.std.proofs.lemmas.Option.{slice_get_within}
use Rattle.pcb_islands.proofs.Elements.{look_cases as look_last}
use Rattle.board_offers.specs.declared.offer.Offer.{Offer}
use Rattle.board_offers.proofs.Lists.{look_cases, in_from}
use Rattle.pcb_board.specs.declared.answer.Entry.{Entry}
use Rattle.pcb_board.specs.declared.answer.Entry.TheVariants.{Join}
use Rattle.pcb_board.specs.declared.answer.Answer.TheVariants.{Stale}
use Rattle.pcb_board.specs.Boards.{BoardOf, board_at}
use Rattle.pcb_board.specs.Keeping.{IsBoard, Grows}
use Rattle.pcb_board.specs.Answers.{Step}
use Rattle.pcb_board.proofs.Prefix.{board_before, board_whole}
use Rattle.route_lattice.specs.Mesh.{Mesh}
use Rattle.least_offer.specs.Least.{IsLeastOffer}
use Rattle.route_plan.specs.Plans.{IsWhole}
use Rattle.searcher_pool.specs.Passes.{Between, IsJoinOf, IsPassed, IsShutOn, IsSpent, PassOf}
use Rattle.searcher_pool.specs.Passes.{Grows as GrowsBy}
use Rattle.route_run.specs.declared.facts.PassLine.{PassLine}
use Rattle.closing_pass.specs.OpenCount.{IsOpenCount}
use Rattle.route_run.specs.Runs.{AreLeast, ArePasses, AreTooLate, HadRoom, HasSeveral, IsPass, MayJoin}
use Rattle.route_run.specs.Runs.{IsWorkedOff, RunOf, entries_after, pass_at}
use Rattle.route_run.specs.inner.Passing.{HasPassed, IsMade, MayFollow}

-- ---- what holds of a board holds when it has grown
pub grown_by : (p : PassOf) (b c : BoardOf) → GrowsBy p b c → Grows b c
grown_by p b c grows = record {
  design_stays = grows.design;
  start_stays = grows.start;
  cap_stays = grows.cap;
  entries = grows.entries;
  history_is = grows.history;
}

module _ (b c : BoardOf) (grows : Grows b c) where
  longer : length c.history ≡ length b.history + length grows.entries
  longer = ap length grows.history_is ∙ length-append b.history grows.entries

  same_before : (n : ℕ) → n ≤ length b.history → board_at c n ≡ board_at b n
  same_before n le = board_before b c n grows le

  -- an entry that was there
  entry_before : (n : ℕ) (e : Entry) → n < length b.history → slice_get c.history n ≡ Some e
      → slice_get b.history n ≡ Some e
  entry_before n e early at = elim (look_cases b.history grows.entries n e
      (ap (λ (h : List Entry). slice_get h n) (sym grows.history_is) ∙ at)) [
        | inl there ↦ there
        | inr behind ↦ absurd (omega (arith, early, behind.place_is))
      ]

  between_on : (P : BoardOf → Type 0) (from to : ℕ) → to ≤ length b.history → Between P b from to → Between P c from to
  between_on P from to le w = record {
    at = w.at;
    late = w.late;
    early = w.early;
    holds = subst P (sym (same_before w.at (omega (arith, w.early, le)))) w.holds;
  }

  late_on : (m : Mesh) (via_cost workers : ℕ) (penalty : Option ℕ) (to net floor : ℕ) (entries : List ℕ)
      → to ≤ length b.history → AreTooLate m via_cost workers penalty b to net floor entries
      → AreTooLate m via_cost workers penalty c to net floor entries
  late_on m via_cost workers penalty to net floor [] le all = tt
  late_on m via_cost workers penalty to net floor (entry ∷ entries) le all =
      let l = all.0 in (
        record {
          offer = l.offer;
          worker_is = l.worker_is;
          net_is = l.net_is;
          penalty_is = l.penalty_is;
          least = subst (λ (x : BoardOf). IsLeastOffer m via_cost x l.offer)
              (sym (same_before l.offer.base (omega (arith, l.late, l.early, le)))) l.least;
          after_last = l.after_last;
          before_entry = l.before_entry;
          at = l.at;
          late = l.late;
          early = l.early;
          item = l.item;
          next = l.next;
          answered = subst (λ (x : BoardOf). Step x l.offer (Stale l.item entry) l.next)
              (sym (same_before l.at (omega (arith, l.early, le)))) l.answered;
        },
        late_on m via_cost workers penalty to net entry entries le all.1,
      )

  worked_on : (p : PassOf) (from to net : ℕ) → to ≤ length b.history → IsWorkedOff p b from to net
      → IsWorkedOff p c from to net
  worked_on p from to net le (inl whole) = inl (between_on (λ x. IsWhole x.design x.items net) from to le whole)
  worked_on p from to net le (inr (inl shut)) =
      inr (inl (between_on (λ x. IsShutOn p.lattice p.via_cost x net p.penalty) from to le shut))
  worked_on p from to net le (inr (inr (inl spent))) =
      inr (inr (inl (subst IsSpent (sym (same_before to le)) spent)))
  worked_on p from to net le (inr (inr (inr late))) = inr (inr (inr (record {
    several_workers = late.several_workers;
    entries = late.entries;
    eight = late.eight;
    each = late_on p.lattice p.via_cost p.workers p.penalty to net from late.entries le late.each;
  })))

  -- a pass stays one
  pass_on : (p : PassOf) (from : ℕ) (line : PassLine) → IsPass p b from line → IsPass p c from line
  pass_on p from line is = record {
    there = omega (arith, is.there, longer);
    joins = λ n e late early at. is.joins n e late early (entry_before n e (omega (arith, early, is.there)) at);
    worked = λ net lt several. worked_on p from (from + line.commits) net is.there
        (is.worked net (subst (λ d. net < length d.nets) grows.design_stays lt)
        (subst (λ (x : BoardOf). HasSeveral x.design x.items net) (same_before from (omega (arith, is.there)))
        several));
    leaves = subst (λ (x : BoardOf). IsOpenCount x.design x.items line.parted)
        (sym (same_before (from + line.commits) is.there)) is.leaves;
  }

  -- so does what its logs tell
  room_on : (p : PassOf) (from to : ℕ) → from ≤ to → to ≤ length b.history → HadRoom p b from to → HadRoom p c from to
  room_on p from to order le h = record {
    tasks = h.tasks;
    logs = h.logs;
    passed = subst (λ (x : BoardOf). IsPassed (record p { tasks = h.tasks }) x (board_at c to) h.logs)
        (sym (same_before from (omega (arith, order, le))))
        (subst (λ (x : BoardOf). IsPassed (record p { tasks = h.tasks }) (board_at b from) x h.logs)
        (sym (same_before to le)) h.passed);
    room = h.room;
  }

  pub passes_on : (m : Mesh) (r : RunOf) (lines : List PassLine) → ArePasses m r b lines → ArePasses m r c lines
  passes_on m r lines are = record {
    few = are.few;
    each =
        λ k line at. pass_on (pass_at m r.via_cost r.workers (k + 1)) (entries_after lines k) line
        (are.each k line at);
    goes_on = are.goes_on;
    moves = are.moves;
    room = λ k line at lt. room_on (pass_at m r.via_cost r.workers (k + 1)) (entries_after lines k)
        (entries_after lines k + line.commits) (omega arith) (are.each k line at).there (are.room k line at lt);
  }

  -- where the further joins are such offers, all are
  pub least_on : (diagonal : Bool) (m : Mesh) (via_cost : ℕ) → AreLeast diagonal m via_cost b
      → ((n : ℕ) (o : Offer) (first after : ℕ) → length b.history ≤ n
      → slice_get c.history n ≡ Some (Join o first after)
      → (o.base ≤ n) × MayJoin diagonal m via_cost (board_at c o.base) o)
      → AreLeast diagonal m via_cost c
  least_on diagonal m via_cost before later = record {
    each = λ n o first after at. elim (cases_lt n (length b.history)) [
      | inr late ↦ later n o first after late at
      | inl early ↦
          let l = before.each n o first after (entry_before n (Join o first after) early at) in (
            l.0,
            subst (λ (x : BoardOf). MayJoin diagonal m via_cost x o)
                (sym (same_before o.base (omega (arith, l.0, early)))) l.1,
          )
    ];
  }

-- ---- the pass that was made
module _ (p : PassOf) (b : BoardOf) (new : BoardOf) (line : PassLine) (full : Bool) (kept : IsBoard b)
    (is : IsMade p b new line full) where
  at_start : board_at new (length b.history) ≡ b
  at_start = board_before b new (length b.history) (grown_by p b new is.nets.grows) (omega arith)
      ∙ board_whole b kept

  -- a further entry is a join of its workers
  join_of : (n : ℕ) (e : Entry) → length b.history ≤ n → slice_get new.history n ≡ Some e → IsJoinOf p e
  join_of n e late at = elim (look_cases b.history is.nets.grows.entries n e
      (ap (λ (h : List Entry). slice_get h n) (sym is.nets.grows.history) ∙ at)) [
        | inl there ↦ absurd (let w = slice_get_within b.history n e there in omega (arith, w, late))
        | inr behind ↦ All-contains (IsJoinOf p) is.nets.grows.entries e is.nets.grows.joins
            (in_from is.nets.grows.entries behind.place e behind.there)
      ]

  made_pass : IsPass p new (length b.history) line
  made_pass = record {
    there = omega (arith, is.commits);
    joins = λ n e late early at. join_of n e late at;
    worked = λ net lt several. subst (λ to. IsWorkedOff p new (length b.history) to net) (sym is.commits)
        (is.nets.worked net (subst (λ d. net < length d.nets) is.nets.grows.design lt)
        (subst (λ (x : BoardOf). HasSeveral x.design x.items net) at_start several));
    leaves = subst (λ to. IsOpenCount new.design (board_at new to).items line.parted)
        (sym is.commits)
        (subst (λ (x : BoardOf). IsOpenCount x.design x.items line.parted)
        (sym (board_whole new is.nets.board)) is.leaves);
  }

-- ---- lines
commits : PassLine → ℕ
commits line = line.commits

all_entries : (lines : List PassLine) → entries_after lines (length lines) ≡ sum_by (λ (l : PassLine). l.commits) lines
all_entries lines = ap (λ (xs : List PassLine). sum_by (λ (l : PassLine). l.commits) xs) (take-length lines)

module _ (lines : List PassLine) (line : PassLine) where
  abbrev with_it : List PassLine
  with_it = lines ++ line ∷ []

  one_more : length with_it ≡ length lines + 1
  one_more = length-append lines (line ∷ [])

  entries_before : (k : ℕ) → k ≤ length lines → entries_after with_it k ≡ entries_after lines k
  entries_before k le =
      ap (λ (ls : List PassLine). sum_by (λ (l : PassLine). l.commits) ls) (take-append-le k lines (line ∷ []) le)

  pub entries_more : entries_after with_it (length with_it) ≡ entries_after lines (length lines) + line.commits
  entries_more =
      let all = all_entries with_it in
      let before = all_entries lines in
      let sums = sum_by_push (λ (l : PassLine). l.commits) lines line in
      omega (arith, all, before, sums)

-- ---- passes
pub passed_none : (m : Mesh) (r : RunOf) (b : BoardOf) → IsBoard b → b.history ≡ [] → HasPassed m r b []
passed_none m r b kept new = record {
  board = kept;
  passes = record {
    few = omega arith;
    each = λ k line at. absurd (let w = slice_get_within {A = PassLine} [] k line at in omega (arith, w));
    goes_on = λ k line at. absurd (let w = slice_get_within {A = PassLine} [] k line at in omega (arith, w));
    moves = λ k line at. absurd (let w = slice_get_within {A = PassLine} [] k line at in omega (arith, w));
    room = λ k line at. absurd (let w = slice_get_within {A = PassLine} [] k line at in omega (arith, w));
  };
  least = record {
    each = λ n o first after at. absurd
        (let w = slice_get_within b.history n (Join o first after) at in let e = ap length new in omega (arith, w, e));
  };
  no_more = ap length new;
}

module _ (m : Mesh) (r : RunOf) (b : BoardOf) (lines : List PassLine) (new : BoardOf) (line : PassLine) (full : Bool)
    (has : HasPassed m r b lines)
    (follow : MayFollow m r b lines) (room : length lines < r.passes)
    (is : IsMade (pass_at m r.via_cost r.workers (length lines + 1)) b new line full) where
  abbrev The : ℕ → PassOf
  The k = pass_at m r.via_cost r.workers (k + 1)

  grows : Grows b new
  grows = grown_by (The (length lines)) b new is.nets.grows

  each_more : (k : ℕ) (l : PassLine) → slice_get (lines ++ line ∷ []) k ≡ Some l
      → IsPass (The k) new (entries_after (lines ++ line ∷ []) k) l
  each_more k l at = elim (look_last lines line k l at) [
    | inl there ↦
        let within = slice_get_within lines k l there in
        subst (λ from. IsPass (The k) new from l)
        (sym (entries_before lines line k (omega (arith, within))))
        (pass_on b new grows (The k) (entries_after lines k) l (has.passes.each k l there))
    | inr last ↦
        let start : length b.history ≡ entries_after (lines ++ line ∷ []) k =
        has.no_more ∙ (sym (entries_before lines line (length lines) (omega arith))
        ∙ ap (entries_after (lines ++ line ∷ [])) (sym last.0)) in
        subst (λ from. IsPass (The k) new from l) start
        (subst (λ (x : PassLine). IsPass (The k) new (length b.history) x) last.1
        (subst (λ i. IsPass (The i) new (length b.history) line) (sym last.0)
        (made_pass (The (length lines)) b new line full has.board is)))
  ]

  -- what stands of an earlier pass on the board before stands on the later one
  room_more : (k : ℕ) (l : PassLine) → slice_get lines k ≡ Some l
      → HadRoom (The k) b (entries_after lines k) (entries_after lines k + l.commits)
      → HadRoom (The k) new (entries_after (lines ++ line ∷ []) k)
      (entries_after (lines ++ line ∷ []) k + l.commits)
  room_more k l there had =
      let within = slice_get_within lines k l there in
      subst (λ from. HadRoom (The k) new from (from + l.commits))
      (sym (entries_before lines line k (omega (arith, within))))
      (room_on b new grows (The k) (entries_after lines k) (entries_after lines k + l.commits) (omega arith)
      (has.passes.each k l there).there had)

  goes_on_more : (k : ℕ) (l : PassLine) → slice_get (lines ++ line ∷ []) k ≡ Some l
      → k + 1 < length (lines ++ line ∷ []) → (0 < l.parted) × (0 < k → 0 < l.commits)
      × HadRoom (The k) new (entries_after (lines ++ line ∷ []) k)
      (entries_after (lines ++ line ∷ []) k + l.commits)
  goes_on_more k l at before =
      let count = one_more lines line in
      elim (look_last lines line k l at) [
        | inr last ↦ absurd (omega (arith, before, count, last.0))
        | inl there ↦ elim (cases_lt (k + 1) (length lines)) [
          | inl lt ↦ (
            has.passes.goes_on k l there lt,
            λ some. has.passes.moves k l there some lt,
            room_more k l there (has.passes.room k l there lt),
          )
          | inr ge ↦
              let f = follow k l there (omega (arith, ge, before, count)) in (f.0, f.1, room_more k l there f.2)
        ]
      ]

  -- with a pass more they are passes still
  more_passed : HasPassed m r new (lines ++ line ∷ [])
  more_passed = record {
    board = is.nets.board;
    passes = record {
      few = (let count = one_more lines line in omega (arith, count, room));
      each = each_more;
      goes_on = λ k l at before. (goes_on_more k l at before).0;
      moves = λ k l at some before. (goes_on_more k l at before).1 some;
      room = λ k l at before. (goes_on_more k l at before).2;
    };
    least = least_on b new grows false m r.via_cost has.least is.nets.least;
    no_more = (let more = entries_more lines line in omega (arith, more, is.commits, has.no_more));
  }

  -- where a further pass may follow the one that was made
  follow_last : (0 < line.parted) → (0 < length lines → 0 < line.commits) → IsTrue (not full)
      → MayFollow m r new (lines ++ line ∷ [])
  follow_last more moved other k l at end = elim (look_last lines line k l at) [
    | inl there ↦ absurd
        (let w = slice_get_within lines k l there in
        let count = one_more lines line in
        omega (arith, w, end, count))
    | inr last ↦
        let start : length b.history ≡ entries_after (lines ++ line ∷ []) k =
        has.no_more ∙ (sym (entries_before lines line (length lines) (omega arith))
        ∙ ap (entries_after (lines ++ line ∷ [])) (sym last.0)) in
        let had : HadRoom (The (length lines)) new (length b.history) (length b.history + line.commits) =
        subst (HadRoom (The (length lines)) new (length b.history)) (sym is.commits) (is.nets.room other) in
        subst (λ (x : PassLine). (0 < x.parted) × (0 < k → 0 < x.commits)
        × HadRoom (The k) new (entries_after (lines ++ line ∷ []) k)
        (entries_after (lines ++ line ∷ []) k + x.commits)) last.1 (
          more,
          λ some. moved (omega (arith, some, last.0)),
          subst (λ from. HadRoom (The k) new from (from + line.commits)) start
              (subst (λ i. HadRoom (The i) new (length b.history) (length b.history + line.commits))
              (sym last.0) had),
        )
  ]

-- so it is with the pass of the next number
pub pass_more : (m : Mesh) (r : RunOf) (b : BoardOf) (lines : List PassLine) (new : BoardOf) (line : PassLine)
    (full : Bool) (number : ℕ)
    → HasPassed m r b lines → MayFollow m r b lines → length lines ≡ number → number < r.passes
    → IsMade (pass_at m r.via_cost r.workers (number + 1)) b new line full → HasPassed m r new (lines ++ line ∷ [])
pass_more m r b lines new line full number has follow count room is =
    more_passed m r b lines new line full has follow (omega (arith, count, room))
    (subst (λ (k : ℕ). IsMade (pass_at m r.via_cost r.workers (k + 1)) b new line full) (sym count) is)

pub follow_more : (m : Mesh) (r : RunOf) (b : BoardOf) (lines : List PassLine) (new : BoardOf) (line : PassLine)
    (full : Bool) (number : ℕ)
    → HasPassed m r b lines → MayFollow m r b lines → length lines ≡ number → number < r.passes
    → IsMade (pass_at m r.via_cost r.workers (number + 1)) b new line full → (0 < line.parted)
    → (0 < number → 0 < line.commits) → IsTrue (not full)
    → MayFollow m r new (lines ++ line ∷ [])
follow_more m r b lines new line full number has follow count room is more moved other =
    follow_last m r b lines new line full has follow (omega (arith, count, room))
    (subst (λ (k : ℕ). IsMade (pass_at m r.via_cost r.workers (k + 1)) b new line full) (sym count) is) more
    (λ some. moved (omega (arith, some, count))) other
