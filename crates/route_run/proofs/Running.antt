-- A run, from its parts.
use Rattle.std.proofs.Common.{◌≡◌, ◌∙◌, inl, inr, ℕ, ◌+◌, ◌-◌, ◌<◌, ◌≤◌, ◌^◌, refl, sym, ap, subst, arith}
use Rattle.std.proofs.Common.{List, [], ◌∷◌, ◌++◌, length, get_or, Option, Some, length-append}
use Rattle.std.specs.Prelude.{Bool, false, IfOk, IsTrue, Ok, Result, flat_map, slice_get, ◌⊎◌}
use Rattle.std.proofs.lemmas.List.{append-nil}
use Rattle.std.proofs.lemmas.Option.{slice_get_within, slice_get-get_or}
use Rattle.pcb_model.specs.declared.item.Item.{Item}
use Rattle.pcb_model.specs.declared.design.Design.{Design}
use Rattle.pcb_islands.proofs.Elements.{look_cases as look_last, look_last as last_there}
use Rattle.board_offers.specs.declared.offer.Offer.{Offer}
use Rattle.board_offers.proofs.Lists.{look_left}
use Rattle.pcb_board.specs.declared.answer.Entry.{Entry}
use Rattle.pcb_board.specs.declared.answer.Entry.TheVariants.{Join, Back}
use Rattle.pcb_board.specs.Boards.{BoardOf, Starts, board_at}
use Rattle.pcb_board.specs.Answers.{taken_back}
use Rattle.pcb_board.specs.Keeping.{IsBoard, IsStarted, Grows}
use Rattle.pcb_board.proofs.Prefix.{board_before, board_whole}
use Rattle.route_lattice.specs.Mesh.{Mesh, node_count}
use Rattle.cut_certificate.specs.declared.cut.Cut.{Cut}
use Rattle.closing_pass.specs.OpenCount.{NeverMore}
use Rattle.searcher_pool.specs.Passes.{PassOf, IsSpent}
use Rattle.searcher_pool.specs.Passes.{Grows as GrowsBy}
use Rattle.route_run.specs.declared.facts.PassLine.{PassLine}
use Rattle.route_run.specs.declared.facts.Facts.{Facts}
use Rattle.route_run.specs.Runs.{AreFacts, AreLeast, AreWide, ClosesBy, ClosesFrom, HaveEnded, IsBest, IsRun}
use Rattle.route_run.specs.Runs.{IsSomeRun, RunOf, complete_from}
use Rattle.route_run.specs.Runs.{entries_after}
use Rattle.route_run.specs.inner.Passing.{EndsBy, GoesBack, HasPassed, MayFollow, Stays}
use Rattle.route_run.specs.inner.Passing.{IsFinished, IsKept, IsNew, IsShutOut, routed_of}
use Rattle.route_run.specs.inner.States.{HasBegun, IsOnTheWay, PassStateOf}
use Rattle.route_run.specs.Runs.{IsTask}
use Rattle.route_run.specs.declared.input.RunInput.{RunInput}
use Rattle.route_run.specs.Inputs.{CanRun, run_of}
use Rattle.route_run.specs.declared.run.Kept.{Kept}
use Rattle.route_run.specs.declared.run.Routed.{Routed}
use Rattle.route_run.specs.declared.run.Shut.{Shut}
use Rattle.route_run.proofs.Best.{no_line}
use Rattle.route_run.proofs.Passing.{least_on, passes_on}
use Rattle.route_run.proofs.Rounds.{closing_grows, closing_joins, least_may}

-- ---- whether a pass follows
pub follow_none : (m : Mesh) (r : RunOf) (b : BoardOf) → MayFollow m r b []
follow_none m r b k line at = absurd (let w = slice_get_within {A = PassLine} [] k line at in omega (arith, w))

-- where none may follow the last one they have ended
pub ended_by : (m : Mesh) (r : RunOf) (b : BoardOf) (lines : List PassLine) (line : PassLine) (full : Bool)
    → HasPassed m r b (lines ++ line ∷ []) → EndsBy (length lines + 1) line full → (IsTrue full → IsSpent b)
    → HaveEnded r b (lines ++ line ∷ [])
ended_by m r b lines line full has by spent =
    let all = lines ++ line ∷ [] in
    let count : length all ≡ length lines + 1 = length-append lines (line ∷ []) in
    let place : length lines ≡ length all - 1 = omega (arith, count) in
    record {
      last = line;
      last_is = subst (λ (k : ℕ). slice_get all k ≡ Some line) place (last_there lines line);
      ends = elim by [
        | inl whole ↦ inl whole
        | inr other ↦ elim other [
          | inl still ↦ inr (inl (omega (arith, still.0, count), still.1))
          | inr full ↦ inr (inr (inr (subst (λ (k : ℕ). IsSpent (board_at b k)) has.no_more
              (subst IsSpent (sym (board_whole b has.board)) (spent full)))))
        ]
      ];
    }

-- so they have with the last number
pub ended_last : (r : RunOf) (b : BoardOf) (lines : List PassLine) → 1 ≤ r.passes → length lines ≡ r.passes
    → HaveEnded r b lines
ended_last r b lines some count = record {
  last = get_or lines (length lines - 1) no_line;
  last_is = slice_get-get_or lines (length lines - 1) no_line (omega (arith, some, count));
  ends = inr (inr (inl count));
}

-- ---- what stays
pub stays_same : (b : BoardOf) → Stays b b
stays_same b = record { design_stays = refl; start_stays = refl; cap_stays = refl }

pub stays_on : (p : PassOf) (a b c : BoardOf) → Stays a b → GrowsBy p b c → Stays a c
stays_on p a b c same grows = record {
  design_stays = grows.design ∙ same.design_stays;
  start_stays = grows.start ∙ same.start_stays;
  cap_stays = grows.cap ∙ same.cap_stays;
}

pub stays_then : (a b c : BoardOf) → Stays a b → Stays b c → Stays a c
stays_then a b c one two = record {
  design_stays = two.design_stays ∙ one.design_stays;
  start_stays = two.start_stays ∙ one.start_stays;
  cap_stays = two.cap_stays ∙ one.cap_stays;
}

-- ---- the way back
abbrev is_join : Entry → Type 0
is_join (Join o first after) = Unit {0}
is_join (Back to) = ⊥

no_join : (to : ℕ) (o : Offer) (first after : ℕ) → Back to ≡ Join o first after → ⊥
no_join to o first after e = subst is_join (sym e) tt

grows_same : (b c : BoardOf) → c ≡ b → Grows b c
grows_same b c same = subst (Grows b) (sym same) (record {
  design_stays = refl;
  start_stays = refl;
  cap_stays = refl;
  entries = [];
  history_is = sym (append-nil b.history);
})

grows_back : (b c : BoardOf) (to : ℕ) → c ≡ taken_back b to → Grows b c
grows_back b c to is = subst (Grows b) (sym is) (record {
  design_stays = refl;
  start_stays = refl;
  cap_stays = refl;
  entries = Back to ∷ [];
  history_is = refl;
})

grows_gone : (lines : List PassLine) (kept : ℕ) (b c : BoardOf) → GoesBack lines kept b c → Grows b c
grows_gone lines kept b c (inl stays) = grows_same b c stays.1
grows_gone lines kept b c (inr back) = grows_back b c (entries_after lines kept) back.2

-- no join comes with it
least_gone : (m : Mesh) (via_cost : ℕ) (lines : List PassLine) (kept : ℕ) (b c : BoardOf) → GoesBack lines kept b c
    → AreLeast false m via_cost b → AreLeast false m via_cost c
least_gone m via_cost lines kept b c (inl stays) least = subst (AreLeast false m via_cost) (sym stays.1) least
least_gone m via_cost lines kept b c (inr back) least =
    let to = entries_after lines kept in
    let history : c.history ≡ b.history ++ Back to ∷ [] = ap (λ (x : BoardOf). x.history) back.2 in
    least_on b c (grows_back b c to back.2) false m via_cost least
    (λ n o first after late at. elim (look_last b.history (Back to) n (Join o first after)
    (ap (λ (h : List Entry). slice_get h n) (sym history) ∙ at)) [
      | inl there ↦ absurd
          (let w = slice_get_within b.history n (Join o first after) there in omega (arith, w, late))
      | inr last ↦ absurd (no_join to o first after last.1)
    ])

-- ---- all together
module _ (d : Design) (m : Mesh) (r : RunOf) (first passed after : BoardOf) (shut : Shut) (facts : Facts)
    (begun : IsStarted d (2 ^ 19) first facts.dropped) (same : Stays first passed)
    (has : HasPassed m r passed facts.passes) (ended : HaveEnded r passed facts.passes)
    (best : IsBest facts.passes facts.kept) (gone : GoesBack facts.passes facts.kept passed after)
    (kept : IsBoard after) (out : IsShutOut m r.via_cost r.tries r.diagonal after shut)
    (board : IsBoard shut.closed.board) (grid : facts.grid ≡ m.grid) (nodes : facts.nodes ≡ node_count m)
    (joins : facts.joins ≡ shut.closed.joins) (complete : facts.complete ≡ complete_from 0 shut.closed.ends)
    (cuts : facts.cuts ≡ flat_map (λ (cuts : List Cut). cuts) shut.closed.ends) (wide : facts.wide ≡ shut.wide) where
  abbrev last_entry : ℕ
  last_entry = entries_after facts.passes (length facts.passes)

  back : Grows passed after
  back = grows_gone facts.passes facts.kept passed after gone

  abbrev last : BoardOf
  last = shut.closed.board

  close : Grows after last
  close = closing_grows r.diagonal m r.via_cost after last out.closes

  design_is : last.design ≡ d
  design_is = close.design_stays ∙ (back.design_stays ∙ (same.design_stays
      ∙ ap (λ (b : BoardOf). b.design) begun.board_is))

  start_is : last.start ≡ begun.start
  start_is = close.start_stays ∙ (back.start_stays ∙ (same.start_stays
      ∙ ap (λ (b : BoardOf). b.start) begun.board_is))

  cap_is : last.cap ≡ 2 ^ 19
  cap_is = close.cap_stays ∙ (back.cap_stays ∙ (same.cap_stays ∙ ap (λ (b : BoardOf). b.cap) begun.board_is))

  -- the board after the passes, seen from the last one
  at_passed : board_at last last_entry ≡ board_at passed last_entry
  at_passed =
      let le : last_entry ≤ length passed.history = omega (arith, has.no_more) in
      let longer : length after.history ≡ length passed.history + length back.entries =
      ap length back.history_is ∙ length-append passed.history back.entries in
      board_before after last last_entry close (omega (arith, le, longer))
      ∙ board_before passed after last_entry back le

  still_ended : HaveEnded r last facts.passes
  still_ended = record {
    last = ended.last;
    last_is = ended.last_is;
    ends = elim ended.ends [
      | inl whole ↦ inl whole
      | inr other ↦ elim other [
        | inl still ↦ inr (inl still)
        | inr more ↦ elim more [
          | inl number ↦ inr (inr (inl number))
          | inr spent ↦ inr (inr (inr (subst IsSpent (sym at_passed) spent)))
        ]
      ]
    ];
  }

  closes_from : (g : GoesBack facts.passes facts.kept passed after)
      → ClosesFrom last facts.passes facts.kept (length after.history)
  closes_from (inl stays) = inl (stays.0, ap (λ (b : BoardOf). length b.history) stays.1 ∙ has.no_more)
  closes_from (inr gone) =
      let to = entries_after facts.passes facts.kept in
      let history : after.history ≡ passed.history ++ Back to ∷ [] = ap (λ (b : BoardOf). b.history) gone.2 in
      let there : slice_get after.history (length passed.history) ≡ Some (Back to) =
      ap (λ (h : List Entry). slice_get h (length passed.history)) history
      ∙ last_there passed.history (Back to) in
      let on_closed : slice_get last.history (length passed.history) ≡ Some (Back to) =
      ap (λ (h : List Entry). slice_get h (length passed.history)) close.history_is
      ∙ look_left after.history close.entries (length passed.history) (Back to) there in
      let count : length after.history ≡ length passed.history + 1 =
      ap length history ∙ length-append passed.history (Back to ∷ []) in
      inr (
        gone.0,
        subst (λ (k : ℕ). slice_get last.history k ≡ Some (Back to)) has.no_more on_closed,
        omega (arith, count, has.no_more),
      )

  -- the board from which the closing pass went on
  from_after : after ≡ board_at last (length after.history)
  from_after = sym (board_before after last (length after.history) close (omega arith)
      ∙ board_whole after kept)

  closing : ClosesBy r.diagonal m r.via_cost (board_at last (length after.history)) last
  closing = subst (λ (b : BoardOf). ClosesBy r.diagonal m r.via_cost b last) from_after out.closes

  fewer : NeverMore (board_at last (length after.history)) last
  fewer = subst (λ (b : BoardOf). NeverMore b last) from_after out.fewer

  least : AreLeast r.diagonal m r.via_cost last
  least = least_on after last close r.diagonal m r.via_cost
      (least_may r.diagonal m r.via_cost after
      (least_gone m r.via_cost facts.passes facts.kept passed after gone has.least))
      (λ n o x y le at. closing_joins r.diagonal m r.via_cost after last out.closes n le o x y at)

  facts_are : AreFacts m r.via_cost r.tries r.diagonal last (length after.history) facts
  facts_are = record {
    grid_is = grid;
    nodes_are = nodes;
    dropped_are = subst (λ (x : Design). Starts x facts.dropped last.start) (sym design_is)
        (subst (λ (xs : List Item). Starts d facts.dropped xs) (sym start_is) begun.starts);
    joins_are = omega (arith, joins, out.count);
    ends = shut.closed.ends;
    ends_are = out.ends;
    settled = out.settled;
    complete_is = complete;
    cuts_are = cuts;
    wide_is = subst (λ (p : List Cut × Option (List ℕ)). AreWide r.diagonal m r.via_cost last p.0 p.1)
        (λ i. (sym cuts i, sym wide i)) out.wide;
  }

  pub is_run : IsRun d m r last facts
  is_run = record {
    board = board;
    design_is = design_is;
    cap_is = cap_is;
    passes = passes_on after last close m r facts.passes
        (passes_on passed after back m r facts.passes has.passes);
    ended = still_ended;
    best = best;
    from = length after.history;
    closes_from = closes_from gone;
    closing = closing;
    fewer = fewer;
    least = least;
    facts_are = facts_are;
  }

-- the run that is told
pub run_told : (d : Design) (m : Mesh) (r : RunOf) (first : BoardOf) (kept : Kept) (dropped : List ℕ) (routed : Routed)
    → IsStarted d (2 ^ 19) first dropped → IsKept m r first kept → IsBoard kept.board
    → IsFinished m r.via_cost r.tries r.diagonal kept dropped routed → IsRun d m r routed.board routed.facts
run_told d m r first kept dropped routed begun is board done =
    subst (λ (x : Routed). IsRun d m r x.board x.facts) (sym done.told)
    (is_run d m r first is.passed kept.board done.shut
    (routed_of m dropped kept.lines kept.kept done.shut).facts begun is.same is.has is.ended is.best is.gone board
    done.out done.board refl refl refl refl refl refl)

-- ---- what its parts ask for
-- a board has few nets, and so few ends of them
pub few_ends : (m : Mesh) (via_cost tries : ℕ) (diagonal : Bool) (b : BoardOf) (shut : Shut)
    → IsShutOut m via_cost tries diagonal b shut → IsBoard shut.closed.board → length shut.closed.ends ≤ 2 ^ 26
few_ends m via_cost tries diagonal b shut out board =
    let few = board.sound.parts.few_nets in omega (arith, few, out.ends.all)

-- the board keeps its design
pub task_kept : (j : RunInput) (m : Mesh) (r : RunOf) (first : BoardOf) (kept : Kept) → IsKept m r first kept
    → CanRun j first.design → IsTask kept.board.design j.lat.now j.via_cost
task_kept j m r first kept is can =
    let back = grows_gone kept.lines kept.kept is.passed kept.board is.gone in
    subst (λ (x : Design). IsTask x j.lat.now j.via_cost) (sym (back.design_stays ∙ is.same.design_stays)) can.task

-- passes that are kept are those of the run on whose way they were
pub kept_before : (j : RunInput) (first : BoardOf) (s : PassStateOf) (kept : Kept) → IsOnTheWay j first s
    → IsKept s.lattice s.run s.board kept → IsKept j.lat.now (run_of j) first kept
kept_before j first s kept way is = record {
  passed = is.passed;
  same = stays_then first s.board is.passed way.same is.same;
  has = subst (λ (m : Mesh). HasPassed m (run_of j) is.passed kept.lines) way.lattice_is
      (subst (λ (r : RunOf). HasPassed s.lattice r is.passed kept.lines) way.run_is is.has);
  ended = subst (λ (r : RunOf). HaveEnded r is.passed kept.lines) way.run_is is.ended;
  best = is.best;
  gone = is.gone;
}

-- the run whose passes began from a start
pub run_begun : (j : RunInput) (s : PassStateOf) (kept : Kept) (dropped : List ℕ) (routed : Routed)
    → HasBegun j s dropped → IsKept s.lattice s.run s.board kept → IsBoard kept.board
    → IsFinished j.lat.now j.via_cost j.tries j.diagonal kept dropped routed
    → IsRun s.board.design j.lat.now (run_of j) routed.board routed.facts
run_begun j s kept dropped routed begun is board done =
    run_told s.board.design j.lat.now (run_of j) begun.first kept dropped routed begun.begun
    (kept_before j begun.first s kept begun.way is) board done

-- where passes have ended there is one
pub some_lines : (r : RunOf) (b : BoardOf) (lines : List PassLine) → HaveEnded r b lines → 0 < length lines
some_lines r b lines ended =
    let within = slice_get_within lines (length lines - 1) ended.last ended.last_is in omega (arith, within)

-- the kept one is one of them
pub kept_within : (lines : List PassLine) (kept : ℕ) → IsBest lines kept → kept ≤ length lines
kept_within lines kept best =
    let within = slice_get_within lines (kept - 1) best.line best.line_is in omega (arith, within, best.counted)

-- ---- several starts
-- passes on the way from a start have begun from one of their own board's design
pub way_begun : (j : RunInput) (first : BoardOf) (dropped : List ℕ) (s : PassStateOf)
    → IsStarted first.design (2 ^ 19) first dropped → CanRun j first.design → IsOnTheWay j first s
    → HasBegun j s dropped
way_begun j first dropped s begun can way = record {
  input = subst (CanRun j) (sym way.same.design_stays) can;
  first = first;
  begun = subst (λ (d : Design). IsStarted d (2 ^ 19) first dropped) (sym way.same.design_stays) begun;
  way = way;
}

-- a run by all workers that there are is one by some of them
pub some_run : (d : Design) (m : Mesh) (r : RunOf) (b : BoardOf) (facts : Facts) → 1 ≤ r.workers → IsRun d m r b facts
    → IsSomeRun d m r b facts
some_run d m r b facts some is = record { workers = r.workers; some = some; few = omega arith; run = is }

-- a run of the board's design is one of the design that it was made of
pub run_of_design : (d e : Design) (m : Mesh) (r : RunOf) (routed : Routed) → e ≡ d
    → IsSomeRun e m r routed.board routed.facts → IsSomeRun d m r routed.board routed.facts
run_of_design d e m r routed same is = subst (λ (x : Design). IsSomeRun x m r routed.board routed.facts) same is

-- the better of two, which is one of them
pub better_is : {E : Type 0} (P : Routed → Type 0) (first better : Routed) (other : Result Routed E) → P first
    → IfOk other P → (better ≡ first) ⊎ (other ≡ Ok better) → P better
better_is P first better other one two (inl is) = subst P (sym is) one
better_is P first better other one two (inr is) = subst (λ o. IfOk o P) is two

-- a start has no entry yet
pub new_start : (j : RunInput) (first : BoardOf) (dropped : List ℕ) → IsStarted first.design (2 ^ 19) first dropped
    → CanRun j first.design → IsNew j first
new_start j first dropped begun can = record {
  input = can;
  none = ap (λ (b : BoardOf). b.history) begun.board_is;
}

-- what may be run may be run by one worker
abbrev pub by_one : RunInput → RunInput
by_one j = record j { workers = 1 }

pub can_alone : (j : RunInput) (d : Design) → CanRun j d → CanRun (by_one j) d
can_alone j d can = record {
  task = can.task;
  some_workers = omega arith;
  few_workers = (let some = can.some_workers in let few = can.few_workers in omega (arith, some, few));
  some_passes = can.some_passes;
  few_passes = can.few_passes;
}

pub new_alone : (j alone : RunInput) (b : BoardOf) → alone ≡ by_one j → IsNew j b → IsNew alone b
new_alone j alone b is new = subst (λ (x : RunInput). IsNew x b) (sym is) (record {
  input = can_alone j b.design new.input;
  none = new.none;
})

-- a run by one worker from a start
pub begun_alone : (j alone : RunInput) (first : BoardOf) (dropped : List ℕ) (s : PassStateOf) → alone ≡ by_one j
    → IsStarted first.design (2 ^ 19) first dropped → CanRun j first.design → IsOnTheWay (by_one j) first s
    → HasBegun alone s dropped
begun_alone j alone first dropped s is begun can way = subst (λ (x : RunInput). HasBegun x s dropped) (sym is)
    (way_begun (by_one j) first dropped s begun (can_alone j first.design can) way)

-- is one by some of the workers that there are
pub run_alone : (j alone : RunInput) (first : BoardOf) (s : PassStateOf) (routed : Routed) → alone ≡ by_one j
    → CanRun j first.design → IsOnTheWay (by_one j) first s
    → IsRun s.board.design alone.lat.now (run_of alone) routed.board routed.facts
    → IsSomeRun first.design j.lat.now (run_of j) routed.board routed.facts
run_alone j alone first s routed is can way run = record {
  workers = 1;
  some = omega arith;
  few = can.some_workers;
  run = subst (λ (d : Design). IsRun d j.lat.now (run_of (by_one j)) routed.board routed.facts) way.same.design_stays
      (subst (λ (x : RunInput). IsRun s.board.design x.lat.now (run_of x) routed.board routed.facts) is run);
}
