-- What stands ready before a pass, and after it.
use Rattle.std.proofs.Common.{◌≡◌, ◌∙◌, ◌+◌, ◌≤◌, ◌^◌, ℕ, List, [], ◌∷◌, ◌++◌, length, length-append, Option}
use Rattle.std.proofs.Common.{None, min}
use Rattle.std.proofs.Common.{refl, ap, subst, sym, arith, All, inl, inr, true, true≢false}
use Rattle.std.specs.Prelude.{◌⊎◌, ◌<◌, Bool, IfSome, IsTrue, not, vec_len}
use Rattle.std.specs.Borrow.{Bor}
use Rattle.pcb_model.specs.declared.design.Design.{Design}
use Rattle.move_maps.specs.Maps.{AreMapsOf}
use Rattle.pcb_board.specs.Boards.{BoardOf}
use Rattle.pcb_board.specs.Keeping.{IsBoard}
use Rattle.searcher_pool.specs.declared.input.PassMaps.{PassMaps}
use Rattle.searcher_pool.specs.Inputs.{AreMaps}
use Rattle.route_run.specs.declared.connections.OpenNets.{OpenNets}
use Rattle.route_plan.specs.Mapped.{IsMappedOn}
use Rattle.route_plan.proofs.Mapping.{still_mapped}
use Rattle.searcher_pool.specs.Passes.{PassOf, pass_from}
use Rattle.route_run.specs.declared.facts.PassLine.{PassLine}
use Rattle.route_run.specs.declared.input.RunInput.{RunInput}
use Rattle.route_lattice.specs.Mesh.{Mesh}
use Rattle.route_run.specs.Runs.{HaveEnded, RunOf, pass_at, penalty_of}
use Rattle.route_run.specs.Inputs.{CanRun, run_of}
use Rattle.route_run.specs.inner.Passing.{AreOpenNets, AreOpenOn, CanWorkOff, EndsBy, HasPassed, IsMade, MayFollow}
use Rattle.route_run.specs.inner.Passing.{IsNew}
use Rattle.route_run.specs.inner.States.{GoesOn, HaveGone, IsLaterOf, IsMadeBy, IsOnTheWay, IsOneMore, IsState}
use Rattle.route_run.specs.inner.States.{PassStateOf, first_state}
use Rattle.route_run.proofs.Passing.{follow_more, grown_by, pass_more, passed_none}
use Rattle.route_run.proofs.Running.{ended_by, ended_last, follow_none, stays_on, stays_same, stays_then}

-- of nothing all holds
of_none : {A : Type 0} (P : A → Type 0) (o : Option A) → o ≡ None → IfSome o P
of_none P o e = subst (λ x. IfSome x P) (sym e) tt

-- where there are no maps they are of each board
pub no_maps_are : (m : Mesh) (b : BoardOf) (maps : PassMaps) → maps.mapped ≡ None → maps.fixed ≡ None → AreMaps m b maps
no_maps_are m b maps mapped fixed = record {
  mapped_on = of_none (IsMappedOn m b) maps.mapped mapped;
  fixed_are = of_none (AreMapsOf b.design m b.design.fixed) maps.fixed fixed;
}

-- a copy tells as much of what is open
pub copied_nets : (b : BoardOf) (old new : OpenNets) → AreOpenOn b old → new.nets.items ≡ old.nets.items
    → vec_len new.nets ≡ vec_len old.nets → new.count ≡ old.count → AreOpenOn b new
copied_nets b old new are items len count = record {
  few = (let few = are.few in omega (arith, few, len));
  are = subst (λ (xs : List ℕ). AreOpenNets b.design b.items (length b.design.nets) xs new.count) (sym items)
      (subst (AreOpenNets b.design b.items (length b.design.nets) old.nets.items) (sym count) are.are);
}

-- what stands ready may be worked off
pub can_work : (j : RunInput) (b : BoardOf) (nets : OpenNets) (maps : PassMaps) (tasks : Bor (List ℕ))
    (penalty : Option ℕ) (pattern : ℕ) (lent : Bor PassMaps) → IsState j b nets maps → IsBoard b
    → IfSome penalty (λ p. p ≤ 2 ^ 30) → tasks.now ≡ nets.nets.items → length tasks.now ≡ vec_len nets.nets
    → lent.now ≡ maps → CanWorkOff (record {
      lat = j.lat;
      via_cost = j.via_cost;
      workers = j.workers;
      tasks = tasks;
      penalty = penalty;
      pattern = pattern;
      maps = lent;
    }) b
can_work j b nets maps tasks penalty pattern lent is kept small tasks_are long lent_are =
    let opened = is.open_nets in
    let few = kept.sound.parts.few_nets in
    record {
      input = record {
        task = record {
          plain = is.input.task.plain;
          fits = is.input.task.fits;
          cost = is.input.task.small_cost;
          small_penalty = small;
          nets = subst (All (λ net. net < length b.design.nets)) (sym tasks_are) opened.are.within;
        };
        some_workers = is.input.some_workers;
        few_workers = is.input.few_workers;
        few_tasks = (let count = opened.few in omega (arith, long, count, few));
        maps = subst (AreMaps j.lat.now b) (sym lent_are) is.maps_are;
      };
      count = nets.count;
      open_nets = subst (λ (xs : List ℕ). AreOpenNets b.design b.items (length b.design.nets) xs nets.count)
          (sym tasks_are) opened.are;
    }

-- after a pass it stands so again
pub state_after : (j : RunInput) (b c : BoardOf) (nets after : OpenNets) (maps : PassMaps) (p : PassOf)
    (line : PassLine)
    (full : Bool) → IsState j b nets maps → IsMade p b c line full → AreOpenOn c after → IsState j c after maps
state_after j b c nets after maps p line full is made opened =
    let same = made.nets.grows.design in
    record {
      input = subst (CanRun j) (sym same) is.input;
      open_nets = opened;
      maps_are = record {
        mapped_on = still_mapped j.lat.now b c maps.mapped (grown_by p b c made.nets.grows) is.maps_are.mapped_on;
        fixed_are = subst (λ (d : Design). IfSome maps.fixed (AreMapsOf d j.lat.now d.fixed)) (sym same)
            is.maps_are.fixed_are;
      };
    }

-- ---- passes one after another
-- before the first of them
pub none_gone : (j : RunInput) (b : BoardOf) (s : PassStateOf) → IsBoard b → IsNew j b → s ≡ first_state j b
    → HaveGone 0 s true
none_gone j b s kept new is = subst (λ (x : PassStateOf). HaveGone 0 x true) (sym is) (record {
  some = new.input.some_passes;
  few = new.input.few_passes;
  passed = passed_none j.lat.now (run_of j) b kept new.none;
  count = refl;
  follows = λ more. follow_none j.lat.now (run_of j) b;
  ended = λ no. absurd (true≢false (sym no));
})

-- so they are on the way
pub begun_way : (j : RunInput) (b : BoardOf) (s : PassStateOf) → s ≡ first_state j b → IsOnTheWay j b s
begun_way j b s is = subst (IsOnTheWay j b) (sym is) (record {
  lattice_is = refl;
  run_is = refl;
  same = stays_same b;
})

-- and after one more
module _ (k : ℕ) (s t : PassStateOf) (was more : Bool) (before : HaveGone k s was) (goes : IsTrue was)
    (within : k < s.run.passes) (one : IsOneMore (k + 1) s t more) where
  abbrev lines_on : List PassLine
  lines_on = s.lines ++ one.line ∷ []

  -- what holds of the lattice, the run and the longer list of lines holds of where they stand now
  on_new : (P : Mesh → RunOf → List PassLine → Type 0) → P s.lattice s.run lines_on → P t.lattice t.run t.lines
  on_new P h = subst (P t.lattice t.run) (sym one.lines_are)
      (subst (λ (r : RunOf). P t.lattice r lines_on) (sym one.run_is)
      (subst (λ (m : Mesh). P m s.run lines_on) (sym one.lattice_is) h))

  has : HasPassed s.lattice s.run t.board lines_on
  has = pass_more s.lattice s.run s.board s.lines t.board one.line one.full k before.passed (before.follows goes)
      before.count within one.is

  followed : IsTrue more → MayFollow s.lattice s.run t.board lines_on
  followed further =
      let follow = one.goes_on further in
      follow_more s.lattice s.run s.board s.lines t.board one.line one.full k before.passed (before.follows goes)
      before.count within one.is follow.0 (λ some. follow.1 (omega (arith, some))) follow.2

  ended_here : IsTrue (not more) → HaveEnded s.run t.board lines_on
  ended_here no_more =
      let by : EndsBy (length s.lines + 1) one.line one.full =
      subst (λ (n : ℕ). EndsBy (n + 1) one.line one.full) (sym before.count) (one.ended no_more) in
      ended_by s.lattice s.run t.board s.lines one.line one.full has by one.is.nets.spent

  pub gone_more : HaveGone (k + 1) t more
  gone_more = record {
    some = subst (λ (r : RunOf). 1 ≤ r.passes) (sym one.run_is) before.some;
    few = subst (λ (r : RunOf). r.passes ≤ 99) (sym one.run_is) before.few;
    passed = on_new (λ m r ls. HasPassed m r t.board ls) has;
    count = (let long = ap length one.lines_are in
        let more_long = length-append s.lines (one.line ∷ []) in
        let count = before.count in
        omega (arith, long, more_long, count));
    follows = λ further. on_new (λ m r ls. MayFollow m r t.board ls) (followed further);
    ended = λ no_more. on_new (λ m r ls. HaveEnded r t.board ls) (ended_here no_more);
  }

  pub later_more : (old : PassStateOf) → IsLaterOf old s → IsLaterOf old t
  later_more old later = record {
    lattice_is = one.lattice_is ∙ later.lattice_is;
    run_is = one.run_is ∙ later.run_is;
    same = stays_on (pass_at s.lattice s.run.via_cost s.run.workers (k + 1)) old.board s.board t.board later.same
        one.is.nets.grows;
  }

pub later_same : (s : PassStateOf) → IsLaterOf s s
later_same s = record { lattice_is = refl; run_is = refl; same = stays_same s.board }

-- where no further one may follow, or as many were made as there may be, they have ended
pub gone_ended : (made : ℕ) (s : PassStateOf) (more : Bool) → HaveGone made s more
    → IsTrue (not more) ⊎ (s.run.passes ≤ made) → HaveEnded s.run s.board s.lines
gone_ended made s more gone (inl no_more) = gone.ended no_more
gone_ended made s more gone (inr all) =
    let few = gone.passed.passes.few in
    ended_last s.run s.board s.lines gone.some (omega (arith, few, all, gone.count))

-- and so they were gone on with
pub goes_on : (most made : ℕ) (old new : PassStateOf) (more : Bool) → HaveGone made new more → IsLaterOf old new
    → IsTrue (not more) ⊎ (min most new.run.passes ≤ made) → GoesOn most old new
goes_on most made old new more gone later (inl no_more) = record {
  later = later;
  passed = gone.passed;
  ended = λ all. gone_ended made new more gone (inl no_more);
}
goes_on most made old new more gone later (inr enough) = record {
  later = later;
  passed = gone.passed;
  ended = λ all. gone_ended made new more gone (inr (omega (arith, all, enough)));
}

-- later passes of a run are passes of it
pub way_later : (j : RunInput) (first : BoardOf) (old new : PassStateOf) → IsOnTheWay j first old → IsLaterOf old new
    → IsOnTheWay j first new
way_later j first old new way later = record {
  lattice_is = later.lattice_is ∙ way.lattice_is;
  run_is = later.run_is ∙ way.run_is;
  same = stays_then first old.board new.board way.same later.same;
}

-- a pass was made, and its line put behind the others
pub one_more : (number : ℕ) (penalty : Option ℕ) (s before n t : PassStateOf) (line : PassLine) (full more : Bool)
    → before ≡ s → IsMadeBy penalty before n line full → penalty ≡ penalty_of number
    → t ≡ record n { lines = n.lines ++ line ∷ [] }
    → (IsTrue more → (0 < line.parted) × (1 < number → 0 < line.commits) × IsTrue (not full))
    → (IsTrue (not more) → EndsBy number line full) → IsOneMore number s t more
one_more number penalty s before n t line full more same made price is goes ends =
    subst (λ (x : PassStateOf). IsOneMore number s x more) (sym is) (record {
      line = line;
      full = full;
      lattice_is = by.lattice_is;
      run_is = by.run_is;
      lines_are = ap (λ (ls : List PassLine). ls ++ line ∷ []) by.lines_are;
      is = subst (λ (q : Option ℕ). IsMade (pass_from s.lattice s.run.via_cost s.run.workers [] q) s.board n.board line
          full) price by.is;
      goes_on = goes;
      ended = ends;
    })
  where
    by : IsMadeBy penalty s n line full
    by = subst (λ (x : PassStateOf). IsMadeBy penalty x n line full) same made
