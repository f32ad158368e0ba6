-- The first of the lines after which the least is open.
use Rattle.std.proofs.Common.{◌≡◌, ◌+◌, ◌-◌, Some, ◌≤◌, ◌<◌, ℕ, subst, arith, List, length, get_or}
use Rattle.std.specs.Prelude.{slice_get}
use Rattle.std.proofs.lemmas.Option.{get_or_from_slice_get, slice_get-get_or, slice_get_within}
use Rattle.route_run.specs.declared.facts.PassLine.{PassLine}
use Rattle.route_run.specs.Runs.{IsBest}
use Rattle.route_run.specs.inner.Passing.{IsBestOf}

-- a made-up line, for what has to have one
abbrev pub no_line : PassLine
no_line = record { commits = 0; parted = 0 }

-- the best of all lines is the best
pub best : (lines : List PassLine) (place : ℕ) → IsBestOf lines (length lines) place → IsBest lines (place + 1)
best lines place is =
    let line : PassLine = get_or lines place no_line in
    record {
      counted = omega arith;
      line = line;
      line_is =
          let at : place ≡ place + 1 - 1 = omega arith in
          subst (λ (k : ℕ). slice_get lines k ≡ Some line) at (slice_get-get_or lines place no_line is.within);
      least = λ k other at.
          let within = slice_get_within lines k other at in
          subst (λ (x : PassLine). line.parted ≤ x.parted) (get_or_from_slice_get lines k other no_line at)
          (is.least k no_line within);
      first = λ k other at before.
          subst (λ (x : PassLine). line.parted < x.parted) (get_or_from_slice_get lines k other no_line at)
          (is.first k no_line (omega (arith, before)));
    }
