use Rattle.std.proofs.Common.{◌≡◌, ◌+◌, ◌-◌, ◌^◌, ◌≤◌, [], length}
use Rattle.report_form.specs.Form.{Told}
use Rattle.report_form.specs.Reading.{capped}
use Rattle.report_form.specs.inner.Halts.{PlacesFirst}
use Rattle.report_form.specs.inner.State.{At, Dropping, IsPage, Page}
use Rattle.report_form.proofs.passes.after_places.Given as goal

abbrev pub invariant-loop-taken : goal.invariant-loop-taken
invariant-loop-taken l = record {
  read : (p : Page) (h : Told) → IsPage p → At p (Dropping h []) l.fn.text → l.wanted ≡ capped (2 ^ 64 - 1) h.dropped
      → PlacesFirst p h l._taken l.rest;
  shorter : l._taken + length l.rest ≤ length l.fn.text;
}
