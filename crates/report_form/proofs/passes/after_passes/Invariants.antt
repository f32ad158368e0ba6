use Rattle.std.proofs.Common.{◌+◌, ◌≤◌, [], length}
use Rattle.report_form.specs.Form.{Told}
use Rattle.report_form.specs.inner.Halts.{PassesRead}
use Rattle.report_form.specs.inner.State.{At, IsPage, Page, Passing}
use Rattle.report_form.proofs.passes.after_passes.Given as goal

abbrev pub invariant-loop-k : goal.invariant-loop-k
invariant-loop-k l = record {
  read : (p : Page) (h : Told) → IsPage p → At p (Passing h []) l.fn.text → PassesRead p h l.k l.left;
  shorter : l.k + length l.left ≤ length l.fn.text;
}
