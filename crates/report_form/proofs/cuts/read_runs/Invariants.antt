use Rattle.std.proofs.Common.{◌+◌, ◌≤◌, ℕ, List, length}
use Rattle.report_form.specs.Form.{CutTold, NetTold, Told}
use Rattle.report_form.specs.inner.Halts.{RunsRead}
use Rattle.report_form.specs.inner.State.{IsPage, Page}
use Rattle.report_form.proofs.cuts.read_runs.Given as goal

abbrev pub invariant-loop-taken : goal.invariant-loop-taken
invariant-loop-taken l = record {
  read : (p : Page) (h : Told) (ns : List NetTold) (w : List ℕ) (cs : List CutTold) (c : CutTold) → IsPage p
      → RunsRead p h ns w cs c l.fn.runs l.fn.text → RunsRead p h ns w cs c l.runs l.left;
  shorter : l._taken + length l.left ≤ length l.fn.text;
}
