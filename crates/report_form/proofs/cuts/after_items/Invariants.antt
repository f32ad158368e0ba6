use Rattle.std.proofs.Common.{◌+◌, ◌≤◌, ℕ, List, length}
use Rattle.report_form.specs.Form.{CutTold, NetTold, Told}
use Rattle.report_form.specs.inner.Halts.{ItemsRead}
use Rattle.report_form.specs.inner.State.{At, IsEarly, IsPage, Page, Parts}
use Rattle.report_form.proofs.cuts.after_items.Given as goal

abbrev pub invariant-loop-taken : goal.invariant-loop-taken
invariant-loop-taken l = record {
  read : (p : Page) (h : Told) (ns : List NetTold) (w : List ℕ) (cs : List CutTold) (c : CutTold) → IsPage p
      → At p (Parts h ns w cs c) l.fn.text → IsEarly c → ItemsRead p h ns w cs c l.left;
  shorter : l._taken + length l.left ≤ length l.fn.text;
}
