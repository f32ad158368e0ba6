use Rattle.std.proofs.Common.{◌≡◌, ◌+◌, ◌-◌, ◌^◌, ◌≤◌, [], ℕ, List, length}
use Rattle.report_form.specs.Form.{NetTold, Told}
use Rattle.report_form.specs.Reading.{capped}
use Rattle.report_form.specs.inner.Halts.{CutsRead, IsSoFar}
use Rattle.report_form.specs.inner.State.{At, IsPage, Opened, Page, firsts_after}
use Rattle.report_form.proofs.nets.read_cuts.Given as goal

abbrev pub invariant-loop-k : goal.invariant-loop-k
invariant-loop-k l = record {
  read : (p : Page) (h : Told) (ns : List NetTold) (w : List ℕ) → IsPage p → At p (Opened h ns w) l.fn.at.rest.now
      → IsSoFar ns [] l.fn.at.told → l.islands ≡ capped (2 ^ 64 - 1) w → l.firsts ≡ firsts_after p.firsts ns
      → CutsRead p h ns w l.k l.cuts l.told l.left;
  shorter : l.k + length l.left ≤ length l.fn.at.rest.now;
}
