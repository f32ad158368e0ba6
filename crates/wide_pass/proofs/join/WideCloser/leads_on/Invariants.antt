use Rattle.std.proofs.Common.{take}
use Rattle.pcb_islands.specs.Islands.{AreIslands}
use Rattle.wide_pass.specs.inner.Sizes.{AddsSizes}
use Rattle.wide_pass.proofs.join.WideCloser.leads_on.Given as goal

abbrev pub invariant-loop-place : goal.invariant-loop-place
invariant-loop-place l = record {
  islands : AreIslands l.snap.design l.snap.items l.net l.found;
  sizes : AddsSizes l.self.lat.now l.self.via_cost l.snap (take l.place l.cuts) l.fn.wide l.wide;
}
