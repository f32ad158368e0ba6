use Rattle.std.proofs.Common.{◌≡◌, drop}
use Rattle.picture_call.specs.Drawing.{laid_on}
use Rattle.picture_call.specs.inner.Growing.{IsGrown}
use Rattle.picture_call.proofs.copper.lay_wires.Given as goal

abbrev pub invariant-loop-w : goal.invariant-loop-w
invariant-loop-w l = record {
  grown : IsGrown l.d l.copper;
  rest : laid_on l.d l.copper (drop l.w-index l.wires) ≡ laid_on l.d l.d.fixed l.wires;
}
