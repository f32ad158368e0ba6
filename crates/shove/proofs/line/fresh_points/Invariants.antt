use Rattle.std.proofs.Common.{◌≡◌, ◌∷◌, take}
use Rattle.geo_kernel.specs.Spine.{last_of}
use Rattle.shove.specs.Shoves.{fresh_after}
use Rattle.shove.proofs.line.fresh_points.Given as goal

abbrev pub invariant-loop-q : goal.invariant-loop-q
invariant-loop-q l = record {
  fresh_is : l.fresh
      ≡ l.fn.first ∷ fresh_after l.fn.first (take l.q-index l.rest);
  last_is : l.last
      ≡ last_of l.fn.first (take l.q-index l.rest);
}
