use Rattle.std.specs.Prelude.{All}
use Rattle.route_lattice.specs.Parts.{IsBoxWithin}
use Rattle.wave_search.proofs.Around.{AreHeld}
use Rattle.wave_search.proofs.box_bound.take_in_nodes.Given as goal

abbrev pub invariant-loop-v : goal.invariant-loop-v
invariant-loop-v l = record {
  within : All IsBoxWithin l.boxes.items;
  held : AreHeld l.lat l.nodes l.v-index l.boxes.items;
}
