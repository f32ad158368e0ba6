use Rattle.std.proofs.Common.{◌≡◌, ◌≤◌, take, vec_len}
use Rattle.route_lattice.specs.Gather.{anchors_of}
use Rattle.route_lattice.proofs.gather.anchors.Given as goal

abbrev pub invariant-loop-p : goal.invariant-loop-p
invariant-loop-p l =
    record {
      listed : l.found.items ≡ anchors_of l.unit l.upright (take l.p-index l.pins);
      few : vec_len l.found
          ≤ l.p-index;
    }
