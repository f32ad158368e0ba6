use Rattle.std.proofs.Common.{List, ℕ, subst}
use Rattle.route_lattice.specs.Found.{Gains, IsAnchorNode}
use Rattle.route_lattice.proofs.Windows.{anchors_are}
use Rattle.route_lattice.proofs.found.anchor_nodes.Goals as goal

pub returns : goal.returns
returns c =
    let N = IsAnchorNode c.args.d.now c.args.lat.now c.args.item.now in
    anchors_are c.args.d.now c.args.lat.now c.args.item.now _ _
    (subst (λ (old : List ℕ). Gains N N old c.push_anchors.new.found.items) c.new-found.ensures.items
    c.in_ok-push_anchors.ensures) c.ascending.ensures

pub invariant_of-on : goal.invariant_of-on
invariant_of-on c = record { sound = c.requires.sound; fits = c.requires.fits; item_fits = c.requires.item }
