use Rattle.route_lattice.proofs.mesh.Lattice.anchor.Goals as goal

pub invariant_of-on : goal.invariant_of-on
invariant_of-on c = record { sound = c.requires.sound; fits = c.requires.fits; item_fits = c.requires.item }
