use Rattle.std.proofs.Common.{◌∙◌, subst, sym}
use Rattle.dsn_shapes.specs.Within.{IsLibraryWithin}
use Rattle.dsn_library.specs.Sound.{IsLibrarySound}
use Rattle.dsn_library.proofs.Bounded.{library_within}
use Rattle.dsn_library.proofs.Sound.{library_sound}
use Rattle.dsn_library.proofs.library.read_library.Goals as goal

pub returns-in-None-clause-within : goal.returns-in-None-clause-within
returns-in-None-clause-within c =
    subst IsLibraryWithin (sym c.in-Ok.ensures.value) (library_within c.args.s.nm c.args.layers.now c.args.pcb.now)

pub returns-in-None-clause-sound : goal.returns-in-None-clause-sound
returns-in-None-clause-sound c =
    subst IsLibrarySound (sym c.in-Ok.ensures.value)
    (library_sound c.args.s.nm c.args.layers.now c.args.pcb.now (sym c.in-Ok.ensures.noted ∙ c.in-None.is))
