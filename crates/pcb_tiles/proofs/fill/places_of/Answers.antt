use Rattle.std.proofs.Common.{All, sym, subst, ◌∙◌}
use Rattle.pcb_tiles.specs.Filling.{IsMade}
use Rattle.pcb_tiles.proofs.Filling.{all_made}
use Rattle.pcb_tiles.proofs.fill.places_of.Goals as goal

pub spread-requires-clause-made : goal.spread-requires-clause-made
spread-requires-clause-made c =
    subst (All IsMade) (sym (c.as_slice.ensures ∙ c.in_ok-entries.ensures)) (all_made c.args.held.now c.requires.fit)
