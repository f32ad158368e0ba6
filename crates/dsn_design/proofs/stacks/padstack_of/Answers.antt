use Rattle.std.proofs.Common.{◌∙◌, ap, flat_map, sym, subst}
use Rattle.std.specs.Prelude.{All}
use Rattle.pcb_model.specs.Bounds.{IsFit}
use Rattle.dsn_design.specs.Copper.{pieces_of, stack_pieces}
use Rattle.dsn_design.proofs.Fitting.{stack_fit}
use Rattle.dsn_design.proofs.stacks.padstack_of.Goals as goal

pub is_usable-usable-requires-clause-fit : goal.is_usable-usable-requires-clause-fit
unfolding stack_pieces
is_usable-usable-requires-clause-fit c =
    subst (All IsFit)
    (sym (c.as_slice-2.ensures ∙ c.in_ok-pieces.ensures ∙ ap (flat_map (pieces_of c.args.n)) c.as_slice.ensures))
    (stack_fit c.args.n c.args.stack.now c.requires.fit)
