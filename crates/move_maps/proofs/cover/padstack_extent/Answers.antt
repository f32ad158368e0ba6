use Rattle.std.proofs.Common.{List, All, sym, subst}
use Rattle.pcb_model.specs.declared.item.Piece.{Piece}
use Rattle.pcb_model.specs.Bounds.{IsFit}
use Rattle.pcb_model.specs.Near.{IsExtentOf}
use Rattle.pcb_model.specs.Pieces.{padstack_pieces}
use Rattle.pcb_model.proofs.Probes.{stack_fit}
use Rattle.move_maps.proofs.Covering.{pieces_still}
use Rattle.move_maps.proofs.cover.padstack_extent.Goals as goal

pub of_probe-requires-clause-p_fits : goal.of_probe-requires-clause-p_fits
of_probe-requires-clause-p_fits c =
    let ps = padstack_pieces c.args.d.now c.args.padstack in
    record {
      pieces_fit = subst (All IsFit) (sym (pieces_still ps))
          (stack_fit c.args.d.now c.args.padstack c.requires.fits);
    }

pub returns-clause-has : goal.returns-clause-has
returns-clause-has c =
    let ps = padstack_pieces c.args.d.now c.args.padstack in
    subst (λ (rs : List Piece). IsExtentOf rs c.of_probe.result) (pieces_still ps) c.of_probe.ensures.has
