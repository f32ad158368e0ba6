use Rattle.std.proofs.Common.{List, ◌++◌, ap, flat_map}
use Rattle.std.specs.List.{enumerate_from}
use Rattle.pcb_model.specs.declared.design.BoardLayer.{BoardLayer}
use Rattle.board_picture.specs.Legend.{layer_row}
use Rattle.ses_writer.proofs.Puts.{with_next, at_end, leads_on, all_put}
use Rattle.board_picture.proofs.legend.put_layer_rows.Goals as goal

pub loop-i-init : goal.loop-i-init
loop-i-init c = record {
  is = ap (λ (ls : List BoardLayer). c.args.out.now.items ++ flat_map layer_row (enumerate_from 0 ls))
      c.as_slice-layer-items.ensures;
}

pub loop-i-preserved : goal.loop-i-preserved
loop-i-preserved c =
    let left = with_next (λ (ls : List BoardLayer). flat_map layer_row (enumerate_from c.loop-i.i ls))
    c.as_slice-layer-items.result.now c.loop-i.i c.layer-item.result c.loop-i-test.true c.layer-item.is
    c.loop-i.invariant in
    leads_on left c.in_ok-put_layer_row.ensures

pub returns : goal.returns
returns c =
    all_put (at_end (λ (ls : List BoardLayer). flat_map layer_row (enumerate_from c.loop-i.i ls))
    c.as_slice-layer-items.result.now c.loop-i.i c.loop-i-test.false c.loop-i.invariant)
