use Rattle.pcb_model.proofs.Extents.{piece_joined}
use Rattle.pcb_model.proofs.Growing.{All-whole}
use Rattle.pcb_model.proofs.Least.{extent_more}
use Rattle.pcb_model.specs.Near.{IsPieceIn, extent_of}
use Rattle.std.proofs.Common.{arith, ap, ◌∙◌, max, min}
use Rattle.std.specs.Int.{int_min, int_max}
use Rattle.geo_kernel.specs.declared.point.Rect4.{Rect4}
use Rattle.std.proofs.lemmas.List.{take_all}
use Rattle.pcb_model.proofs.near.Extent.of_pieces.Goals as goal

pub loop-p-preserved : goal.loop-p-preserved
loop-p-preserved c = record {
  each = piece_joined (λ q. q) c.joined-extent.result c.loop-p.extent c.of_piece.result c.args.ps.now c.loop-p.p-index
      c.p-item.result c.loop-p-test.true c.p-item.is
      c.joined-extent.ensures.self_in c.joined-extent.ensures.other_in c.loop-p.invariant.each c.of_piece.ensures.has;
  width_within = c.joined-extent.ensures.width_within;
  least = extent_more c.joined-extent.result c.loop-p.extent c.args.ps.now c.loop-p.p-index c.p-item.result
      c.loop-p-test.true c.p-item.is c.of_piece.ensures.layer_within c.loop-p.invariant.least
      (let b = c.of_piece.ensures in
      let j = c.joined-extent.ensures in
      record {
        x0 = j.x0 ∙ ap (λ (r : Rect4). int_min c.loop-p.extent.bounds.x0 r.x0) b.bounds;
        y0 = j.y0 ∙ ap (λ (r : Rect4). int_min c.loop-p.extent.bounds.y0 r.y0) b.bounds;
        x1 = j.x1 ∙ ap (λ (r : Rect4). int_max c.loop-p.extent.bounds.x1 r.x1) b.bounds;
        y1 = j.y1 ∙ ap (λ (r : Rect4). int_max c.loop-p.extent.bounds.y1 r.y1) b.bounds;
        width = j.width ∙ ap (max c.loop-p.extent.width) b.width;
        first = j.first ∙ ap (min c.loop-p.extent.first) b.first;
        last = j.last ∙ ap (max c.loop-p.extent.last) b.last;
      });
}

pub returns-clause-has : goal.returns-clause-has
returns-clause-has c =
    record {
      each = All-whole (IsPieceIn c.loop-p.extent) c.args.ps.now c.loop-p.p-index (omega arith)
          c.loop-p.invariant.each;
      width_within = c.loop-p.invariant.width_within;
    }

pub returns-clause-least : goal.returns-clause-least
returns-clause-least c = c.loop-p.invariant.least ∙ ap extent_of (take_all c.loop-p.p-index c.args.ps.now (omega arith))
