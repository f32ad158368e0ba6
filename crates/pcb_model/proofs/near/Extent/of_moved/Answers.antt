use Rattle.std.proofs.Common.{arith, ap, ◌∙◌, List, map, max, min}
use Rattle.std.specs.Int.{int_min, int_max}
use Rattle.std.proofs.lemmas.List.{take_all}
use Rattle.geo_kernel.specs.declared.point.Rect4.{Rect4}
use Rattle.pcb_model.specs.declared.item.Piece.{Piece}
use Rattle.pcb_model.specs.Near.{extent_of}
use Rattle.pcb_model.proofs.Least.{box_joined_within, extent_more_moved}
use Rattle.pcb_model.specs.Pieces.{moved_piece}
use Rattle.pcb_model.proofs.Extents.{piece_joined, extent_whole}
use Rattle.pcb_model.proofs.near.Extent.of_moved.Goals as goal

pub loop-p-preserved : goal.loop-p-preserved
loop-p-preserved c =
    let b = c.of_moved_piece.ensures in
    let j = c.joined-extent.ensures in
    record {
      each = piece_joined (moved_piece c.args.by) c.joined-extent.result c.loop-p.extent c.of_moved_piece.result
          c.args.ps.now c.loop-p.p-index c.p-item.result c.loop-p-test.true c.p-item.is
          j.self_in j.other_in c.loop-p.invariant.each b.has;
      width_within = j.width_within;
      within = box_joined_within _ _ _ c.loop-p.invariant.within b.within j.x0 j.y0 j.x1 j.y1;
      least = extent_more_moved (moved_piece c.args.by) c.joined-extent.result c.loop-p.extent c.args.ps.now
          c.loop-p.p-index c.p-item.result c.loop-p-test.true c.p-item.is b.layer_within c.loop-p.invariant.least
          (record {
            x0 = j.x0 ∙ ap (λ (r : Rect4). int_min c.loop-p.extent.bounds.x0 r.x0) b.bounds;
            y0 = j.y0 ∙ ap (λ (r : Rect4). int_min c.loop-p.extent.bounds.y0 r.y0) b.bounds;
            x1 = j.x1 ∙ ap (λ (r : Rect4). int_max c.loop-p.extent.bounds.x1 r.x1) b.bounds;
            y1 = j.y1 ∙ ap (λ (r : Rect4). int_max c.loop-p.extent.bounds.y1 r.y1) b.bounds;
            width = j.width ∙ ap (max c.loop-p.extent.width) b.width;
            first = j.first ∙ ap (min c.loop-p.extent.first) b.first;
            last = j.last ∙ ap (max c.loop-p.extent.last) b.last;
          });
    }

pub returns-clause-has : goal.returns-clause-has
returns-clause-has c =
    extent_whole (moved_piece c.args.by) c.loop-p.extent c.args.ps.now c.loop-p.p-index (omega arith)
    c.loop-p.invariant.width_within c.loop-p.invariant.each

pub returns-clause-least : goal.returns-clause-least
returns-clause-least c =
    c.loop-p.invariant.least
    ∙ ap (λ (ps : List Piece). extent_of (map (moved_piece c.args.by) ps))
    (take_all c.loop-p.p-index c.args.ps.now (omega arith))
