use Rattle.std.proofs.Common.{All, length, ap, ◌∙◌, sym, subst, arith}
use Rattle.pcb_tiles.specs.Cells.{without_item}
use Rattle.pcb_tiles.specs.Shelves.{flat, IsChunk}
use Rattle.std.proofs.lemmas.Result.{IfOk-weaker}
use Rattle.pcb_tiles.proofs.Shelves.{take_fits, take_flat, chunks_all}
use Rattle.pcb_tiles.proofs.shelf.take.Goals as goal

pub cut-requires : goal.cut-requires
cut-requires c =
    let m = take_fits c.args.chunks.now c.room_of-k.result c.args.id c.requires.each in
    let e = ap length (c.in_ok-items.ensures ∙ ap (without_item c.args.id) c.chunk_at.ensures) in
    omega (arith, m, e)

pub returns-clause-items : goal.returns-clause-items
returns-clause-items c =
    IfOk-weaker _ _ _ (λ all is. take_flat c.args.chunks.now c.as_slice.result.now all c.room_of-k.result c.args.id
    c.room_of-k.ensures.room
    (ap flat c.as_slice.ensures
    ∙ (c.in_ok-changed.ensures.items ∙ (c.in_ok-items.ensures ∙ ap (without_item c.args.id) c.chunk_at.ensures)))
    is) c.replaced.ensures

pub returns-clause-chunks : goal.returns-clause-chunks
returns-clause-chunks c =
    IfOk-weaker _ _ _ (λ all is.
    chunks_all c.args.chunks.now c.as_slice.result.now all c.room_of-k.result c.requires.each
    (subst (All IsChunk) (sym c.as_slice.ensures) c.in_ok-changed.ensures.chunks) is) c.replaced.ensures
