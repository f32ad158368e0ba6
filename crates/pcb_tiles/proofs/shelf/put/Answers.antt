use Rattle.std.proofs.Common.{ℕ, All, length, ap, ◌∙◌, sym, subst, arith}
use Rattle.pcb_model.specs.declared.item.Item.{Item}
use Rattle.pcb_tiles.specs.Cells.{with_item}
use Rattle.pcb_tiles.specs.Shelves.{flat, IsRoom, IsChunk}
use Rattle.std.proofs.lemmas.Result.{IfOk-weaker}
use Rattle.pcb_tiles.proofs.Shelves.{put_fits, put_flat, chunks_all}
use Rattle.pcb_tiles.proofs.shelf.put.Goals as goal

pub cut-requires : goal.cut-requires
cut-requires c =
    let m = put_fits c.args.chunks.now c.room_of-k.result c.args.a.now c.requires.chunks.ascends c.requires.chunks.each
    c.requires.absent in
    let e = ap length (c.in_ok-items.ensures ∙ ap (with_item c.args.a.now) c.chunk_at.ensures) in
    omega (arith, m, e)

pub returns-clause-items : goal.returns-clause-items
returns-clause-items c =
    let F : ℕ → Type 0 = λ n. IsRoom c.args.chunks.now n c.room_of-k.result in
    IfOk-weaker _ _ _ (λ all is. put_flat c.args.chunks.now c.as_slice.result.now all c.room_of-k.result c.args.a.now
    (subst F (ap (λ (x : Item). x.id) c.get.ensures) c.room_of-k.ensures.room)
    (ap flat c.as_slice.ensures
    ∙ (c.in_ok-changed.ensures.items ∙ (c.in_ok-items.ensures ∙ ap (with_item c.args.a.now) c.chunk_at.ensures)))
    is) c.replaced.ensures

pub returns-clause-chunks : goal.returns-clause-chunks
returns-clause-chunks c =
    IfOk-weaker _ _ _ (λ all is.
    chunks_all c.args.chunks.now c.as_slice.result.now all c.room_of-k.result c.requires.chunks.each
    (subst (All IsChunk) (sym c.as_slice.ensures) c.in_ok-changed.ensures.chunks) is) c.replaced.ensures
