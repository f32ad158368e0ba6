use Rattle.std.proofs.Common.{◌≡◌, ◌<◌, ◌^◌, List, All, arith, refl, ◌∙◌, sym, subst}
use Rattle.pcb_model.specs.declared.item.Item.{Item}
use Rattle.pcb_tiles.specs.Shelves.{flat, IsChunk, AreChunks}
use Rattle.pcb_tiles.proofs.Changes.{spread_with}
use Rattle.pcb_tiles.proofs.Shelves.{put_kept}
use Rattle.pcb_tiles.proofs.parts.with_held.Goals as goal

pub put-requires-clause-chunks : goal.put-requires-clause-chunks
put-requires-clause-chunks c =
    subst AreChunks (sym (c.as_slice.ensures ∙ c.get-2.ensures))
    (record { ascends = c.requires.spread.ascends; each = c.requires.spread.chunks })

pub put-requires-clause-absent : goal.put-requires-clause-absent
put-requires-clause-absent c =
    let F : List (List Item) → Type 0 = λ x. All (λ (b : Item). b.id ≡ c.args.held.now.id → ⊥) (flat x) in
    subst F (sym (c.as_slice.ensures ∙ c.get-2.ensures)) c.requires.absent

pub returns-clause-items : goal.returns-clause-items
returns-clause-items c =
    put_kept c.args.shelf.now c.as_slice.result.now c.in_ok-list.list c.in_ok-kept.kept c.args.held.now
    c.args.held.now c.in_ok-kept.ensures.ok c.in_ok-list.ensures.items refl (c.as_slice.ensures ∙ c.get-2.ensures)

pub returns-clause-spread : goal.returns-clause-spread
returns-clause-spread c =
    let l : c.args.held.now.id < 2 ^ 64 = subst (λ (x : Item). x.id < 2 ^ 64) c.get.ensures (omega arith) in
    spread_with c.args.area c.args.reach c.args.shelf.now c.in_ok-kept.kept c.args.grid.now c.in_ok-after.after
    c.args.held.now c.requires.spread c.requires.fits l
    (subst (All IsChunk) (sym c.in_ok-kept.ensures.ok) c.in_ok-list.ensures.chunks)
    (put_kept c.args.shelf.now c.as_slice.result.now c.in_ok-list.list c.in_ok-kept.kept c.args.held.now
    c.args.held.now c.in_ok-kept.ensures.ok c.in_ok-list.ensures.items refl (c.as_slice.ensures ∙ c.get-2.ensures))
    c.in_ok-after.ensures
