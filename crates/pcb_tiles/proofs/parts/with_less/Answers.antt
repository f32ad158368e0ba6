use Rattle.std.proofs.Common.{All, ◌∙◌, sym, subst}
use Rattle.pcb_tiles.specs.Shelves.{flat, IsChunk, AreChunks}
use Rattle.pcb_tiles.proofs.Changes.{grid_take_is, spread_without}
use Rattle.pcb_tiles.proofs.Shelves.{take_kept}
use Rattle.pcb_tiles.proofs.parts.with_less.Goals as goal

pub take-requires : goal.take-requires
take-requires c =
    subst AreChunks (sym (c.as_slice.ensures ∙ c.get.ensures))
    (record { ascends = c.requires.spread.ascends; each = c.requires.spread.chunks })

pub returns-clause-items : goal.returns-clause-items
returns-clause-items c =
    take_kept c.args.shelf.now c.as_slice.result.now c.in_ok-list.list c.in_ok-kept.kept c.args.a.now.id
    c.in_ok-kept.ensures.ok c.in_ok-list.ensures.items (c.as_slice.ensures ∙ c.get.ensures)

pub returns-clause-spread : goal.returns-clause-spread
returns-clause-spread c =
    spread_without c.args.area c.args.reach c.args.shelf.now c.in_ok-kept.kept c.args.grid.now c.in_ok-after.after
    c.args.a.now.id
    c.requires.spread (subst (All IsChunk) (sym c.in_ok-kept.ensures.ok) c.in_ok-list.ensures.chunks)
    (take_kept c.args.shelf.now c.as_slice.result.now c.in_ok-list.list c.in_ok-kept.kept c.args.a.now.id
    c.in_ok-kept.ensures.ok c.in_ok-list.ensures.items (c.as_slice.ensures ∙ c.get.ensures))
    (grid_take_is c.args.area c.args.a.now (flat c.args.shelf.now) c.args.grid.now c.in_ok-after.after
    c.own_block_of-b.result c.in_ok-after.ensures c.own_block_of-b.ensures c.requires.spread.grid_is c.requires.only)
