use Rattle.std.proofs.Common.{◌≡◌, ◌<◌, ◌≤◌, List, All, get_or, length, flat_map, subst}
use Rattle.std.proofs.lemmas.List.{take_all}
use Rattle.pcb_model.specs.declared.item.Item.{Item}
use Rattle.pcb_model.specs.declared.item.Piece.{Piece}
use Rattle.move_maps.specs.Paint.{CoverTogether}
use Rattle.move_maps.specs.Parts.{parts_by}
use Rattle.move_maps.proofs.Linking.{taken_next}
use Rattle.move_maps.proofs.links.link_windows.Goals as goal

pub loop-piece-preserved : goal.loop-piece-preserved
loop-piece-preserved c =
    let e = c.as_slice-piece-items.ensures in
    let k = c.loop-piece.piece-index in let q = c.piece-item.result in
    taken_next c.args.group.now.d c.args.group.now.lat c.args.group.now.first c.args.item.now k q
    c.loop-piece.windows.items
    c.take_piece.new.windows.items (subst (λ (ps : List Piece). k < length ps) e c.loop-piece-test.true)
    (subst (λ (ps : List Piece). q ≡ get_or ps k q) e c.piece-item.is) c.loop-piece.invariant
    (c.take_piece.ensures c.args.item.now)

pub returns : goal.returns
returns c =
    let k = c.loop-piece.piece-index in
    subst (λ (ps : List Piece). All (λ (a : Item). CoverTogether c.args.group.now.d c.args.group.now.lat
    c.args.group.now.first a
    c.loop-piece.windows.items) (flat_map (parts_by c.args.item.now) ps))
    (take_all k c.args.item.now.pieces
    (subst (λ (ps : List Piece). length ps ≤ k) c.as_slice-piece-items.ensures c.loop-piece-test.false))
    c.loop-piece.invariant
