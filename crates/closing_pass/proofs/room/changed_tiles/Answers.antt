use Rattle.std.proofs.Common.{◌≡◌, ◌∙◌, ap, sym, subst}
use Rattle.pcb_tiles.specs.Spread.{ServesSpread, Spread}
use Rattle.closing_pass.proofs.Roomed.{can_put, room_of}
use Rattle.closing_pass.proofs.room.changed_tiles.Goals as goal

pub put-requires : goal.put-requires
put-requires c =
    let e = rw c.in-Some.is at c.in_ok-item.ensures.ok in
    can_put c.args.board.now.design c.in_ok-tiles.tiles.items c.remove.new.self.items c.in-Some.item c.args.id
    c.args.moved c.in_order.ensures.ascends e.1.items e.0 c.requires.moved_fits

pub returns : goal.returns
returns c =
    let e = rw c.in-Some.is at c.in_ok-item.ensures.ok in
    let b = c.args.board.now in
    let same = c.in_ok-tiles.ensures in
    let items : c.in_ok-tiles.tiles.items ≡ b.items =
    ap (λ (t : Spread). t.items) same ∙ c.items.ensures.items in
    room_of b c.args.id c.args.moved c.in_ok-tiles.tiles c.remove.new.self c.put.new.tiles c.in-Some.item
    c.in_ok-gone.gone c.in_ok-come.come c.in_order.ensures.ascends
    (subst (λ (t : Spread). ServesSpread t b.design) (sym same) c.items.ensures.serves) items e.0 e.1 c.requires
    c.in_ok-come.ensures c.in_ok-gone.ensures
