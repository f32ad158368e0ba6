use Rattle.std.proofs.Common.{◌≡◌, ◌++◌, take}
use Rattle.pcb_tiles.specs.Spread.{holding}
use Rattle.board_offers.specs.Items.{without}
use Rattle.pcb_board.proofs.renew.change_tiles.Given as goal

abbrev pub invariant-loop-id : goal.invariant-loop-id
invariant-loop-id l = l.tiles ≡ holding l.fn.tiles (without (take l.id-index l.gone) l.fn.tiles.items)

abbrev pub invariant-loop-item : goal.invariant-loop-item
invariant-loop-item l = l.tiles ≡ holding l.fn.tiles (without l.gone l.fn.tiles.items ++ take l.item-index l.come)
