use Rattle.std.proofs.Common.{◌≡◌, ◌+◌, take}
use Rattle.board_offers.specs.Items.{added_from}
use Rattle.board_offers.proofs.make.added_items.Given as goal

abbrev pub invariant-loop-m : goal.invariant-loop-m
invariant-loop-m l = record {
  items : l.items.items ≡ added_from l.d l.net l.first (take l.m-index l.add);
  counted : l.id ≡ l.first + l.m-index;
}
