use Rattle.std.proofs.Common.{◌≡◌, ◌+◌, All, take}
use Rattle.board_offers.specs.Items.{replaced_from}
use Rattle.board_offers.specs.inner.Adding.{MayShove}
use Rattle.board_offers.proofs.shoves.replacements.Given as goal

abbrev pub invariant-loop-s : goal.invariant-loop-s
invariant-loop-s l = record {
  items : l.items.items ≡ replaced_from l.d l.given l.first (take l.s-index l.shoves);
  counted : l.id ≡ l.first + l.s-index;
  each : All (MayShove l.d l.given l.net l.added) (take l.s-index l.shoves);
}
