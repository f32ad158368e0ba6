use Rattle.std.proofs.Common.{◌≡◌, ◌≤◌, ◌-◌, Some, length}
use Rattle.std.specs.Prelude.{slice_get}
use Rattle.ses_reader.specs.declared.item.SesItem.{SesItem}
use Rattle.route_check.specs.inner.Left.{NoneSame}
use Rattle.route_check.proofs.left.Linked.take_first.Given as goal

-- none before the place was the same, it is the net's, and nothing was taken away
abbrev pub invariant-loop-place : goal.invariant-loop-place
invariant-loop-place l = record {
  none : NoneSame l.a l.self.xs.now l.gone.items l.place;
  within : l.place ≤ length l.self.xs.now;
  own : (x : SesItem) → slice_get l.self.xs.now l.place ≡ Some x → x.net ≡ l.net;
  stays : l.gone.items ≡ l.initial.gone.items;
}

abbrev pub decreases-loop-place : goal.decreases-loop-place
decreases-loop-place l = l.count - l.place
