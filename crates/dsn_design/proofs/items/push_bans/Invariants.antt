use Rattle.std.proofs.Common.{◌≡◌, ◌++◌, take}
use Rattle.std.specs.Prelude.{map}
use Rattle.dsn_design.specs.Items.{ban_item}
use Rattle.dsn_design.proofs.items.push_bans.Given as goal

abbrev pub invariant-loop-ban : goal.invariant-loop-ban
invariant-loop-ban l = l.items ≡ l.initial.items ++ map (ban_item l.n) (take l.ban-index l.bans)
