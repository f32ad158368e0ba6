use Rattle.std.proofs.Common.{◌≡◌, ◌++◌, take}
use Rattle.std.specs.Prelude.{map}
use Rattle.dsn_design.specs.Items.{placed_ban}
use Rattle.dsn_design.proofs.items.push_placed_bans.Given as goal

abbrev pub invariant-loop-ban : goal.invariant-loop-ban
invariant-loop-ban l = l.items ≡ l.initial.items ++ map (placed_ban l.parts l.place) (take l.ban-index l.bans)
