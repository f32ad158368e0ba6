use Rattle.std.proofs.Common.{take}
use Rattle.closing_pass.proofs.Naming.{AreNamedAmong}
use Rattle.closing_pass.proofs.helps.named_ids.Given as goal

abbrev pub invariant-loop-block : goal.invariant-loop-block
invariant-loop-block l = AreNamedAmong l.tiles.items (take l.block-index l.cut.blocked) l.ids.items
