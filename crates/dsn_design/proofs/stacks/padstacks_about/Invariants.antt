use Rattle.std.proofs.Common.{take}
use Rattle.dsn_design.proofs.Padded.{ArePadstacks}
use Rattle.dsn_design.proofs.stacks.padstacks_about.Given as goal

abbrev pub invariant-loop-stack : goal.invariant-loop-stack
invariant-loop-stack l = ArePadstacks l.n (take l.stack-index l.stacks) l.padstacks
