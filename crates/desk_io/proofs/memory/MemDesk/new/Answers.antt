use Rattle.std.proofs.Common.{ap, false}
use Rattle.desk_io.specs.States.{DeskState}
use Rattle.desk_io.proofs.memory.MemDesk.new.Goals as goal

pub returns-clause-state : goal.returns-clause-state
returns-clause-state c = ap (λ (s : DeskState). record s { calm = false }) (c.in_ok-desk.ensures {u = tt})
