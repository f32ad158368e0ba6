use Rattle.std.proofs.Common.{All, take}
use Rattle.pcb_model.specs.declared.item.Piece.{Piece}
use Rattle.dsn_design.specs.Usable.{CoversOn}
use Rattle.dsn_design.proofs.usable.is_covered.Given as goal

abbrev pub invariant-loop-r : goal.invariant-loop-r
invariant-loop-r l = All (λ (r : Piece). ¬ (CoversOn l.p.layer r)) (take l.r-index l.all)
