use Rattle.std.proofs.Common.{◌≡◌, All, take}
use Rattle.pcb_model.specs.declared.item.Item.{Item}
use Rattle.pcb_model.specs.declared.item.Metal.TheVariants.{Pad}
use Rattle.pcb_islands.proofs.pad.scanned.Given as goal

abbrev pub invariant-loop-place : goal.invariant-loop-place
invariant-loop-place l = All (λ (a : Item). a.metal ≡ Pad l.pin → ⊥) (take l.place l.fixed)
