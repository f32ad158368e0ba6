use Rattle.std.proofs.Common.{◌≡◌, drop}
use Rattle.std.specs.List.{list_all}
use Rattle.pcb_model.specs.declared.design.FreeWire.{FreeWire}
use Rattle.pcb_model.specs.Scale.{is_whole_metal}
use Rattle.pcb_model.proofs.scale.has_whole_free.Given as goal

abbrev pub invariant-loop-w : goal.invariant-loop-w
invariant-loop-w l =
    list_all (λ (w : FreeWire). is_whole_metal l.d l.nm w.metal) (drop l.w-index l.free)
    ≡ list_all (λ (w : FreeWire). is_whole_metal l.d l.nm w.metal) l.free
