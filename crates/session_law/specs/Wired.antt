-- What the wiring of a design that was read keeps to.
use Rattle.std.specs.Prelude.{All}
use Rattle.pcb_model.specs.declared.design.FreeWire.{FreeWire}
use Rattle.pcb_model.specs.declared.design.Design.{Design}
use Rattle.session_law.specs.Back.{HasTwoPoints, IsReadable}

-- Fixed items can be read: wires have two points or more, and copper has the pieces of its metal. So can free wires.
pub record HasWiring (d : Design) : Type 0 where
  pub fixed : All (IsReadable d) d.fixed
  pub free : All (λ (w : FreeWire). HasTwoPoints w.metal) d.free
