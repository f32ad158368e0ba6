use Rattle.std.proofs.Common.{◌≡◌, ◌∙◌, List, Result, Ok, Err, ap, map}
use Rattle.std.specs.Prelude.{IfOk}
use Rattle.pcb_model.specs.declared.design.FreeWire.{FreeWire}
use Rattle.ses_reader.specs.Wiring.{wire_of}
use Rattle.session_start.specs.Starting.{with_free}
use Rattle.session_start.proofs.start.wiring_left.Goals as goal

ok_so : {E : Type 0} (P Q : List FreeWire → Type 0) → ((ws : List FreeWire) → P ws → Q ws)
    → (r : Result (List FreeWire) E) → IfOk r P → IfOk r Q
ok_so P Q f (Ok ws) h = f ws h
ok_so P Q f (Err e) h = h

pub returns : goal.returns
returns c = ok_so (λ (ws : List FreeWire). ws ≡ map wire_of c.as_slice.result.now) _
    (λ ws e. ap (with_free c.args.d.now) (e ∙ ap (map wire_of) (c.as_slice.ensures ∙ c.in_ok-left.ensures)))
    c.wires_of-wires.result c.wires_of-wires.ensures
