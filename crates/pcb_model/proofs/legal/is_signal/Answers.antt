use Rattle.std.proofs.Common.{◌≡◌, not, false, slice_get}
use Rattle.pcb_model.specs.declared.design.BoardLayer.{BoardLayer}
use Rattle.pcb_model.proofs.Lookups.{got, got_none, told_some, told_none, not_true}
use Rattle.pcb_model.proofs.legal.is_signal.Goals as goal

pub returns-in-Some : goal.returns-in-Some
returns-in-Some c =
    let look = c.in-Some.ensures.lookup in
    let at = got c.as_slice.result.now c.args.d.now.layers c.args.layer c.in-Some.l.now c.as_slice.ensures look.1
    look.3.0 in
    told_some (λ (l : BoardLayer). l.power ≡ false) (slice_get c.args.d.now.layers c.args.layer) c.in-Some.l.now
    (not c.in-Some.l.now.power) at (not_true c.in-Some.l.now.power)

pub returns-in-None : goal.returns-in-None
returns-in-None c =
    let at = got_none c.as_slice.result.now c.args.d.now.layers c.args.layer c.as_slice.ensures
    c.in-None.ensures.lookup.3 in
    told_none (λ (l : BoardLayer). l.power ≡ false) (slice_get c.args.d.now.layers c.args.layer) at
