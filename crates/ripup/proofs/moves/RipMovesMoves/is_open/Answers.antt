use Rattle.std.proofs.Common.{Bool, true, false, true≢false, IsTrue, Option, Some, sym, subst}
use Rattle.std.specs.Bool.{OnFalse}
use Rattle.pcb_model.specs.declared.item.Probe.{Probe}
use Rattle.route_lattice.specs.Legal.{IsOpen}
use Rattle.ripup.proofs.moves.RipMovesMoves.is_open.Goals as goal

off : (r : Bool) (Q : Type 0) → (Q → IsTrue r) → OnFalse r (Q → ⊥)
off true Q f = tt
off false Q f = λ q. true≢false (sym (f q))

pub returns-in-Some-clause-shut : goal.returns-in-Some-clause-shut
returns-in-Some-clause-shut g c =
    let s = c.args.self.now in
    let F : Option Probe → Type 0 = λ o. IsOpen s.legal.d.now s.legal.d.now.fixed s.legal.net o in
    off c.is_legal_on_fixed.result _ (λ h. c.is_legal_on_fixed.ensures.1
    (subst F {x = _} {y = Some c.in-Some.probe} (sym c.in-Some.ensures.value) h))

pub invariant_of-on : goal.invariant_of-on
invariant_of-on g c = record {
  sound = c.requires.ready.0.can_move.sound;
  fits = c.requires.ready.0.can_move.fits;
  serves = c.requires.ready.1;
  in_order = c.in_order.ensures.ascends;
}
