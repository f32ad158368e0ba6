use Rattle.std.proofs.Common.{Bool, true, false, true≢false, IsTrue, Option, Some, refl, sym, subst}
use Rattle.std.specs.Bool.{OnTrue, OnFalse}
use Rattle.pcb_model.specs.declared.item.Probe.{Probe}
use Rattle.route_lattice.specs.Legal.{IsOpen}
use Rattle.route_lattice.proofs.legal.LegalMovesMoves.is_open.Goals as goal

off : (r : Bool) (Q : Type 0) → (Q → IsTrue r) → OnFalse r (Q → ⊥)
off true Q f = tt
off false Q f = λ q. true≢false (sym (f q))

on : (r : Bool) (P : Type 0) → (IsTrue r → P) → OnTrue r P
on true P f = f refl
on false P f = tt

pub returns-in-Some-clause-shut : goal.returns-in-Some-clause-shut
returns-in-Some-clause-shut g c =
    let s = c.args.self.now in
    let F : Option Probe → Type 0 = λ o. IsOpen s.d.now (g.C.Copper.items s.c.now) s.net o in
    off c.is_legal.result _
    (λ h. c.is_legal.ensures.1 (subst F {x = _} {y = Some c.in-Some.p} (sym c.in-Some.ensures.value) h))

pub returns-in-Some-clause-opens : goal.returns-in-Some-clause-opens
returns-in-Some-clause-opens g c =
    let s = c.args.self.now in
    let F : Option Probe → Type 0 = λ o. IsOpen s.d.now (g.C.Copper.items s.c.now) s.net o in
    on c.is_legal.result _
    (λ t. subst F {x = Some c.in-Some.p} {y = _} c.in-Some.ensures.value (c.is_legal.ensures.0 t))
