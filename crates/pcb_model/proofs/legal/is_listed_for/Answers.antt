use Rattle.std.proofs.Common.{ℕ, Option, true, IsTrue, ◌↔◌, refl, sym, subst}
use Rattle.std.specs.Prelude.{IfSome}
use Rattle.pcb_model.specs.Board.{IsListed}
use Rattle.pcb_model.proofs.legal.is_listed_for.Goals as goal

pub returns-in-Some : goal.returns-in-Some
returns-in-Some c =
    subst (λ (o : Option ℕ). IsTrue c.is_listed.result ↔ IfSome o (λ n. IsListed c.args.d.now n c.args.padstack))
    (sym c.in-Some.is) c.is_listed.ensures

pub returns-in-None : goal.returns-in-None
returns-in-None c =
    subst (λ (o : Option ℕ). IsTrue true ↔ IfSome o (λ n. IsListed c.args.d.now n c.args.padstack)) (sym c.in-None.is)
    (λ t. tt, λ h. refl)
