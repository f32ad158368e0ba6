use Rattle.std.proofs.Common.{ℕ, ◌≤◌, Option, true, IsTrue, ◌↔◌, refl, sym, subst}
use Rattle.std.specs.Prelude.{IfSome}
use Rattle.pcb_model.specs.Rules.{width_for}
use Rattle.std.proofs.Math.Dec.{leb}
use Rattle.std.proofs.lemmas.Bool.{leb-true, le-leb}
use Rattle.pcb_model.proofs.legal.is_wide_enough.Goals as goal

pub returns-in-None : goal.returns-in-None
returns-in-None c =
    subst (λ (o : Option ℕ). IsTrue true ↔ IfSome o (λ n. width_for c.args.d.now n ≤ c.args.width)) (sym c.in-None.is)
    (λ t. tt, λ h. refl)

pub returns-in-Some : goal.returns-in-Some
returns-in-Some c =
    let w = c.width_of.ensures in
    let F : ℕ → Type 0 = λ n. n ≤ c.args.width in
    subst (λ (o : Option ℕ). IsTrue (leb c.width_of.result c.args.width)
    ↔ IfSome o (λ n. width_for c.args.d.now n ≤ c.args.width)) (sym c.in-Some.is)
    (λ t. subst F w (leb-true _ _ t), λ h. le-leb _ _ (subst F (sym w) h))
