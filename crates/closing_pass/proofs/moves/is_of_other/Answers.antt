use Rattle.std.proofs.Common.{◌≡◌, ◌∙◌, ◌==◌, ℕ, Bool, true, false, Some, eq-eqb, refl, sym}
use Rattle.std.specs.Prelude.{◌↔◌, IsTrue, not}
use Rattle.std.proofs.lemmas.Bool.{eqb-true, false≢true}
use Rattle.pcb_model.specs.declared.item.Item.{Item}
use Rattle.closing_pass.specs.inner.Tries.{IsOfOther}
use Rattle.closing_pass.proofs.Closings.{some_same}
use Rattle.closing_pass.proofs.moves.is_of_other.Goals as goal

-- another number
differ : (a : Item) (own net : ℕ) → a.net ≡ Some own → (t : Bool) → (own == net) ≡ t
    → IsTrue (not t) ↔ IsOfOther a net
differ a own net is true e = (
  λ h. absurd (false≢true h),
  λ o. absurd (o.apart (some_same o.own own (sym o.own_is ∙ is) ∙ eqb-true own net e)),
)
differ a own net is false e = (
  λ h. record { own = own; own_is = is; apart = λ same. false≢true (sym e ∙ eq-eqb own net same) },
  λ o. refl,
)

pub returns-in-Some : goal.returns-in-Some
returns-in-Some c = differ c.args.item.now c.in-Some.own c.args.net c.in-Some.is (c.in-Some.own == c.args.net) refl
