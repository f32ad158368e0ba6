-- A text has one design or one refusal by number, and not both; so it is with sessions.
use Rattle.std.proofs.Common.{◌≡◌, ◌∙◌, sym, ap, inl, inr, ℕ, List, Option, Some, unwrap_or}
use Rattle.pcb_model.specs.declared.design.Design.{Design}
use Rattle.dsn_shapes.specs.declared.refusal.Refusal.{Refusal}
use Rattle.dsn_design.specs.Reading.{HasDesign, OneOutcome}
use Rattle.ses_reader.specs.declared.item.SesItem.{SesItem}
use Rattle.ses_reader.specs.Reading.{HasSession, OneSession}
use Rattle.dsn_route.specs.Texts.{tree_refusal, LacksDesign}
use Rattle.dsn_route.specs.Judging.{IsNoSession}

one_refusal : (r s : Refusal) (o : Option Refusal) → o ≡ Some r → o ≡ Some s → r ≡ s
one_refusal r s o first second = ap (λ (p : Option Refusal). unwrap_or p r) (sym first ∙ second)

module _ (one : OneOutcome) (text : List ℕ) where
  pub one_design : (d e : Design) → HasDesign text d → HasDesign text e → d ≡ e
  one_design d e a b = one.designs text d e a b

  pub one_lack : (r s : Refusal) → LacksDesign text r → LacksDesign text s → r ≡ s
  one_lack r s (inl a) (inl b) =
      one_refusal r s (tree_refusal a.fault) a.refusal (ap tree_refusal
      (one.faults text a.fault b.fault a.has b.has) ∙ b.refusal)
  one_lack r s (inl a) (inr b) = absurd (one.apart text a.fault s a.has b)
  one_lack r s (inr a) (inl b) = absurd (one.apart text b.fault r b.has a)
  one_lack r s (inr a) (inr b) = one.refusals text r s a b

  pub apart : (d : Design) (r : Refusal) → HasDesign text d → LacksDesign text r → ⊥
  apart d r a (inl b) = one.no_fault text d b.fault a b.has
  apart d r a (inr b) = one.no_refusal text d r a b

-- a text that has a session isn't refused as one
pub no_session : OneSession → (text : List ℕ) (d : Design) (items : List SesItem) (place : ℕ) → HasSession text d items
    → IsNoSession text d place → ⊥
no_session single text d items place has (inl (f, fault, is)) = single.no_fault text d items f has fault
no_session single text d items place has (inr (number, refused)) =
    single.no_refusal text d items number place has refused
