-- A move that is shut isn't open, and one thing shuts it.
use Rattle.std.proofs.Common.{◌≡◌, ℕ, ◌<◌, List, Option, Some, None, refl, ap, subst, inl, inr, arith}
use Rattle.std.specs.Prelude.{◌↔◌, Contains, IfNone}
use Rattle.std.specs.Option.{IsSomeAnd}
use Rattle.std.proofs.lemmas.Bool.{cases_lt}
use Rattle.std.proofs.lemmas.Option.{none-some}
use Rattle.pcb_model.specs.Copper.{Finds}
use Rattle.pcb_model.specs.Pairs.{ProbeAgrees}
use Rattle.pcb_model.specs.declared.item.Item.{Item}
use Rattle.pcb_model.specs.declared.item.Probe.{Probe}
use Rattle.pcb_model.specs.declared.design.Design.{Design}
use Rattle.route_lattice.specs.Legal.{IsLegalProbe, IsOpen}
use Rattle.cut_certificate.specs.declared.cut.Blocker.{Blocker}
use Rattle.cut_certificate.specs.declared.cut.Blocker.TheVariants as blocker
use Rattle.cut_certificate.specs.Cuts.{ShutsProbe}

module _ (d : Design) (items : List Item) (net : ℕ) where
  -- what shuts a probe says that it isn't legal
  shut_isnt_legal : (p : Probe) (by : Blocker) → ShutsProbe d items net p by → IsLegalProbe d items net p → ⊥
  shut_isnt_legal p (blocker.Item id) shut legal = shut.holds (legal.agrees shut.item shut.there)
  shut_isnt_legal p blocker.Outside shut legal = shut.1 legal.inside

  pub shut_isnt_open : (o : Option Probe) (by : Blocker) → IsSomeAnd o (λ p. ShutsProbe d items net p by)
      → IsOpen d items net o → ⊥
  shut_isnt_open None by shut is_open = is_open
  shut_isnt_open (Some p) by shut is_open = shut_isnt_legal p by shut is_open

  -- of two least ids, neither is below the other
  least_isnt_above : (p : Probe) (i j : ℕ) → ShutsProbe d items net p (blocker.Item i)
      → ShutsProbe d items net p (blocker.Item j) → i < j → ⊥
  least_isnt_above p i j a b lt = a.holds (b.before a.item a.there a.looked_at (omega (arith, a.id_is)))

  one_shuts_probe : (p : Probe) (by or : Blocker) → ShutsProbe d items net p by → ShutsProbe d items net p or → by ≡ or
  one_shuts_probe p (blocker.Item i) (blocker.Item j) a b = elim (cases_lt i j) [
    | inl lt ↦ absurd (least_isnt_above p i j a b lt)
    | inr ge ↦ elim (cases_lt j i) [
      | inl gt ↦ absurd (least_isnt_above p j i b a gt)
      | inr le ↦ let same : i ≡ j = omega arith in ap (λ (k : ℕ). blocker.Item k) same
    ]
  ]
  one_shuts_probe p (blocker.Item i) blocker.Outside a b = absurd (a.holds (b.0 a.item a.there))
  one_shuts_probe p blocker.Outside (blocker.Item j) a b = absurd (b.holds (a.0 b.item b.there))
  one_shuts_probe p blocker.Outside blocker.Outside a b = refl

  -- what shuts a probe is just the one
  pub shut_exactly : (p : Probe) (by : Blocker) → ShutsProbe d items net p by → (or : Blocker)
      → ShutsProbe d items net p or ↔ (Some by ≡ Some or)
  shut_exactly p by shut or = (
    λ h. ap (λ (b : Blocker). Some b) (one_shuts_probe p by or shut h),
    λ e. let same : by ≡ or = cc in
        subst (ShutsProbe d items net p) same shut,
  )

  pub legal_exactly : (p : Probe) → IsLegalProbe d items net p → (o : Option Blocker) → o ≡ None → (or : Blocker)
      → ShutsProbe d items net p or ↔ (o ≡ Some or)
  legal_exactly p legal o none or = (λ h. absurd (shut_isnt_legal p or h legal), λ e. cc)

  -- where none is found that disagrees, all agree
  pub all_agree : (p : Probe) → Finds (λ b. ProbeAgrees d net p b → ⊥) (ProbeAgrees d net p) 0 None items None
      → (b : Item) → Contains items b → ProbeAgrees d net p b
  all_agree p none b there = none b there (omega arith, λ e. none-some b.id e)

  -- what is said of a move's probe is said of the move
  pub open_of : (p : Probe) (o : Option Probe) (r : Option Blocker) → Some p ≡ o
      → IfNone r (IsLegalProbe d items net p) → IfNone r (IsOpen d items net o)
  open_of p o r is h = subst (λ (q : Option Probe). IfNone r (IsOpen d items net q)) is h

  pub shut_of : (p : Probe) (o : Option Probe) (r : Option Blocker) → Some p ≡ o
      → ((by : Blocker) → ShutsProbe d items net p by ↔ (r ≡ Some by))
      → (by : Blocker) → IsSomeAnd o (λ q. ShutsProbe d items net q by) ↔ (r ≡ Some by)
  shut_of p o r is h by =
      subst (λ (q : Option Probe). IsSomeAnd q (λ x. ShutsProbe d items net x by) ↔ (r ≡ Some by)) is (h by)
