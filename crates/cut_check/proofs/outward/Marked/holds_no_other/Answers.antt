use Rattle.std.proofs.Common.{◌≡◌, arith, inl, inr, refl, subst}
use Rattle.std.proofs.lemmas.Bool.{cases_lt}
use Rattle.std.proofs.lemmas.Option.{slice_get_within}
use Rattle.cut_check.specs.inner.Outs.{IsBeside}
use Rattle.cut_check.proofs.outward.Marked.holds_no_other.Goals as goal

pub loop-j-preserved : goal.loop-j-preserved
loop-j-preserved g c = λ j less. elim (cases_lt j c.loop-j.j) [
  | inl early ↦ c.loop-j.invariant j early
  | inr late ↦
      let same : c.loop-j.j ≡ j = omega (arith, less, late) in
      subst (IsBeside c.args.self.now.nodes c.args.anchors.now c.args.k) same
      (c.is_beside.ensures.0 c.if-not-is_beside.false)
]

pub returns : goal.returns
returns g c = (
  λ t j. elim (cases_lt j c.loop-j.j) [
    | inl early ↦ c.loop-j.invariant j early
    | inr late ↦ record {
      none = λ goals apart at. absurd (let low = slice_get_within c.args.anchors.now j goals at in
          omega (arith, low, late, c.loop-j-test.false));
    }
  ],
  λ h. refl,
)
