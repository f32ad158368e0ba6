use Rattle.std.proofs.Common.{◌≡◌, ℤ, List, None, true, false, ◌-◌, ◌≤ℤ◌, ◌<ℤ◌, pos, arith, get_or, sym}
use Rattle.std.proofs.Common.{subst, w64, to_z, of_z, rules}
use Rattle.std.specs.Prelude.{slice_index_or}
use Rattle.std.proofs.lemmas.Int.{to_z-of_z}
use Rattle.shove.specs.Shoves.{IsNextBelow}
use Rattle.shove.specs.inner.Steps.{FindsLine}
use Rattle.shove.proofs.Lining.{none_below, last_below}
use Rattle.shove.proofs.line.Lines.next_below.Goals as goal

pub returns-then-place-eq0 : goal.returns-then-place-eq0
returns-then-place-eq0 c =
    let e = to_z-of_z w64 c.args.at c.ranges.at in
    subst (λ (ls : List ℤ). FindsLine false ls c.args.at None) c.self.view_is
    (none_below c.self.inside.lines.now c.args.at c.first_from-place.result c.self.invariant
    (λ k h. subst (λ (z : ℤ). get_or c.self.inside.lines.now k (pos 0) <ℤ z) e (c.first_from-place.ensures.below k h))
    (λ k h l. subst (λ (z : ℤ). z ≤ℤ get_or c.self.inside.lines.now k (pos 0)) e (c.first_from-place.ensures.from k
    h l))
    (omega arith))

pub returns : goal.returns
returns c =
    let e = to_z-of_z w64 c.args.at c.ranges.at in
    let x = slice_index_or c.self.inside.lines.now (c.first_from-place.result - 1) (pos 0) in
    let same : to_z w64 (of_z w64 x) ≡ x = search rules in
    subst (λ (ls : List ℤ). IsNextBelow ls c.args.at (to_z w64 (of_z w64 x))) c.self.view_is
    (subst (IsNextBelow c.self.inside.lines.now c.args.at) (sym same)
    (last_below c.self.inside.lines.now c.args.at c.first_from-place.result c.self.invariant
    (λ k h. subst (λ (z : ℤ). get_or c.self.inside.lines.now k (pos 0) <ℤ z) e (c.first_from-place.ensures.below k h))
    (λ k h l. subst (λ (z : ℤ). z ≤ℤ get_or c.self.inside.lines.now k (pos 0)) e (c.first_from-place.ensures.from k
    h l))
    (omega arith) (omega arith)))
