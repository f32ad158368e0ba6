use Rattle.std.proofs.Common.{List, ℕ, subst, sym, Bool, ◌∙◌}
use Rattle.std.specs.Prelude.{IsTrue, ◌↔◌, Contains}
use Rattle.std.specs.List.Sorted.{IsStrictlyIncreasing}
use Rattle.geo_kernel.proofs.Ascending.{found_number}
use Rattle.wave_search.proofs.marks.Marks.has.Goals as goal

pub returns : goal.returns
returns c =
    let same = c.deref.ensures.value ∙ c.self.view_is in
    let up = subst (λ (xs : List ℕ). IsStrictlyIncreasing xs) (sym c.deref.ensures.value) c.self.invariant in
    subst (λ (xs : List ℕ). IsTrue c.is_ok.result ↔ Contains xs c.args.v) same
    (subst (λ (b : Bool). IsTrue b ↔ Contains c.deref.result.now c.args.v) (sym c.is_ok.ensures.value)
    (found_number c.deref.result.now c.args.v c.binary_search.result up c.binary_search.ensures.position))
