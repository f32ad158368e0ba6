use Rattle.std.proofs.Common.{ℕ, ◌<◌, List, All, sym, subst}
use Rattle.std.specs.Prelude.{Contains}
use Rattle.std.specs.List.Sorted.{IsStrictlyIncreasing}
use Rattle.cut_certificate.proofs.Marking.{listed_ascend, listed_there, listed_unmarked}
use Rattle.cut_certificate.proofs.border.border_of.Goals as goal

pub meets-requires : goal.meets-requires
meets-requires g c =
    let f = c.args.flooded in
    subst IsStrictlyIncreasing (sym c.as_slice.ensures)
    (listed_ascend f.marks (g.M.Moves.graph c.args.shuts).count f.reach.nodes c.requires.listed)

pub invariant_of-held-clause-ascend : goal.invariant_of-held-clause-ascend
invariant_of-held-clause-ascend g c =
    let f = c.args.flooded in
    subst IsStrictlyIncreasing (sym c.as_slice-3.ensures)
    (listed_ascend f.marks (g.M.Moves.graph c.args.shuts).count f.reach.nodes c.requires.listed)

pub invariant_of-held-clause-there : goal.invariant_of-held-clause-there
invariant_of-held-clause-there g c =
    let f = c.args.flooded in
    subst (All (λ v. v < (g.M.Moves.graph c.args.shuts).count)) (sym c.as_slice-3.ensures)
    (listed_there f.marks (g.M.Moves.graph c.args.shuts).count f.reach.nodes c.requires.listed)

pub invariant_of-held-clause-marked : goal.invariant_of-held-clause-marked
invariant_of-held-clause-marked g c = λ v there.
    (c.requires.listed.marked v (subst (λ (xs : List ℕ). Contains xs v) c.as_slice-3.ensures there)).0

pub invariant_of-held-clause-unmarked : goal.invariant_of-held-clause-unmarked
invariant_of-held-clause-unmarked g c = λ v out.
    let f = c.args.flooded in
    listed_unmarked f.marks (g.M.Moves.graph c.args.shuts).count f.reach.nodes c.requires.size c.requires.listed v
    (subst (λ (xs : List ℕ). Contains xs v → ⊥) c.as_slice-3.ensures out)
