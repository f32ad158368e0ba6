use Rattle.std.proofs.Common.{subst, ℕ, List, All}
use Rattle.std.specs.Bool.{OnTrue, OnFalse}
use Rattle.cut_certificate.specs.Backwards.{backwards}
use Rattle.cut_certificate.specs.inner.Marks.{Fill, IsFlood, IsMarked, fill_of}
use Rattle.std.proofs.Common.{◌≡◌, length}
use Rattle.cut_certificate.proofs.Backing.{on_not, shut_in}
use Rattle.cut_certificate.proofs.spread.are_shut_in.Goals as goal

pub returns : goal.returns
returns g c =
    let graph = g.M.Moves.graph c.args.moves.now in
    let f : Fill = fill_of c.mark_within.new.front in
    let flood : IsFlood (backwards graph) c.args.goals.now f =
    subst (λ b. OnTrue b (IsFlood (backwards graph) c.args.goals.now f)) c.if-not-branch.false
    c.in_ok-mark_within.ensures.flood in
    let done : length f.waiting ≡ 0 =
    subst (λ b. OnTrue b (length f.waiting ≡ 0)) c.if-not-branch.false c.in_ok-mark_within.ensures.done in
    on_not c.any_marked.result
    (subst (λ (xs : List ℕ). OnFalse c.any_marked.result (All (λ s. IsMarked f.marks s → ⊥) xs)) c.as_slice-2.ensures
    c.any_marked.ensures)
    (shut_in graph c.requires.sound c.requires.turns c.args.starts.now c.args.goals.now f flood done
    c.requires.starts)
