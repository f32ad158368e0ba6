use Rattle.std.proofs.Common.{◌∙◌, ℕ, List, All, subst, sym}
use Rattle.std.specs.Prelude.{◌↔◌, Contains, IsTrue}
use Rattle.std.proofs.lemmas.Bool.{false≢true}
use Rattle.route_lattice.specs.Walks.{IsReach}
use Rattle.cut_certificate.specs.declared.cut.Block.{Block}
use Rattle.cut_certificate.specs.Goals.{Meets}
use Rattle.cut_certificate.specs.inner.Beyond.{beyond, EndsAmong}
use Rattle.cut_certificate.proofs.Beyond.{none_past, unless}
use Rattle.cut_certificate.proofs.sound.SoundMoves.may_lead_past.Goals as goal

pub returns : goal.returns
returns g c =
    let graph = g.M.Moves.graph c.args.self.now in
    let goals = c.args.goals.now in
    let nodes = c.args.cut.now.reach.nodes in
    let ends = c.push_ends.new.ends in
    let found = c.in_ok-reach.reach.nodes in
    let all : All (EndsAmong graph c.args.id ends) c.args.cut.now.blocked =
    subst (λ (bs : List Block). All (EndsAmong graph c.args.id ends) bs) c.as_slice-2.ensures
    c.in_ok-push_ends.ensures.ends in
    let reach : IsReach (beyond graph nodes) ends found =
    rw (c.as_slice-nodes.ensures, c.self.view_is) at c.in_ok-reach.ensures in
    let first : IsTrue c.meets.result ↔ Meets nodes goals =
    subst (λ (xs : List ℕ). IsTrue c.meets.result ↔ Meets xs goals) c.as_slice-nodes.ensures c.meets.ensures in
    let later : IsTrue c.meets-2.result ↔ Meets found goals =
    subst (λ (xs : List ℕ). IsTrue c.meets-2.result ↔ Meets xs goals) c.as_slice-3.ensures c.meets-2.ensures in
    unless c.meets-2.result later
    (none_past graph c.args.cut.now c.args.id c.requires.cut ends found all reach c.args.starts.now goals
    (λ v k. c.in_ok-push_ends.ensures.kept v
    (subst (λ (xs : List ℕ). Contains xs v) (sym (c.in_ok-ends.ensures ∙ c.as_slice.ensures)) k))
    (λ met. false≢true (sym c.if-meets.false ∙ first.1 met)))
