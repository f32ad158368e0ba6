use Rattle.std.proofs.Common.{◌≡◌, ◌∙◌, ◌+◌, ◌<◌, ◌≤◌, ◌^◌, ap, arith, get_or, length, subst, sym, List, ℕ}
use Rattle.std.specs.List.Sorted.{IsStrictlyIncreasing}
use Rattle.std.proofs.lemmas.List.{get_or_default}
use Rattle.cut_check.specs.inner.Outs.{AddsOuts, AreOutsSoFar}
use Rattle.cut_check.proofs.Outgoing.{few as few_of, outs_all, outs_more}
use Rattle.cut_check.proofs.outward.Marked.outs.Goals as goal

pub overflow_add-count : goal.overflow_add-count
overflow_add-count g c =
    let long = few_of c.self.inside.nodes.now (g.M.Moves.graph c.self.inside.moves.now).count c.self.invariant.2
    c.self.invariant.3.there in
    let few = c.self.invariant.1.nodes in
    let few_nodes : length c.self.inside.nodes.now ≤ 2 ^ 24 + 1 = omega (arith, long, few) in
    let all : length c.args.self.now.nodes ≤ 2 ^ 24 + 1 =
    subst (λ s. length s.nodes ≤ 2 ^ 24 + 1) c.self.view_is few_nodes in
    let small = c.loop-node.invariant.small in
    let low = c.in-Some.ensures.small in
    omega (arith, small, low, all, c.from-count.ensures)

pub loop-node-preserved : goal.loop-node-preserved
loop-node-preserved g c =
    let graph = g.M.Moves.graph c.args.self.now.moves in
    let nodes = c.args.self.now.nodes in
    let k = c.loop-node.node-index in
    let same : c.self.inside.nodes.now ≡ nodes = ap (λ s. s.nodes) c.self.view_is in
    let within : k < length nodes = subst (λ (xs : List ℕ). k < length xs) same c.loop-node-test.true in
    let one = get_or_default c.self.inside.nodes.now k _ 0 c.loop-node-test.true
    ∙ ap (λ (xs : List ℕ). get_or xs k 0) same in
    subst (λ (n : ℕ). AreOutsSoFar graph nodes (k + 1) (c.loop-node.count + n)) (sym c.from-count.ensures)
    (outs_more graph nodes k c.loop-node.count c.in-Some.more (subst IsStrictlyIncreasing same c.self.invariant.2)
    within c.in-Some.ensures.small c.loop-node.invariant
    (subst (λ (v : ℕ). AddsOuts graph nodes v graph.arity c.in-Some.more) one c.in-Some.ensures.outs))

pub returns : goal.returns
returns g c =
    let graph = g.M.Moves.graph c.args.self.now.moves in
    let nodes = c.args.self.now.nodes in
    let k = c.loop-node.node-index in
    let same : c.self.inside.nodes.now ≡ nodes = ap (λ s. s.nodes) c.self.view_is in
    let past : length nodes ≤ k = subst (λ (xs : List ℕ). length xs ≤ k) same c.loop-node-test.false in
    let long = few_of c.self.inside.nodes.now (g.M.Moves.graph c.self.inside.moves.now).count c.self.invariant.2
    c.self.invariant.3.there in
    let few = c.self.invariant.1.nodes in
    let few_nodes : length c.self.inside.nodes.now ≤ 2 ^ 24 + 1 = omega (arith, long, few) in
    let all : length nodes ≤ 2 ^ 24 + 1 = subst (λ (xs : List ℕ). length xs ≤ 2 ^ 24 + 1) same few_nodes in
    let small = c.loop-node.invariant.small in
    outs_all graph nodes k c.loop-node.count past (omega (arith, small, all)) c.loop-node.invariant
