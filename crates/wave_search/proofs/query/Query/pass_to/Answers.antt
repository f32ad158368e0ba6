use Rattle.std.proofs.Common.{ℕ, List, [], ◌∷◌, ◌++◌, length, get_or, refl, sym, ap, ◌∙◌, subst, inl, inr}
use Rattle.std.proofs.Common.{Some, arith, true≢false}
use Rattle.std.proofs.lemmas.List.{length-map}
use Rattle.std.proofs.lemmas.List.Elements.{Contains-get_or}
use Rattle.wave_search.specs.inner.Passing.{first_of}
use Rattle.std.specs.Prelude.{Contains}
use Rattle.std.specs.List.Sorted.{IsStrictlyIncreasing}
use Rattle.wave_search.specs.inner.Passing.{AreNew}
use Rattle.wave_search.proofs.Table.{within}
use Rattle.wave_search.proofs.Stating.{some_path}
use Rattle.wave_search.proofs.Passing.{all_below, at_starts, at_next, at_goal, at_end, node_there, node_of, has_first}
use Rattle.wave_search.proofs.Passing.{ascend_of, has_contains}
use Rattle.wave_search.proofs.query.Query.pass_to.Goals as goal

pub add_all-requires : goal.add_all-requires
add_all-requires g c = all_below c.as_slice-2.result.now c.args.self.now.starts.now
    (g.M.Moves.graph c.args.self.now.m.now).count (length c.args.pass.now.marks.items)
    (λ v h. subst (λ (l : List ℕ). Contains l v) c.as_slice.ensures
    ((c.in_ok-roots.ensures.same v).0 (subst (λ (l : List ℕ). Contains l v) c.as_slice-2.ensures.value h)))
    c.args.self.now.starts_there c.requires.blank.size

pub pass-init : goal.pass-init
pass-init g c =
    let roots = c.as_slice-2.result.now in
    let up : IsStrictlyIncreasing roots = subst IsStrictlyIncreasing (sym c.as_slice-2.ensures.value)
    c.in_ok-roots.ensures.ascend in
    at_starts (g.M.Moves.graph c.args.self.now.m.now) c.args.self.now.starts.now c.args.self.now.goals.now
    c.args.table.now c.args.price roots c.add_all.new.self up
    (λ v h. subst (λ (l : List ℕ). Contains l v) c.as_slice.ensures
    ((c.in_ok-roots.ensures.same v).0 (subst (λ (l : List ℕ). Contains l v) c.as_slice-2.ensures.value h)))
    (λ v h. subst (λ (l : List ℕ). Contains l v) (sym c.as_slice-2.ensures.value)
    ((c.in_ok-roots.ensures.same v).1 (subst (λ (l : List ℕ). Contains l v) (sym c.as_slice.ensures) h)))
    (c.in_ok-add_all.ensures.told [] [] c.requires.blank.told (inl (refl, refl)) (ascend_of roots up)
    (λ v h m. (c.requires.blank.told.marked v m).1))
    (c.in_ok-add_all.ensures.size ∙ c.requires.blank.size)

pub ends_at-requires : goal.ends_at-requires
ends_at-requires g c = record {
  size = node_there (g.M.Moves.graph c.args.self.now.m.now) c.args.self.now.starts.now
      c.args.self.now.goals.now c.args.table.now c.args.price c.pass.pass c.pass.k c.pass.invariant
      c.requires.exact.seeded (omega (arith, c.pass-test.true, c.len.ensures)) c.node_at-node.result
      (c.node_at-node.ensures ∙ ap (λ (l : List ℕ). get_or l c.pass.k 0) c.as_slice-in-pass.ensures.value);
}

pub new_beyond-requires-clause-node : goal.new_beyond-requires-clause-node
new_beyond-requires-clause-node g c =
    let h = node_there (g.M.Moves.graph c.args.self.now.m.now) c.args.self.now.starts.now
    c.args.self.now.goals.now c.args.table.now c.args.price c.pass.pass c.pass.k c.pass.invariant
    c.requires.exact.seeded (omega (arith, c.pass-test.true, c.len.ensures)) c.node_at-node.result
    (c.node_at-node.ensures ∙ ap (λ (l : List ℕ). get_or l c.pass.k 0) c.as_slice-in-pass.ensures.value) in
    omega (arith, h, c.requires.exact.roots.size)

pub returns-then-ends_at : goal.returns-then-ends_at
returns-then-ends_at g c =
    let a = c.pass.invariant in
    let f = has_first a.done a.rest c.pass.k a.place
    (omega (arith, c.pass-test.true, c.len.ensures, ap (length {A = ℕ}) a.told.nodes_are)) in
    let n = node_of a.done a.rest c.pass.k f c.pass.pass a.told c.node_at-node.result
    (c.node_at-node.ensures ∙ ap (λ (l : List ℕ). get_or l c.pass.k 0) c.as_slice-in-pass.ensures.value) in
    at_goal (g.M.Moves.graph c.args.self.now.m.now) c.args.self.now.starts.now c.args.self.now.goals.now
    c.args.table.now c.args.price c.pass.pass c.pass.k a f c.node_at-node.result n.0 n.1
    (c.ends_at.ensures.0 c.if-ends_at.true)

pub add_all-requires-in-pass : goal.add_all-requires-in-pass
add_all-requires-in-pass g c =
    let is_new = c.in_ok-new_beyond.ensures in
    λ k d h.
    let v = get_or c.as_slice-in-pass-3.result.now k d in
    let s = (is_new.led v (subst (λ (l : List ℕ). Contains l v) c.as_slice-in-pass-3.ensures.value
    (Contains-get_or c.as_slice-in-pass-3.result.now k d h))).0 in
    omega (
      arith,
      within c.args.table.now v s.after s.there,
      c.requires.exact.roots.size,
      c.pass.invariant.sized,
    )

pub pass-preserved : goal.pass-preserved
pass-preserved g c =
    let graph = g.M.Moves.graph c.args.self.now.m.now in
    let a = c.pass.invariant in
    let f = has_first a.done a.rest c.pass.k a.place
    (omega (arith, c.pass-test.true, c.len.ensures, ap (length {A = ℕ}) a.told.nodes_are)) in
    let n = node_of a.done a.rest c.pass.k f c.pass.pass a.told c.node_at-node.result
    (c.node_at-node.ensures ∙ ap (λ (l : List ℕ). get_or l c.pass.k 0) c.as_slice-in-pass.ensures.value) in
    let fresh = c.as_slice-in-pass-3.result.now in
    let is_new : AreNew graph c.args.table.now c.pass.pass.marks.items c.node_at-node.result fresh =
    subst (λ (ms : List _). AreNew graph c.args.table.now ms c.node_at-node.result fresh)
    c.as_slice-in-pass-2.ensures.value
    (subst (λ (l : List ℕ). AreNew graph c.args.table.now c.as_slice-in-pass-2.result.now c.node_at-node.result l)
    (sym c.as_slice-in-pass-3.ensures.value) c.in_ok-new_beyond.ensures) in
    at_next graph c.args.self.now.starts.now c.args.self.now.goals.now c.args.table.now c.args.price c.pass.pass
    c.add_all-in-pass.new.self c.pass.k a f c.node_at-node.result n.0 fresh n.1
    (λ is. true≢false (sym (c.ends_at.ensures.1 is) ∙ c.if-ends_at.false)) is_new
    (c.in_ok-add_all-2.ensures.told (a.done ++ a.rest) (c.node_at-node.result ∷ n.0) a.told
    (inr (
      omega (
        arith,
        c.pass-test.true,
        c.len.ensures,
        ap (length {A = ℕ}) a.told.nodes_are,
        length-map (a.done ++ a.rest) first_of,
      ),
      f.there ∙ ap (λ (l : List ℕ). Some l) n.1,
    )) (ascend_of fresh is_new.ascend) (λ v h. (is_new.led v (has_contains fresh v h)).1))
    c.in_ok-add_all-2.ensures.size

pub unreachable-requires : goal.unreachable-requires
unreachable-requires g c =
    let graph = g.M.Moves.graph c.args.self.now.m.now in
    let at = c.requires.goal in
    let p = some_path graph c.args.self.now.starts.now c.args.self.now.goals.now
    (g.B.Bound.low_of c.args.self.now.b.now)
    c.args.table.now c.args.price c.args.self.now.sound c.args.self.now.bound c.requires.exact c.requires.none_less
    at.0 at.1
    at.2 in
    at_end graph c.args.self.now.starts.now c.args.self.now.goals.now c.args.table.now c.args.price c.pass.pass
    c.pass.k c.pass.invariant (omega (arith, c.pass-test.false, c.len.ensures)) at.0 p.0 p.1 (at.1, at.2)
