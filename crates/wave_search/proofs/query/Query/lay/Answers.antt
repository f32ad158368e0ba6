use Rattle.std.proofs.Common.{◌≡◌, ℕ, List, [], ◌∷◌, ◌++◌, length, get_or, refl, sym, ap, ◌∙◌, subst, arith}
use Rattle.wave_search.specs.declared.rows.Label.{Label}
use Rattle.wave_search.specs.declared.stated.TheConstants.{NO_PLACE}
use Rattle.wave_search.specs.inner.State.{IsTight}
use Rattle.wave_search.proofs.Steps.{one_label}
use Rattle.wave_search.proofs.Table.{within}
use Rattle.wave_search.proofs.Laying.{laying_begins, laying_next, laying_ends, beyond, place_in, place_listed}
use Rattle.wave_search.proofs.Laying.{place_before}
use Rattle.wave_search.proofs.query.Query.lay.Goals as goal

pub back-init : goal.back-init
back-init g c = record {
  laying = laying_begins (g.M.Moves.graph c.args.self.now.m.now) c.args.self.now.starts.now c.args.self.now.goals.now
      c.args.table.now c.args.price c.args.pass.now c.args.place c.requires.ends c.node_at-node.result
      (c.node_at-node.ensures ∙ ap (λ (x : List ℕ). get_or x c.args.place 0) c.as_slice.ensures.value) _ _
      (c.in_ok-push.ensures.items ∙ ap (λ (x : List ℕ). x ++ c.node_at-node.result ∷ []) c.requires.no_nodes)
      c.requires.no_moves;
  small = omega (arith, c.ranges.place.fits);
}

pub node_at-requires : goal.node_at-requires
node_at-requires g c =
    let h = place_listed (g.M.Moves.graph c.args.self.now.m.now) c.args.self.now.starts.now c.args.self.now.goals.now
    c.args.table.now c.args.price c.args.pass.now c.args.place c.back.invariant.laying in
    omega (arith, h, ap (length {A = ℕ}) c.as_slice-in-back.ensures.value)

pub node_at-at-requires : goal.node_at-at-requires
node_at-at-requires g c =
    let h = place_listed (g.M.Moves.graph c.args.self.now.m.now) c.args.self.now.starts.now c.args.self.now.goals.now
    c.args.table.now c.args.price c.args.pass.now c.args.place c.back.invariant.laying in
    omega (arith, h, ap (length {A = ℕ}) c.as_slice-in-back-2.ensures.value)

pub node_at-from-requires : goal.node_at-from-requires
node_at-from-requires g c =
    let graph = g.M.Moves.graph c.args.self.now.m.now in
    let starts = c.args.self.now.starts.now in
    let goals = c.args.self.now.goals.now in
    let t = c.args.table.now in
    let l = c.back.invariant.laying in
    let j = c.node_at-at.result in
    let j_is : j ≡ get_or c.args.pass.now.before.items c.back.at 0 =
    c.node_at-at.ensures ∙ ap (λ (x : List ℕ). get_or x c.back.at 0) c.as_slice-in-back-2.ensures.value in
    let k_is : c.node_at.result ≡ get_or c.args.pass.now.before.items c.back.at 0 =
    c.node_at.ensures ∙ ap (λ (x : List ℕ). get_or x c.back.at 0) c.as_slice-in-back.ensures.value in
    let real : j ≡ NO_PLACE → ⊥ = λ e. c.back-test.true (k_is ∙ sym j_is ∙ e) in
    omega (
      arith,
      place_before graph starts goals t c.args.price c.args.pass.now c.args.place l j j_is real,
      place_in graph starts goals t c.args.price c.args.pass.now c.args.place l,
      ap (length {A = ℕ}) c.as_slice-in-back-3.ensures.value,
    )

pub done_label-requires : goal.done_label-requires
done_label-requires g c =
    let graph = g.M.Moves.graph c.args.self.now.m.now in
    let starts = c.args.self.now.starts.now in
    let goals = c.args.self.now.goals.now in
    let t = c.args.table.now in
    let l = c.back.invariant.laying in
    let j = c.node_at-at.result in
    let j_is : j ≡ get_or c.args.pass.now.before.items c.back.at 0 =
    c.node_at-at.ensures ∙ ap (λ (x : List ℕ). get_or x c.back.at 0) c.as_slice-in-back-2.ensures.value in
    let k_is : c.node_at.result ≡ get_or c.args.pass.now.before.items c.back.at 0 =
    c.node_at.ensures ∙ ap (λ (x : List ℕ). get_or x c.back.at 0) c.as_slice-in-back.ensures.value in
    let real : j ≡ NO_PLACE → ⊥ = λ e. c.back-test.true (k_is ∙ sym j_is ∙ e) in
    let b = beyond graph starts goals t c.args.price c.args.pass.now c.args.place l j j_is real c.node_at-from.result
    (c.node_at-from.ensures ∙ ap (λ (x : List ℕ). get_or x j 0) c.as_slice-in-back-3.ensures.value) in
    within t c.node_at-from.result b.step.before b.step.was

pub unreachable-requires : goal.unreachable-requires
unreachable-requires g c =
    let graph = g.M.Moves.graph c.args.self.now.m.now in
    let starts = c.args.self.now.starts.now in
    let goals = c.args.self.now.goals.now in
    let t = c.args.table.now in
    let l = c.back.invariant.laying in
    let j = c.node_at-at.result in
    let j_is : j ≡ get_or c.args.pass.now.before.items c.back.at 0 =
    c.node_at-at.ensures ∙ ap (λ (x : List ℕ). get_or x c.back.at 0) c.as_slice-in-back-2.ensures.value in
    let k_is : c.node_at.result ≡ get_or c.args.pass.now.before.items c.back.at 0 =
    c.node_at.ensures ∙ ap (λ (x : List ℕ). get_or x c.back.at 0) c.as_slice-in-back.ensures.value in
    let real : j ≡ NO_PLACE → ⊥ = λ e. c.back-test.true (k_is ∙ sym j_is ∙ e) in
    let b = beyond graph starts goals t c.args.price c.args.pass.now c.args.place l j j_is real c.node_at-from.result
    (c.node_at-from.ensures ∙ ap (λ (x : List ℕ). get_or x j 0) c.as_slice-in-back-3.ensures.value) in
    omega (arith, c.in_default.ensures b.step.before b.step.was, b.step.was_done)

pub done_label-requires-in-back : goal.done_label-requires-in-back
done_label-requires-in-back g c =
    let graph = g.M.Moves.graph c.args.self.now.m.now in
    let starts = c.args.self.now.starts.now in
    let goals = c.args.self.now.goals.now in
    let t = c.args.table.now in
    let l = c.back.invariant.laying in
    let j = c.node_at-at.result in
    let j_is : j ≡ get_or c.args.pass.now.before.items c.back.at 0 =
    c.node_at-at.ensures ∙ ap (λ (x : List ℕ). get_or x c.back.at 0) c.as_slice-in-back-2.ensures.value in
    let k_is : c.node_at.result ≡ get_or c.args.pass.now.before.items c.back.at 0 =
    c.node_at.ensures ∙ ap (λ (x : List ℕ). get_or x c.back.at 0) c.as_slice-in-back.ensures.value in
    let real : j ≡ NO_PLACE → ⊥ = λ e. c.back-test.true (k_is ∙ sym j_is ∙ e) in
    let b = beyond graph starts goals t c.args.price c.args.pass.now c.args.place l j j_is real c.node_at-from.result
    (c.node_at-from.ensures ∙ ap (λ (x : List ℕ). get_or x j 0) c.as_slice-in-back-3.ensures.value) in
    within t c.back.node b.step.after b.step.there

pub unreachable-requires-in_default-done_label : goal.unreachable-requires-in_default-done_label
unreachable-requires-in_default-done_label g c =
    let graph = g.M.Moves.graph c.args.self.now.m.now in
    let starts = c.args.self.now.starts.now in
    let goals = c.args.self.now.goals.now in
    let t = c.args.table.now in
    let l = c.back.invariant.laying in
    let j = c.node_at-at.result in
    let j_is : j ≡ get_or c.args.pass.now.before.items c.back.at 0 =
    c.node_at-at.ensures ∙ ap (λ (x : List ℕ). get_or x c.back.at 0) c.as_slice-in-back-2.ensures.value in
    let k_is : c.node_at.result ≡ get_or c.args.pass.now.before.items c.back.at 0 =
    c.node_at.ensures ∙ ap (λ (x : List ℕ). get_or x c.back.at 0) c.as_slice-in-back.ensures.value in
    let real : j ≡ NO_PLACE → ⊥ = λ e. c.back-test.true (k_is ∙ sym j_is ∙ e) in
    let b = beyond graph starts goals t c.args.price c.args.pass.now c.args.place l j j_is real c.node_at-from.result
    (c.node_at-from.ensures ∙ ap (λ (x : List ℕ). get_or x j 0) c.as_slice-in-back-3.ensures.value) in
    omega (arith, c.in_default-done_label.ensures b.step.after b.step.there, b.step.done)

pub tight_to-requires-clause-node : goal.tight_to-requires-clause-node
tight_to-requires-clause-node g c =
    let graph = g.M.Moves.graph c.args.self.now.m.now in
    let starts = c.args.self.now.starts.now in
    let goals = c.args.self.now.goals.now in
    let t = c.args.table.now in
    let l = c.back.invariant.laying in
    let j = c.node_at-at.result in
    let j_is : j ≡ get_or c.args.pass.now.before.items c.back.at 0 =
    c.node_at-at.ensures ∙ ap (λ (x : List ℕ). get_or x c.back.at 0) c.as_slice-in-back-2.ensures.value in
    let k_is : c.node_at.result ≡ get_or c.args.pass.now.before.items c.back.at 0 =
    c.node_at.ensures ∙ ap (λ (x : List ℕ). get_or x c.back.at 0) c.as_slice-in-back.ensures.value in
    let real : j ≡ NO_PLACE → ⊥ = λ e. c.back-test.true (k_is ∙ sym j_is ∙ e) in
    let b = beyond graph starts goals t c.args.price c.args.pass.now c.args.place l j j_is real c.node_at-from.result
    (c.node_at-from.ensures ∙ ap (λ (x : List ℕ). get_or x j 0) c.as_slice-in-back-3.ensures.value) in
    omega (arith, within t c.node_at-from.result b.step.before b.step.was, c.requires.exact.roots.size)

pub unreachable-requires-in_default-tight_to : goal.unreachable-requires-in_default-tight_to
unreachable-requires-in_default-tight_to g c =
    let graph = g.M.Moves.graph c.args.self.now.m.now in
    let starts = c.args.self.now.starts.now in
    let goals = c.args.self.now.goals.now in
    let t = c.args.table.now in
    let l = c.back.invariant.laying in
    let j = c.node_at-at.result in
    let j_is : j ≡ get_or c.args.pass.now.before.items c.back.at 0 =
    c.node_at-at.ensures ∙ ap (λ (x : List ℕ). get_or x c.back.at 0) c.as_slice-in-back-2.ensures.value in
    let k_is : c.node_at.result ≡ get_or c.args.pass.now.before.items c.back.at 0 =
    c.node_at.ensures ∙ ap (λ (x : List ℕ). get_or x c.back.at 0) c.as_slice-in-back.ensures.value in
    let real : j ≡ NO_PLACE → ⊥ = λ e. c.back-test.true (k_is ∙ sym j_is ∙ e) in
    let b = beyond graph starts goals t c.args.price c.args.pass.now c.args.place l j j_is real c.node_at-from.result
    (c.node_at-from.ensures ∙ ap (λ (x : List ℕ). get_or x j 0) c.as_slice-in-back-3.ensures.value) in
    let was = one_label t c.node_at-from.result b.step.before c.in-Some.before b.step.was c.in-Some.ensures.0 in
    let there = one_label t c.back.node b.step.after c.in-Some-done_label.after b.step.there
    c.in-Some-done_label.ensures.0 in
    c.in_default-tight_to.ensures (subst (λ (x : Label). IsTight graph c.node_at-from.result c.in-Some.before.price
    c.back.node x.price) there (subst (λ (x : Label). IsTight graph c.node_at-from.result x.price c.back.node
    b.step.after.price) was b.step.tight))

pub back-smaller : goal.back-smaller
back-smaller g c =
    let graph = g.M.Moves.graph c.args.self.now.m.now in
    let starts = c.args.self.now.starts.now in
    let goals = c.args.self.now.goals.now in
    let t = c.args.table.now in
    let l = c.back.invariant.laying in
    let j = c.node_at-at.result in
    let j_is : j ≡ get_or c.args.pass.now.before.items c.back.at 0 =
    c.node_at-at.ensures ∙ ap (λ (x : List ℕ). get_or x c.back.at 0) c.as_slice-in-back-2.ensures.value in
    let k_is : c.node_at.result ≡ get_or c.args.pass.now.before.items c.back.at 0 =
    c.node_at.ensures ∙ ap (λ (x : List ℕ). get_or x c.back.at 0) c.as_slice-in-back.ensures.value in
    let real : j ≡ NO_PLACE → ⊥ = λ e. c.back-test.true (k_is ∙ sym j_is ∙ e) in
    place_before graph starts goals t c.args.price c.args.pass.now c.args.place l j j_is real

pub back-preserved : goal.back-preserved
back-preserved g c =
    let graph = g.M.Moves.graph c.args.self.now.m.now in
    let starts = c.args.self.now.starts.now in
    let goals = c.args.self.now.goals.now in
    let t = c.args.table.now in
    let l = c.back.invariant.laying in
    let j = c.node_at-at.result in
    let j_is : j ≡ get_or c.args.pass.now.before.items c.back.at 0 =
    c.node_at-at.ensures ∙ ap (λ (x : List ℕ). get_or x c.back.at 0) c.as_slice-in-back-2.ensures.value in
    let k_is : c.node_at.result ≡ get_or c.args.pass.now.before.items c.back.at 0 =
    c.node_at.ensures ∙ ap (λ (x : List ℕ). get_or x c.back.at 0) c.as_slice-in-back.ensures.value in
    let real : j ≡ NO_PLACE → ⊥ = λ e. c.back-test.true (k_is ∙ sym j_is ∙ e) in
    let b = beyond graph starts goals t c.args.price c.args.pass.now c.args.place l j j_is real c.node_at-from.result
    (c.node_at-from.ensures ∙ ap (λ (x : List ℕ). get_or x j 0) c.as_slice-in-back-3.ensures.value) in
    record {
      laying = laying_next graph starts goals t c.args.price c.args.pass.now c.args.place l j c.node_at-from.result b
          c.in-Some.before c.in-Some-done_label.after c.in-Some.ensures.0 c.in-Some-done_label.ensures.0
          c.in-Some-tight_to.mv c.in-Some-tight_to.ensures _ _ c.in_ok-push-3.ensures.items
          c.in_ok-push-2.ensures.items;
      small = omega (arith, b.below, c.back.invariant.small);
    }

pub returns : goal.returns
returns g c =
    let l = c.back.invariant.laying in
    let k_is : c.node_at.result ≡ get_or c.args.pass.now.before.items c.back.at 0 =
    c.node_at.ensures ∙ ap (λ (x : List ℕ). get_or x c.back.at 0) c.as_slice-in-back.ensures.value in
    laying_ends (g.M.Moves.graph c.args.self.now.m.now) c.args.self.now.starts.now c.args.self.now.goals.now
    c.args.table.now c.args.price c.args.pass.now c.args.place l c.back.invariant.small c.node_at.result k_is
    c.back-test.false (g.B.Bound.low_of c.args.self.now.b.now) c.args.self.now.sound c.args.self.now.bound
    c.requires.exact
    c.requires.none_less c.requires.price _ c.reverse.ensures.items c.reverse-2.ensures.items refl
