use Rattle.std.proofs.Common.{ℕ, ◌<◌, List, Vec, Global, true≢false, sym, ap, ◌∙◌, subst}
use Rattle.route_lattice.specs.Mesh.{node_at, node_count}
use Rattle.route_lattice.specs.Found.{LatticeItemOf, Gains, IsAnchorAt, IsAnchorNode}
use Rattle.route_lattice.specs.Anchors.{Anchors}
use Rattle.route_lattice.proofs.Gaining.{gains_first, gains_more, gains_all, gains_nothing, gains_one}
use Rattle.route_lattice.proofs.anchor.LatticeItem.push_row.Goals as goal
use Rattle.route_lattice.proofs.anchor.LatticeItem.push_row.Goals.{then-has_anchor+in_ok-push, else-has_anchor}

pub loop-column-init : goal.loop-column-init
loop-column-init c = gains_first _ _ _ _

pub loop-column-preserved : goal.loop-column-preserved
loop-column-preserved c =
    let M = IsAnchorAt c.args.self.now.d c.args.self.now.lat c.args.self.now.item c.args.level c.args.row
    c.loop-column.column in
    let N = IsAnchorNode c.args.self.now.d c.args.self.now.lat c.args.self.now.item in
    let value = c.node-node.ensures.value
    ∙ ap (λ (s : LatticeItemOf). node_at s.lat c.args.level c.args.row c.loop-column.column) c.self.view_is in
    let there = subst (λ (s : LatticeItemOf). c.node-node.result < node_count s.lat) c.self.view_is
    c.node-node.ensures.there in
    let G : List ℕ → Type 0 = λ new. Gains M N c.loop-column.found.items new in
    gains_more _ _ _ _ _ _ _ c.loop-column.invariant (elim c.if-has_anchor.branch [
      | then-has_anchor+in_ok-push w ↦
          subst G (sym (ap (λ (v : Vec ℕ Global). v.items) w.found-is ∙ w.in_ok-push.ensures.items))
          (gains_one M N c.loop-column.found.items c.node-node.result (λ v a. a.is ∙ sym value)
          (record { node = there; anchors = c.has_anchor.ensures.0 w.if-has_anchor.true }))
      | else-has_anchor w ↦
          subst G (sym (ap (λ (v : Vec ℕ Global). v.items) w.found-is))
          (gains_nothing _ _ _
          (λ v a. true≢false
          (sym (c.has_anchor.ensures.1
          (subst (λ (n : ℕ). Anchors c.args.self.now.d c.args.self.now.lat n c.args.self.now.item)
          (a.is ∙ sym value) a.anchors)) ∙ w.if-has_anchor.false)))
    ])

pub returns : goal.returns
returns c = gains_all _ _ _ _ _ _ _ c.loop-column-test.false c.loop-column.invariant
