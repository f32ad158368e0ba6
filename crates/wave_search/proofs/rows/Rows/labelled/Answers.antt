use Rattle.std.proofs.Common.{◌+◌, ◌<◌, sym, ◌∙◌, subst, List, ℕ, arith, ap, length, is_some}
use Rattle.std.proofs.lemmas.List.{length-map}
use Rattle.wave_search.specs.inner.Rows.{row_label}
use Rattle.wave_search.proofs.Spared.{none_below}
use Rattle.wave_search.proofs.Kept.{AreBelow, one_more, no_more}
use Rattle.wave_search.proofs.Table.{within}
use Rattle.wave_search.proofs.rows.Rows.labelled.Goals as goal
use Rattle.wave_search.proofs.rows.Rows.labelled.Goals.{then-is_some+in_ok-push, else-is_some}

pub loop-v-preserved : goal.loop-v-preserved
loop-v-preserved c = elim c.if-is_some.branch [
  | then-is_some+in_ok-push w ↦
      one_more c.args.self.now c.loop-v.v c.loop-v.nodes.items c.if-is_some.nodes.items c.loop-v.invariant
      (sym (c.is_some.ensures ∙ ap is_some c.get.ensures) ∙ w.if-is_some.true)
      (ap (λ x. x.items) w.nodes-is ∙ w.in_ok-push.ensures.items)
  | else-is_some w ↦
      let none = sym (c.is_some.ensures ∙ ap is_some c.get.ensures) ∙ w.if-is_some.false in
      subst (λ (xs : List ℕ). AreBelow c.args.self.now (c.loop-v.v + 1) xs) (sym (ap (λ x. x.items) w.nodes-is))
      (no_more c.args.self.now c.loop-v.v c.loop-v.nodes.items c.loop-v.invariant none)
]

pub returns : goal.returns
returns c = record {
  ascends = c.loop-v.invariant.ascends;
  labelled = c.loop-v.invariant.labelled;
  complete = λ u l f.
      let rows_are = length-map c.self.inside.rows.items row_label in
      let inside = within c.args.self.now u l f in
      let below : u < c.loop-v.v = omega (arith, inside, c.loop-v-test.false, ap length c.self.view_is, rows_are) in
      c.loop-v.invariant.complete u l below f;
}

pub get-requires : goal.get-requires
get-requires c = omega (
  arith,
  c.loop-v-test.true,
  ap length c.self.view_is,
  length-map c.self.inside.rows.items row_label,
)

pub loop-v-init : goal.loop-v-init
loop-v-init c = none_below c.args.self.now _ c.new-nodes.ensures.items
