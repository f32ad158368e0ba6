use Rattle.std.proofs.Common.{ℕ, arith, ap, length, sym, ◌∙◌, subst, Bool, List, Option, ◌<◌, is_some}
use Rattle.wave_search.specs.declared.rows.Label.{Label}
use Rattle.wave_search.specs.inner.State.{IsPut}
use Rattle.wave_search.specs.inner.Rows.{AreTouched}
use Rattle.wave_search.proofs.Kept.{label_is}
use Rattle.wave_search.proofs.Touched.{touched_past, touched_kept, touched_more}
use Rattle.wave_search.proofs.labels.Labels.put.Goals as goal
use Rattle.wave_search.proofs.labels.Labels.put.Goals.{then-self-via-then-self, then-self-via-else-self+then-is_some}

pub invariant_of-self : goal.invariant_of-self
invariant_of-self c = elim c.then-self.branch [
  | then-self-via-then-self w ↦
      subst (λ (b : Bool). AreTouched c.put.new.self b c.self.inside.touched.items) (sym w.if-self.true)
      (touched_past _ _ c.self.inside.unlisted c.self.inside.touched.items c.self.invariant c.put.ensures.size)
  | then-self-via-else-self+then-is_some w ↦
      let l = label_is _ (sym (w.is_some.ensures ∙ ap is_some w.get.ensures) ∙ w.if-is_some.true) in
      touched_kept _ _ c.self.inside.unlisted c.self.inside.touched.items c.args.v c.args.label l.0 c.self.invariant
      c.put.ensures l.1
]

pub invariant_of-self-2 : goal.invariant_of-self-2
invariant_of-self-2 c =
    touched_more _ _ c.self.inside.unlisted c.self.inside.touched.items c.push.new.self.items c.args.v c.args.label
    c.self.invariant c.put-2.ensures (omega (arith, ap length c.self.view_is, c.requires.node))
    c.in_ok-push.ensures.items

pub returns-clause-ok : goal.returns-clause-ok
returns-clause-ok c =
    subst (λ (t : List (Option Label)). IsPut t c.args.v c.args.label c.put-2.new.self) c.self.view_is c.put-2.ensures

pub get-requires : goal.get-requires
get-requires c =
    subst (λ (t : List (Option Label)). c.args.v < length t) (sym c.self.view_is) c.requires.node

pub put-requires-clause-node : goal.put-requires-clause-node
put-requires-clause-node c =
    subst (λ (t : List (Option Label)). c.args.v < length t) (sym c.self.view_is) c.requires.node

pub put-requires-then-len-count-clause-node : goal.put-requires-then-len-count-clause-node
put-requires-then-len-count-clause-node c =
    subst (λ (t : List (Option Label)). c.args.v < length t) (sym c.self.view_is) c.requires.node

pub put-requires-2-clause-node : goal.put-requires-2-clause-node
put-requires-2-clause-node c =
    subst (λ (t : List (Option Label)). c.args.v < length t) (sym c.self.view_is) c.requires.node

pub invariant_of-self-then-len-count : goal.invariant_of-self-then-len-count
invariant_of-self-then-len-count c =
    touched_past _ _ c.self.inside.unlisted c.self.inside.touched.items c.self.invariant
    c.put-then-len-count.ensures.size

pub returns-then-self-clause-ok : goal.returns-then-self-clause-ok
returns-then-self-clause-ok c =
    subst (λ (t : List (Option Label)). IsPut t c.args.v c.args.label c.put.new.self) c.self.view_is c.put.ensures

pub returns-then-len-count-clause-ok : goal.returns-then-len-count-clause-ok
returns-then-len-count-clause-ok c =
    subst (λ (t : List (Option Label)). IsPut t c.args.v c.args.label c.put-then-len-count.new.self) c.self.view_is
    c.put-then-len-count.ensures

pub returns-then-self-clause-size : goal.returns-then-self-clause-size
returns-then-self-clause-size c = c.put.ensures.size ∙ ap length c.self.view_is

pub returns-then-len-count-clause-size : goal.returns-then-len-count-clause-size
returns-then-len-count-clause-size c = c.put-then-len-count.ensures.size ∙ ap length c.self.view_is

pub returns-clause-size : goal.returns-clause-size
returns-clause-size c = c.put-2.ensures.size ∙ ap length c.self.view_is

pub invariant_of-self-in_err-push : goal.invariant_of-self-in_err-push
invariant_of-self-in_err-push c = subst (λ (xs : List ℕ). AreTouched c.self.inside.rows c.self.inside.unlisted xs)
    (sym c.in_err-push.ensures.items) c.self.invariant
