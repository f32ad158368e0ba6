use Rattle.std.proofs.Common.{inr, inl, sym, ◌∙◌, ltb-true, ltb-false, arith}
use Rattle.pcb_model.proofs.Far.{far_apart}
use Rattle.pcb_model.proofs.Turned.{not_layers}
use Rattle.pcb_model.proofs.near.Extent.is_far_from.Goals.{then-self-other, else-self-other}
use Rattle.pcb_model.proofs.near.Extent.is_far_from.Goals as goal

pub returns-else-other-self-clause-apart : goal.returns-else-other-self-clause-apart
returns-else-other-self-clause-apart c =
    λ t ps rs a b x y. far_apart c.args.reach c.args.self.now c.args.other.now ps rs x y
    (inr (c.parted.ensures.parted.0 t))

pub returns-else-other-self-clause-far : goal.returns-else-other-self-clause-far
returns-else-other-self-clause-far c = (
  λ t. inr (c.parted.ensures.parted.0 t),
  λ h. c.parted.ensures.parted.1 (elim c.if-self-other.branch [
    | then-self-other w ↦ absurd
        (omega (arith, w.if-self-other.true, ltb-false _ _ (sym w.value-is ∙ c.if-other-self.false)))
    | else-self-other w ↦ not_layers c.args.self.now.last c.args.other.now.first c.args.other.now.last
        c.args.self.now.first _ w.if-self-other.false
        (ltb-false _ _ (sym w.value-is ∙ c.if-other-self.false)) h
  ]),
)

pub returns-then-other-self-clause-far : goal.returns-then-other-self-clause-far
returns-then-other-self-clause-far c = (
  λ t. elim c.if-self-other.branch [
    | then-self-other w ↦ inl (inl w.if-self-other.true)
    | else-self-other w ↦ inl (inr (ltb-true _ _ (sym w.value-is ∙ t)))
  ],
  λ h. c.if-other-self.true,
)
