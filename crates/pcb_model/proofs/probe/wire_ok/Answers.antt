use Rattle.std.proofs.Common.{◌≡◌, ℕ, ◌^◌, List, Some, arith, sym, ◌∙◌, subst, refl}
use Rattle.pcb_model.specs.declared.item.Kind.TheVariants as kind
use Rattle.pcb_model.specs.declared.item.Piece.{Piece}
use Rattle.pcb_model.specs.Pairs.{KeepsFrom}
use Rattle.pcb_model.specs.Pieces.{wire_piece}
use Rattle.pcb_model.specs.Rules.{clearance_of}
use Rattle.pcb_model.proofs.Within.{clearance_within}
use Rattle.pcb_model.proofs.Probes.{wire_kept, wire_free}
use Rattle.pcb_model.proofs.probe.wire_ok.Goals as goal

pub chain_keeps_all-requires-clause-c_within : goal.chain_keeps_all-requires-clause-c_within
chain_keeps_all-requires-clause-c_within c =
    omega (
      arith,
      c.clearance_from-c.ensures,
      clearance_within (2 ^ 28) c.args.d.now (Some c.args.net) kind.Wire c.args.b.now.net c.args.b.now.kind
          c.requires.design.rules_within,
    )

pub returns-then-wire_must_keep : goal.returns-then-wire_must_keep
returns-then-wire_must_keep c =
    let k = wire_kept c.args.d.now c.args.net c.args.layer c.args.width c.args.points.now c.args.b.now
    (sym c.wire_must_keep.ensures ∙ c.if-wire_must_keep.true) in
    let p = wire_piece c.args.layer c.args.width c.args.points.now in
    let clear : c.clearance_from-c.result ≡ clearance_of c.args.d.now (Some c.args.net) kind.Wire c.args.b.now.net
    c.args.b.now.kind = c.clearance_from-c.ensures in
    let F : ℕ → Type 0 = λ n. KeepsFrom n c.args.b.now.pieces p in
    let G : List Piece → Type 0 = λ rs. KeepsFrom c.clearance_from-c.result rs p in (
      λ t. k.0 (subst F clear (subst G c.as_slice.ensures (c.chain_keeps_all.ensures.0 t))),
      λ h. c.chain_keeps_all.ensures.1 (subst G (sym c.as_slice.ensures) (subst F (sym clear) (k.1 h))),
    )

pub returns-else-wire_must_keep : goal.returns-else-wire_must_keep
returns-else-wire_must_keep c = (
  λ t. wire_free c.args.d.now c.args.net c.args.layer c.args.width c.args.points.now c.args.b.now
      (sym c.wire_must_keep.ensures ∙ c.if-wire_must_keep.false),
  λ h. refl,
)
