use Rattle.std.proofs.Common.{arith, ◌^◌, Some, ◌≡◌, ℕ, List, map, sym, subst, ◌∙◌}
use Rattle.pcb_model.specs.declared.item.Kind.TheVariants as kind
use Rattle.pcb_model.proofs.Within.{clearance_within}
use Rattle.pcb_model.specs.declared.item.Piece.{Piece}
use Rattle.pcb_model.specs.Pairs.{PiecesKeep}
use Rattle.pcb_model.specs.Rules.{clearance_of}
use Rattle.pcb_model.specs.Pieces.{moved_piece}
use Rattle.pcb_model.proofs.Turned.{unasked}
use Rattle.pcb_model.proofs.probe.via_keeps.Goals as goal

pub moved_keep-requires-clause-c_within : goal.moved_keep-requires-clause-c_within
moved_keep-requires-clause-c_within c =
    omega (
      arith,
      c.clearance_from-c.ensures,
      clearance_within (2 ^ 28) c.args.d.now (Some c.args.net) kind.Via c.args.b.now.net c.args.b.now.kind
          c.requires.design.rules_within,
    )

pub returns-then-via_must_keep : goal.returns-then-via_must_keep
returns-then-via_must_keep c =
    let clear : c.clearance_from-c.result
    ≡ clearance_of c.args.d.now (Some c.args.net) kind.Via c.args.b.now.net c.args.b.now.kind =
    c.clearance_from-c.ensures in
    let ps = map (moved_piece c.args.at) c.args.ps.now in
    let F : ℕ → Type 0 = λ n. PiecesKeep n ps c.args.b.now.pieces in
    let G : List Piece → Type 0 = λ rs. PiecesKeep c.clearance_from-c.result ps rs in
    let s = c.as_slice.ensures in (
      λ t m. subst F clear (subst G s (c.moved_keep.ensures.0 t)),
      λ h. c.moved_keep.ensures.1
          (subst G (sym s) (subst F (sym clear) (h (sym c.via_must_keep.ensures ∙ c.if-via_must_keep.true)))),
    )

pub returns-else-via_must_keep : goal.returns-else-via_must_keep
returns-else-via_must_keep c = unasked _ c.via_must_keep.result _ c.via_must_keep.ensures c.if-via_must_keep.false
