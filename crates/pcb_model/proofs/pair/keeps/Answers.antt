use Rattle.std.proofs.Common.{arith, ◌^◌, ◌≡◌, ℕ, List, sym, subst, ◌∙◌, All}
use Rattle.pcb_model.proofs.Within.{clearance_within}
use Rattle.pcb_model.specs.declared.item.Piece.{Piece}
use Rattle.pcb_model.specs.Pairs.{PiecesKeep}
use Rattle.pcb_model.specs.Rules.{clearance_of}
use Rattle.pcb_model.proofs.Turned.{unasked}
use Rattle.pcb_model.specs.Bounds.{IsFit}
use Rattle.pcb_model.proofs.pair.keeps.Goals as goal

pub pieces_keep-requires-clause-c_within : goal.pieces_keep-requires-clause-c_within
pieces_keep-requires-clause-c_within c =
    omega (
      arith,
      c.clearance_from-c.ensures,
      clearance_within (2 ^ 28) c.args.d.now c.args.a.now.net c.args.a.now.kind c.args.b.now.net c.args.b.now.kind
          c.requires.rules,
    )

pub returns-then-must_keep : goal.returns-then-must_keep
returns-then-must_keep c =
    let clear : c.clearance_from-c.result
    ≡ clearance_of c.args.d.now c.args.a.now.net c.args.a.now.kind c.args.b.now.net c.args.b.now.kind =
    c.clearance_from-c.ensures in
    let F : ℕ → Type 0 = λ n. PiecesKeep n c.args.a.now.pieces c.args.b.now.pieces in
    let G : List Piece → Type 0 = λ ps. PiecesKeep c.clearance_from-c.result ps c.as_slice-then-must_keep.result.now in
    let H : List Piece → Type 0 = λ rs. PiecesKeep c.clearance_from-c.result c.args.a.now.pieces rs in
    let s = c.as_slice.ensures in
    let u = c.as_slice-then-must_keep.ensures in (
      λ t m. subst F clear (subst H u (subst G s (c.pieces_keep.ensures.0 t))),
      λ h. c.pieces_keep.ensures.1
          (subst G (sym s) (subst H (sym u) (subst F (sym clear) (h (sym c.must_keep.ensures ∙ c.if-must_keep.true))))),
    )

pub returns-else-must_keep : goal.returns-else-must_keep
returns-else-must_keep c = unasked _ c.must_keep.result _ c.must_keep.ensures c.if-must_keep.false

pub pieces_keep-requires-clause-ps_fit : goal.pieces_keep-requires-clause-ps_fit
pieces_keep-requires-clause-ps_fit c = subst (All IsFit) (sym c.as_slice.ensures) c.requires.a_fits

pub pieces_keep-requires-clause-rs_fit : goal.pieces_keep-requires-clause-rs_fit
pieces_keep-requires-clause-rs_fit c = subst (All IsFit) (sym c.as_slice-then-must_keep.ensures) c.requires.b_fits
