use Rattle.std.proofs.Common.{sym, ◌∙◌, true≢false}
use Rattle.pcb_model.proofs.Probes.{via_told, via_off, via_keep}
use Rattle.pcb_model.proofs.probe.via_ok.Goals as goal

pub returns-then-via_keeps : goal.returns-then-via_keeps
returns-then-via_keeps c =
    let ps = c.padstack_pieces-ps.result.now in
    let e = c.padstack_pieces-ps.ensures in (
      λ t. via_told c.args.d.now c.args.net c.args.padstack c.args.at c.args.b.now ps e
          (c.via_keeps.ensures.0 c.if-via_keeps.true) (c.via_stays_off.ensures.0 t),
      λ h. c.via_stays_off.ensures.1
          (via_off c.args.d.now c.args.net c.args.padstack c.args.at c.args.b.now ps e h),
    )

pub returns-else-via_keeps : goal.returns-else-via_keeps
returns-else-via_keeps c =
    let ps = c.padstack_pieces-ps.result.now in
    let e = c.padstack_pieces-ps.ensures in (
      λ t. absurd (true≢false (sym t ∙ c.if-via_keeps.false)),
      λ h. c.via_keeps.ensures.1 (via_keep c.args.d.now c.args.net c.args.padstack c.args.at c.args.b.now ps e h),
    )
