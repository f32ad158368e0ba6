use Rattle.std.proofs.Common.{◌∙◌, sym, subst}
use Rattle.std.specs.Prelude.{◌^◌}
use Rattle.geo_kernel.specs.Spine.{IsSpineWithin}
use Rattle.dsn_shapes.specs.declared.parts.BanShape.{BanShape}
use Rattle.dsn_design.specs.Items.{placed_ban}
use Rattle.dsn_design.proofs.Loops.{pushed_more}
use Rattle.dsn_design.proofs.items.push_placed_bans.Goals as goal

pub placed_ban-requires-clause-ban_within : goal.placed_ban-requires-clause-ban_within
placed_ban-requires-clause-ban_within c =
    subst (λ (ban : BanShape). IsSpineWithin (2 ^ 29) ban.shape.spine) (sym c.ban-item.is)
    (c.requires.bans_within c.loop-ban.ban-index c.ban-item.result c.loop-ban-test.true)

pub loop-ban-preserved : goal.loop-ban-preserved
loop-ban-preserved c =
    c.in_ok-push.ensures.ok
    ∙ pushed_more (placed_ban c.args.parts.now c.args.place.now) c.args.bans.now c.loop-ban.ban-index c.ban-item.result
    c.args.items.now c.loop-ban.items c.in_ok-placed_ban.field-0 c.loop-ban-test.true c.ban-item.is c.loop-ban.invariant
    (c.in_ok-placed_ban.ensures {u = tt})
