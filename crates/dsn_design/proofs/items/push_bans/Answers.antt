use Rattle.std.proofs.Common.{List, None, ◌∙◌, ◌++◌, ap}
use Rattle.pcb_model.specs.declared.item.Kind.TheVariants as kind
use Rattle.pcb_model.specs.declared.item.Metal.TheVariants.{Ban}
use Rattle.pcb_model.specs.declared.item.Piece.{Piece}
use Rattle.dsn_design.specs.Copper.{pieces_of}
use Rattle.dsn_design.specs.Items.{ban_item, fixed_item}
use Rattle.dsn_design.proofs.Loops.{pushed_more}
use Rattle.dsn_design.proofs.items.push_bans.Goals as goal

pub loop-ban-preserved : goal.loop-ban-preserved
unfolding ban_item
loop-ban-preserved c =
    let ban = c.ban-item.result in
    c.in_ok-push.ensures.ok
    ∙ pushed_more (ban_item c.args.n) c.args.bans.now c.loop-ban.ban-index ban c.args.items.now
    c.loop-ban.items c.fixed_item.result c.loop-ban-test.true c.ban-item.is c.loop-ban.invariant
    (c.fixed_item.ensures ∙ ap (fixed_item None kind.Area (Ban ban.wires ban.vias))
    (c.in_ok-add_pieces.ensures ∙ ap (λ (ps : List Piece). ps ++ pieces_of c.args.n ban.shape) c.new-pieces.ensures))
