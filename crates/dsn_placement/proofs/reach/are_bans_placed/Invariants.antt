use Rattle.std.proofs.Common.{◌≡◌, drop}
use Rattle.std.specs.List.{list_all}
use Rattle.dsn_shapes.specs.declared.parts.BanShape.{BanShape}
use Rattle.dsn_placement.specs.Copper.{bare_seat, is_spine_placed}
use Rattle.dsn_placement.proofs.reach.are_bans_placed.Given as goal

abbrev pub invariant-loop-ban : goal.invariant-loop-ban
invariant-loop-ban l =
    list_all (λ (b : BanShape). is_spine_placed (bare_seat l.stand) b.shape.spine) (drop l.ban-index l.bans)
    ≡ list_all (λ (b : BanShape). is_spine_placed (bare_seat l.stand) b.shape.spine) l.bans
