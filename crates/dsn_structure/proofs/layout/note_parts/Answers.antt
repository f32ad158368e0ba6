use Rattle.std.proofs.Common.{◌≡◌, ◌∙◌, ◌+◌, ◌++◌, ap, arith, List, Option}
use Rattle.std.specs.Prelude.{sum_by}
use Rattle.dsn_shapes.specs.declared.refusal.Refusal.{Refusal}
use Rattle.dsn_shapes.specs.Lists.{capped}
use Rattle.dsn_shapes.specs.Names.{names_at}
use Rattle.dsn_shapes.specs.Refusals.{noted}
use Rattle.dsn_shapes.specs.Rules.{rule_notes, rule_refusals}
use Rattle.dsn_shapes.specs.Shapes.{ban_notes}
use Rattle.dsn_shapes.proofs.Looped.{then_noted}
use Rattle.dsn_structure.specs.Layout.{area_refusals, frame_layers, frame_notes, frame_refusals, padstacks}
use Rattle.dsn_structure.specs.Layout.{refusals_of, value_of, via_lists, via_refusals}
use Rattle.dsn_structure.proofs.layout.note_parts.Goals as goal

-- the refusals of four parts, one after another
parts_noted : (first a b d new : Option Refusal) (rs ss ts us : List Refusal) → a ≡ noted first rs → b ≡ noted a ss
    → d ≡ noted b ts → new ≡ noted d us → new ≡ noted first (rs ++ (ss ++ (ts ++ us)))
parts_noted first a b d new rs ss ts us p q r s =
    then_noted first a new rs (ss ++ (ts ++ us)) p
    (then_noted a b new ss (ts ++ us) q (then_noted b d new ts us r s))

pub returns-clause-noted : goal.returns-clause-noted
unfolding refusals_of
returns-clause-noted c =
    let nm = c.args.s.nm in
    let l = c.args.lists.now in
    let first = c.read_frame.new.first in
    parts_noted c.args.first.now first c.read_areas.new.first c.read_switches.new.first
    c.read_rules.new.first (frame_refusals c.args.pcb.now l.structs l.bounds)
    (area_refusals nm (frame_layers l.structs) l.bounds l.bans)
    (via_refusals (names_at 1 (padstacks c.args.pcb.now)) (via_lists l.structs)) (rule_refusals nm l.rules)
    c.in_ok-layers.ensures.noted
    (c.in-Ok.ensures.noted
    ∙ ap (λ ls. noted first (area_refusals nm ls l.bounds l.bans)) c.in_ok-layers.ensures.layers)
    c.in-Ok-read_switches.ensures.noted c.in-Ok-read_rules.ensures.noted

pub returns-clause-value : goal.returns-clause-value
unfolding value_of
returns-clause-value c =
    let l = c.args.lists.now in
    let n : c.saturating_add-2.result
    ≡ capped (frame_notes l.structs + (sum_by ban_notes l.bans + rule_notes l.rules)) = omega (
      arith,
      c.in_ok-layers.ensures.notes,
      c.in-Ok.ensures.notes,
      c.in-Ok-read_rules.ensures.notes,
      c.saturating_add.ensures,
      c.saturating_add-2.ensures,
    ) in
    cc (
      n,
      c.in_ok-layers.ensures.layers,
      c.in-Ok.ensures.bounds,
      c.in-Ok.ensures.bans,
      c.in-Ok-read_switches.ensures.names,
      c.in-Ok-read_switches.ensures.at_smd,
      c.in-Ok-read_switches.ensures.flip_last,
      c.in-Ok-read_rules.ensures.set,
    )
