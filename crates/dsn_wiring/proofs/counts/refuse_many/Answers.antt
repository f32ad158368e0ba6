use Rattle.std.proofs.Common.{◌≡◌, ◌∙◌, ◌+◌, List, ap, length}
use Rattle.std.specs.Prelude.{sum_by}
use Rattle.std.proofs.lemmas.List.{take_all}
use Rattle.dsn_shapes.specs.declared.parts.Place.{Place}
use Rattle.dsn_shapes.specs.Refusals.{noted}
use Rattle.dsn_shapes.specs.declared.refusal.What.TheVariants.{Items}
use Rattle.dsn_shapes.specs.Limits.{too_many}
use Rattle.dsn_shapes.specs.Lists.{capped}
use Rattle.dsn_wiring.specs.Counts.{items_before, place_items}
use Rattle.dsn_wiring.proofs.Most.{too_many-capped}
use Rattle.dsn_wiring.proofs.counts.refuse_many.Goals as goal

pub returns : goal.returns
unfolding items_before
returns c =
    let st = c.args.st.now in
    let images = c.args.lib.now.images in
    let counted : c.loop-place.before ≡ capped (items_before st c.args.lib.now c.args.placing.now) =
    c.loop-place.invariant
    ∙ ap (λ (ps : List Place). capped (length st.bounds + (length st.bans + sum_by (place_items images) ps)))
    (take_all c.loop-place.place-index c.as_slice-places.result.now c.loop-place-test.false
    ∙ c.as_slice-places.ensures) in
    c.refuse_past.ensures
    ∙ ap (λ n. noted c.args.first.now (too_many Items n c.args.wires.now)) counted
    ∙ ap (noted c.args.first.now) (too_many-capped (items_before st c.args.lib.now c.args.placing.now) c.args.wires.now)
