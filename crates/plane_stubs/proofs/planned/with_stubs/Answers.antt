use Rattle.std.proofs.Common.{◌≡◌, ℕ, ◌<◌, ◌++◌, List, All, length, sym, ◌∙◌, subst}
use Rattle.std.specs.Prelude.{map}
use Rattle.pcb_model.specs.declared.item.Item.{Item}
use Rattle.plane_joins.specs.Changed.{MayFollow}
use Rattle.plane_joins.specs.Planned.{TriesNets, nets_of}
use Rattle.plane_joins.specs.Stubs.{loose}
use Rattle.plane_stubs.specs.inner.Adding.{IsFirstHeld}
use Rattle.plane_stubs.specs.inner.Sites.{SiteOf, on_site}
use Rattle.plane_stubs.proofs.Adding.{held_first, nets_there, planned}
use Rattle.plane_stubs.proofs.planned.with_stubs.Goals as goal

pub first_held-requires-clause-follow : goal.first_held-requires-clause-follow
first_held-requires-clause-follow c =
    subst (λ (s : SiteOf). MayFollow s.d c.args.ribs) (sym c.site.view_is) c.requires.follow

pub try_nets-requires-clause-nets : goal.try_nets-requires-clause-nets
try_nets-requires-clause-nets c =
    let d = c.site.inside.d.now in
    subst (λ (s : SiteOf). All (λ net. net < length s.d.nets) c.as_slice.result.now) c.site.view_is
    (subst (All (λ net. net < length d.nets)) (sym (c.as_slice.ensures ∙ c.in_ok-nets.ensures))
    (nets_there d c.args.planes.now))

pub try_nets-requires-clause-held : goal.try_nets-requires-clause-held
try_nets-requires-clause-held c =
    let h = c.in_ok-held.held in
    held_first c.args.site.now c.args.planes.now c.args.ribs c.requires.follow c.requires.ribs c.requires.first
    c.requires.last h (subst (λ (s : SiteOf). IsFirstHeld s.d c.args.ribs h) c.site.view_is c.in_ok-held.ensures)

pub returns-in-Ok-clause-planned : goal.returns-in-Ok-clause-planned
returns-in-Ok-clause-planned c =
    let s = c.args.site.now in
    let planes = c.args.planes.now in
    let first = subst (λ (t : SiteOf). IsFirstHeld t.d c.args.ribs c.in_ok-held.held) c.site.view_is
    c.in_ok-held.ensures in
    let nets = subst (λ (t : SiteOf). c.as_slice.result.now ≡ nets_of t.d planes) c.site.view_is
    (c.as_slice.ensures ∙ c.in_ok-nets.ensures) in
    let after = c.try_nets.new.held in
    planned s planes c.args.ribs c.requires.follow c.requires.ribs c.requires.first c.requires.last after
    c.in-Ok.ensures.held
    (subst (λ (ns : List ℕ). TriesNets (on_site s (s.d.fixed ++ map loose c.args.ribs)) ns after.tiles.items) nets
    (subst (λ (xs : List Item). TriesNets (on_site s xs) c.as_slice.result.now after.tiles.items) first.held
    c.in-Ok.ensures.tries))

pub returns-in-Ok-clause-follow : goal.returns-in-Ok-clause-follow
returns-in-Ok-clause-follow c = record { each = c.in-Ok.ensures.held.each; copper = c.in-Ok.ensures.held.copper }
