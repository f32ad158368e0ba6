use Rattle.std.proofs.Common.{◌≡◌, ℕ, ◌<◌, ◌++◌, List, All, length, sym, ap, ◌∙◌, subst}
use Rattle.std.proofs.lemmas.Result.{on_ok_weaker}
use Rattle.pcb_model.specs.declared.item.Item.{Item}
use Rattle.pcb_model.specs.declared.item.Metal.{Metal}
use Rattle.pcb_model.specs.Rules.{width_for}
use Rattle.path_wire.specs.Wires.{IsNetWalk, copper_of}
use Rattle.plane_joins.specs.Stubs.{laid_from}
use Rattle.plane_stubs.specs.inner.Sites.{IsNetMetal, SiteOf}
use Rattle.plane_stubs.proofs.Metals.{net_metals}
use Rattle.plane_stubs.proofs.site.Site.lay_walk.Goals as goal

pub walk_items-requires : goal.walk_items-requires
walk_items-requires c =
    let w = c.args.walk.now in
    subst (λ (s : SiteOf). IsNetWalk s.d s.lat c.args.net w.nodes w.moves) (sym c.self.view_is) c.requires.walk

pub lay_all-requires-clause-metals : goal.lay_all-requires-clause-metals
lay_all-requires-clause-metals c =
    let d = c.self.inside.d.now in
    let m = c.self.inside.lat.now in
    let net = c.args.net in
    let w = c.args.walk.now in
    let walk =
    subst (λ (s : SiteOf). IsNetWalk s.d s.lat net w.nodes w.moves) (sym c.self.view_is) c.requires.walk in
    let site = c.self.invariant.0 in
    let there = subst (λ (s : SiteOf). net < length s.d.nets) (sym c.self.view_is) c.requires.net in
    subst (λ (s : SiteOf). All (IsNetMetal s.d net) c.as_slice.result.now) c.self.view_is
    (subst (All (IsNetMetal d net)) (sym (c.as_slice.ensures ∙ c.in_ok-metals.ensures))
    (net_metals d net (width_for d net) (copper_of d m net w.nodes w.moves)
    (λ id. c.copper_well_laid.ensures d m net id w.nodes w.moves site.sound site.fits there walk)
    (c.copper_widths.ensures d m net w.nodes w.moves walk)))

pub returns-clause-more : goal.returns-clause-more
returns-clause-more c =
    let s = c.args.self.now in
    let net = c.args.net in
    let w = c.args.walk.now in
    let items = c.args.held.now.tiles.items in
    let metals : c.as_slice.result.now ≡ copper_of s.d s.lat net w.nodes w.moves =
    subst (λ (t : SiteOf). c.as_slice.result.now ≡ copper_of t.d t.lat net w.nodes w.moves) c.self.view_is
    (c.as_slice.ensures ∙ c.in_ok-metals.ensures) in
    on_ok_weaker c.lay_all.result
    (λ e. e ∙ ap (λ (ms : List Metal). items ++ laid_from s.d net (length items) ms) metals) c.lay_all.ensures.more
