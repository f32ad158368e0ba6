use Rattle.std.proofs.Common.{◌++◌, List, length, sym, ap, ◌∙◌}
use Rattle.std.proofs.lemmas.List.{append-nil, drop_all}
use Rattle.pcb_model.specs.declared.item.Metal.{Metal}
use Rattle.plane_joins.specs.Stubs.{laid_from}
use Rattle.plane_stubs.proofs.Metals.{leads_laid}
use Rattle.plane_stubs.proofs.site.Site.lay_all.Goals as goal

pub loop-metal-preserved : goal.loop-metal-preserved
loop-metal-preserved c = record {
  held = c.in_ok-lay_one.ensures.held;
  leads = leads_laid c.args.self.now.d c.args.net c.args.held.now.tiles.items c.args.metals.now
      c.loop-metal.held.tiles.items c.lay_one.new.held.tiles.items c.loop-metal.metal-index c.metal-item.result
      c.loop-metal-test.true c.metal-item.is c.loop-metal.invariant.leads c.in_ok-lay_one.ensures.more;
}

pub returns-clause-more : goal.returns-clause-more
returns-clause-more c =
    let d = c.args.self.now.d in
    let items = c.loop-metal.held.tiles.items in
    sym (append-nil items)
    ∙ ap (λ (ms : List Metal). items ++ laid_from d c.args.net (length items) ms)
    (sym (drop_all c.loop-metal.metal-index c.args.metals.now c.loop-metal-test.false))
    ∙ c.loop-metal.invariant.leads.same
