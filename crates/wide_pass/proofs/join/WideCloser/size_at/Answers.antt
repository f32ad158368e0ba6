use Rattle.std.proofs.Common.{◌∙◌, ◌≤◌, ap, subst, sym, length, List}
use Rattle.std.specs.List.{insert}
use Rattle.pcb_islands.specs.declared.net.Island.{Island}
use Rattle.closing_pass.proofs.Places.{place_within, put_again}
use Rattle.wide_pass.proofs.Sizing.{at_place, has_nodes}
use Rattle.wide_pass.proofs.join.WideCloser.size_at.Goals as goal

pub remove-island-requires : goal.remove-island-requires
remove-island-requires c = c.requires.there

pub size_of-requires-clause-can : goal.size_of-requires-clause-can
size_of-requires-clause-can c = c.requires.can

pub size_of-requires-clause-there : goal.size_of-requires-clause-there
size_of-requires-clause-there c =
    (c.requires.cuts c.remove-island.result c.remove-island.ensures.value).0.there

pub put_back-requires : goal.put_back-requires
put_back-requires c =
    subst (λ (os : List Island). c.args.place ≤ length os) (sym c.remove-island.ensures.rest)
    (place_within c.args.found c.args.place c.requires.there)

pub returns-clause-found : goal.returns-clause-found
returns-clause-found c =
    c.in_ok-found.ensures ∙ ap (λ (xs : List Island). insert xs c.args.place c.remove-island.result)
    c.remove-island.ensures.rest
    ∙ put_again c.args.found c.args.place c.remove-island.result c.remove-island.ensures.value

pub returns-clause-looks : goal.returns-clause-looks
returns-clause-looks c =
    let m = c.args.self.now.lat.now in
    let cost = c.args.self.now.via_cost in
    let island = c.remove-island.result in
    let others = c.remove-island.new.self in
    at_place m cost c.args.snap.now c.args.found c.args.place c.args.cut.now c.requires island
    c.remove-island.ensures.value others c.in-Ok.size c.remove-island.ensures.rest
    (c.in-Ok.ensures island (has_nodes m cost c.args.snap.now c.args.found c.args.place c.args.cut.now c.requires
    island c.remove-island.ensures.value others c.remove-island.ensures.rest))
