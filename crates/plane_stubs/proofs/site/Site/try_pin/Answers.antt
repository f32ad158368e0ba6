use Rattle.std.proofs.Common.{List}
use Rattle.std.proofs.lemmas.Option.{slice_get_within}
use Rattle.std.proofs.lemmas.Result.{IfOk-weaker}
use Rattle.plane_joins.specs.Stubs.{BeginsWith}
use Rattle.plane_stubs.specs.inner.Sites.{on_site}
use Rattle.plane_stubs.proofs.Trying.{begins_there, inside_pin, tried_pin}
use Rattle.plane_stubs.proofs.Walks.{net_of}
use Rattle.plane_stubs.proofs.site.Site.try_pin.Goals as goal

pub bounds-found-place : goal.bounds-found-place
bounds-found-place c =
    slice_get_within c.args.found.now c.in-Some.place c.in-Some.ensures.island c.in-Some.ensures.there

pub try_island-requires-clause-of_net : goal.try_island-requires-clause-of_net
try_island-requires-clause-of_net c =
    let found = c.args.found.now in
    let place = c.in-Some.place in
    let island = c.index-found-place.result in
    let within = slice_get_within found place c.in-Some.ensures.island c.in-Some.ensures.there in
    let is = begins_there found c.args.pin place island c.in-Some.ensures within c.index-found-place.is in
    net_of (on_site c.args.self.now c.args.held.now.tiles.items) c.args.at.now.net found island c.requires.found is.0

pub returns-in-Some-clause-tries : goal.returns-in-Some-clause-tries
returns-in-Some-clause-tries c =
    let g = on_site c.args.self.now c.args.held.now.tiles.items in
    let found = c.args.found.now in
    let place = c.in-Some.place in
    let island = c.index-found-place.result in
    let within = slice_get_within found place c.in-Some.ensures.island c.in-Some.ensures.there in
    let is = begins_there found c.args.pin place island c.in-Some.ensures within c.index-found-place.is in
    IfOk-weaker _ _ _ (λ b t.
    tried_pin g c.args.at.now.net c.args.pin found island c.requires.found is.0 is.1
    c.try_island.new.held.tiles.items b t) c.try_island.ensures.tries

pub returns-in-None-clause-tries : goal.returns-in-None-clause-tries
returns-in-None-clause-tries c =
    inside_pin (on_site c.args.self.now c.args.held.now.tiles.items) c.args.at.now.net c.args.pin c.args.found.now
    c.requires.found c.in-None.ensures
