use Rattle.std.proofs.Common.{◌<◌, ◌∙◌, List, length, All, sym, subst}
use Rattle.std.specs.Prelude.{Contains, IfNone, IfSome}
use Rattle.move_maps.specs.declared.map.GroupMap.{GroupMap as OneMap}
use Rattle.move_maps.specs.Maps.{IsNotFor}
use Rattle.move_maps.proofs.map.MoveMaps.map_of.Goals as goal

pub map_for-requires-clause-firsts : goal.map_for-requires-clause-firsts
map_for-requires-clause-firsts c =
    subst (All (λ (o : OneMap). o.first < length c.args.d.now.nets)) (sym (c.as_slice.ensures.value ∙ c.self.view_is))
    c.requires.firsts

pub returns-clause-none : goal.returns-clause-none
returns-clause-none c =
    subst (λ (os : List OneMap). IfNone c.map_for.result (All (IsNotFor c.args.d.now c.args.net) os))
    (c.as_slice.ensures.value ∙ c.self.view_is) c.map_for.ensures.none

pub returns-clause-there : goal.returns-clause-there
returns-clause-there c =
    subst (λ (os : List OneMap). IfSome c.map_for.result (λ g. Contains os g.now))
    (c.as_slice.ensures.value ∙ c.self.view_is) c.map_for.ensures.there
