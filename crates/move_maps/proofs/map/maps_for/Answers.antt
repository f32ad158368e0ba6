use Rattle.std.proofs.Common.{get_or, refl}
use Rattle.std.proofs.lemmas.List.Elements.{Contains-get_or}
use Rattle.move_maps.proofs.Grouping.{unruled_within}
use Rattle.move_maps.proofs.Following.{none_made, one_made, all_made}
use Rattle.move_maps.proofs.map.maps_for.Goals as goal

pub loop-first-init : goal.loop-first-init
loop-first-init g c =
    none_made c.args.on.now.d c.args.on.now.lat c.args.on.now.items c.args.firsts.now c.new-maps.result.items
    c.new-maps.ensures.items

pub counts_for-requires-clause-first : goal.counts_for-requires-clause-first
counts_for-requires-clause-first g c =
    let firsts = c.args.firsts.now in
    let i = c.loop-first.first-index in
    unruled_within c.args.on.now.d (get_or firsts i 0)
    (c.requires.firsts.each_first (get_or firsts i 0) (Contains-get_or firsts i 0 c.loop-first-test.true)).unruled

pub loop-first-preserved : goal.loop-first-preserved
loop-first-preserved g c =
    let firsts = c.args.firsts.now in
    let i = c.loop-first.first-index in
    one_made c.args.on.now.d c.args.on.now.lat c.args.on.now.items firsts i
    (record { first = get_or firsts i 0; counts = c.in_ok-counts.counts }) c.loop-first.maps.items c.push.new.self.items
    c.loop-first-test.true refl c.requires.firsts c.in_ok-counts.ensures c.in_ok-push.ensures.items
    c.loop-first.invariant

pub returns : goal.returns
returns g c =
    all_made c.args.on.now.d c.args.on.now.lat c.args.on.now.items c.args.firsts.now c.loop-first.first-index
    c.loop-first.maps.items c.loop-first-test.false c.requires.firsts c.loop-first.invariant
