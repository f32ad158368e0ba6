use Rattle.std.proofs.Common.{◌≡◌, ◌∙◌, ◌++◌, ap, sym, [], ◌∷◌}
use Rattle.std.specs.Prelude.{unwrap_or}
use Rattle.std.proofs.lemmas.Map.Text.{btree_map_updates_str}
use Rattle.dsn_shapes.specs.Names.{place_index}
use Rattle.dsn_network.specs.Places.{places_by}
use Rattle.dsn_network.proofs.Naming.{places_put}
use Rattle.dsn_network.proofs.pairs.keep_class.Goals as goal
use Rattle.dsn_network.proofs.pairs.keep_class.Goals.{in-Some, in-None}

pub returns : goal.returns
returns c = λ q.
    let old : c.match-remove.places ≡ places_by c.args.map.now c.args.name.now =
    elim c.match-remove.branch [
      | in-Some w ↦ w.places-is ∙ ap (λ o. unwrap_or o []) (sym w.in-Some.is ∙ c.remove.ensures.value)
      | in-None w ↦
          w.places-is ∙ w.new-places.ensures ∙ ap (λ o. unwrap_or o []) (sym w.in-None.is ∙ c.remove.ensures.value)
    ] in
    places_put c.args.map.now c.remove.new.self c.insert.new.self c.args.name.now q c.push.new.self _
    (btree_map_updates_str c.args.name.now c.args.map.now c.remove.new.self _ c.remove.ensures.updates)
    (btree_map_updates_str c.args.name.now c.remove.new.self c.insert.new.self _ c.in_ok-insert.ensures.updates)
    (c.in_ok-push.ensures.ok ∙ ap (λ p. c.match-remove.places ++ p ∷ []) c.place_index.ensures
    ∙ ap (λ ps. ps ++ place_index c.args.place ∷ []) old)
