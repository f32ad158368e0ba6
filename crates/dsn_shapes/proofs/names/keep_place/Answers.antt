use Rattle.std.proofs.Common.{sym, ◌∙◌}
use Rattle.std.proofs.lemmas.Map.Text.{btree_map_updates_str}
use Rattle.dsn_shapes.proofs.Again.{chosen}
use Rattle.dsn_shapes.proofs.names.keep_place.Goals as goal

pub returns-in_ok-insert : goal.returns-in_ok-insert
returns-in_ok-insert c = λ q.
    chosen _ _ _ _ (sym c.contains_key.ensures ∙ c.if-not-contains_key.true)
    (btree_map_updates_str c.args.name.now c.args.places.now c.insert.new.self _ c.in_ok-insert.ensures.updates q)
