use Rattle.std.specs.Str.{bytes_eq}
use Rattle.std.proofs.lemmas.Map.Text.{btree_map_updates_str}
use Rattle.dsn_shapes.specs.Index.{place_by}
use Rattle.dsn_shapes.specs.Lists.{text_of}
use Rattle.dsn_network.proofs.Naming.{word_behind}
use Rattle.dsn_network.proofs.classes.keep_names.Goals as goal

pub loop-word-preserved : goal.loop-word-preserved
loop-word-preserved c = λ q.
    word_behind (λ w. bytes_eq (text_of w) q) c.args.words.now c.loop-word.word-index c.word-item.result c.args.class
    (place_by c.args.map.now q) (place_by c.loop-word.map q) (place_by c.insert.new.self q) c.loop-word-test.true
    c.word-item.is (c.loop-word.invariant q)
    (rw c.text_of.ensures at
    (btree_map_updates_str c.text_of.result.now c.loop-word.map c.insert.new.self _ c.in_ok-insert.ensures.updates q))
