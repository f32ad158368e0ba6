use Rattle.std.proofs.Common.{◌∙◌, ◌++◌, ap, List, arith, Bor}
use Rattle.dsn_tree.specs.declared.tree.Tree.{Tree}
use Rattle.dsn_shapes.specs.Index.{place_by}
use Rattle.dsn_shapes.specs.Lists.{trees_of}
use Rattle.dsn_network.specs.Words.{words_from}
use Rattle.dsn_network.proofs.Naming.{class_behind}
use Rattle.dsn_network.proofs.classes.ClassIndex.of.Goals as goal

pub loop-k-preserved : goal.loop-k-preserved
loop-k-preserved c =
    λ q. class_behind (λ (b : Bor Tree). b.now) c.as_slice-trees.result.now c.loop-k.k c.index-trees-k.result
    (trees_of c.as_slice.result.now) q (place_by c.loop-k.last q) (place_by c.keep_names.new.map q)
    (omega arith) c.index-trees-k.is (c.as_slice.ensures ∙ c.in_ok-push_words.ensures
    ∙ ap (λ (ws : List Tree). ws ++ words_from 2 c.index-trees-k.result.now) c.new-words.ensures) (c.loop-k.invariant q)
    (c.in_ok-keep_names.ensures q)
