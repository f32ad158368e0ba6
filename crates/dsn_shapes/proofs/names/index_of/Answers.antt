use Rattle.std.proofs.Common.{◌≡◌, ◌∙◌, ap, subst, ℕ, ◌+◌, ◌<◌, List, [], ◌∷◌, ◌++◌, length, take, get_or}
use Rattle.std.specs.Prelude.{IfOk}
use Rattle.std.specs.Borrow.{Bor}
use Rattle.std.proofs.lemmas.List.{map_push, take_all}
use Rattle.dsn_tree.specs.declared.tree.Tree.{Tree}
use Rattle.dsn_shapes.specs.Lists.{heads_of, name_of, trees_of}
use Rattle.dsn_shapes.specs.Names.{names_at}
use Rattle.dsn_shapes.proofs.Looped.{made_more}
use Rattle.dsn_shapes.proofs.names.index_of.Goals as goal

-- one more name behind those of the lists that are seen
name_more : (i : ℕ) (ts : List (Bor Tree)) (k : ℕ) (t : Bor Tree) (old new : List (Bor (List ℕ))) (n : Bor (List ℕ))
    → k < length ts → t ≡ get_or ts k t → heads_of old ≡ names_at i (trees_of (take k ts)) → n.now ≡ name_of t.now i
    → new ≡ old ++ (n ∷ []) → heads_of new ≡ names_at i (trees_of (take (k + 1) ts))
name_more i ts k t old new n h e p q r =
    ap heads_of r ∙ map_push (λ (b : Bor (List ℕ)). b.now) old n
    ∙ made_more (λ t. name_of t i) ts k t (heads_of old) n.now h e p q

pub loop-tree-init : goal.loop-tree-init
loop-tree-init c = ap heads_of c.new-names.ensures.items

pub loop-tree-preserved : goal.loop-tree-preserved
loop-tree-preserved c =
    name_more c.args.i c.args.trees.now c.loop-tree.tree-index c.tree-item.result c.loop-tree.names.items
    c.push.new.self.items c.name_of.result c.loop-tree-test.true c.tree-item.is c.loop-tree.invariant
    c.name_of.ensures c.in_ok-push.ensures.items

pub returns : goal.returns
returns c =
    let all = take_all c.loop-tree.tree-index c.args.trees.now c.loop-tree-test.false in
    subst (λ names. IfOk c.of.result (λ index. index ≡ names))
    (c.loop-tree.invariant ∙ ap (λ ts. names_at c.args.i (trees_of ts)) all) c.of.ensures
