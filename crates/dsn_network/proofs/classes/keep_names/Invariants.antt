use Rattle.std.proofs.Common.{◌≡◌, take, ℕ, List}
use Rattle.std.specs.Prelude.{Some, if◌then◌else◌}
use Rattle.std.specs.List.{list_any}
use Rattle.std.specs.Str.{bytes_eq}
use Rattle.dsn_shapes.specs.Index.{place_by}
use Rattle.dsn_shapes.specs.Lists.{text_of, trees_of}
use Rattle.dsn_network.proofs.classes.keep_names.Given as goal

abbrev pub invariant-loop-word : goal.invariant-loop-word
invariant-loop-word l = (q : List ℕ)
    → place_by l.map q ≡ (if list_any (λ w. bytes_eq (text_of w) q) (trees_of (take l.word-index l.words))
    then Some l.class else place_by l.initial.map q)
