use Rattle.std.proofs.Common.{◌≡◌, ◌∙◌, ap, sym, ℕ, ◌+◌, ◌<◌, Bool, false, cond, List, ◌∷◌, Some, length}
use Rattle.std.proofs.Common.{drop, get_or, map, arith}
use Prim.Native.Nat.{suc}
use Rattle.std.specs.List.{position_from}
use Rattle.std.specs.Str.{bytes_eq}
use Rattle.std.proofs.Math.Seq.{drop-cons}
use Rattle.dsn_shapes.proofs.named.first_named.Goals as goal

-- an element whose name is another is passed
passed : {T : Type 0} (name : T → List ℕ) (word : List ℕ) (values : List T) (k : ℕ) (v : T) → k < length values
    → v ≡ get_or values k v → bytes_eq (name v) word ≡ false
    → position_from (λ n. bytes_eq n word) (k + 1) (map name (drop (k + 1) values))
    ≡ position_from (λ n. bytes_eq n word) k (map name (drop k values))
passed name word values k v h e n =
    let next_is : k + 1 ≡ suc k = omega arith in
    let rest = position_from (λ n. bytes_eq n word) (k + 1) (map name (drop (k + 1) values)) in
    ap (λ (b : Bool). cond b (Some k) rest) (sym (ap (λ x. bytes_eq (name x) word) (sym e) ∙ n))
    ∙ ap (λ vs. position_from (λ n. bytes_eq n word) k (map name vs))
    (ap (λ i. get_or values k v ∷ drop i values) next_is ∙ sym (drop-cons values k v h))

pub loop-k-preserved : goal.loop-k-preserved
loop-k-preserved g c =
    passed g.T.Named.name c.args.name.now c.args.values.now c.loop-k.k c.index-values-k.result c.loop-k-test.true
    c.index-values-k.is
    (ap (λ x. bytes_eq x c.args.name.now) (sym c.name.ensures) ∙ sym c.eq.ensures ∙ c.if-eq.false) ∙ c.loop-k.invariant
