use Rattle.std.proofs.Common.{◌≡◌, ◌∙◌, ap, subst, ℕ, ◌+◌, ◌<◌, ◌≤◌, List, [], ◌∷◌, ◌++◌, length, take, get_or, map}
use Rattle.std.specs.Borrow.{Bor}
use Rattle.std.specs.Prelude.{IfOk}
use Rattle.std.proofs.lemmas.List.{map_push, take_all}
use Rattle.dsn_shapes.specs.Lists.{heads_of}
use Rattle.dsn_shapes.proofs.Looped.{mapped_more}
use Rattle.dsn_shapes.proofs.named.names_of.Goals as goal

-- one more name behind those of the values that are seen
name_more : {T : Type 0} (name : T → List ℕ) (values : List T) (i : ℕ) (v : T) (old new : List (Bor (List ℕ)))
    (n : Bor (List ℕ)) → i < length values → v ≡ get_or values i v → heads_of old ≡ map name (take i values)
    → n.now ≡ name v → new ≡ old ++ (n ∷ []) → heads_of new ≡ map name (take (i + 1) values)
name_more name values i v old new n h e p q r =
    ap heads_of r ∙ map_push (λ (b : Bor (List ℕ)). b.now) old n
    ∙ mapped_more name values i v (heads_of old) n.now h e p q

-- the names of all values, where all are seen
names_all : {T : Type 0} (name : T → List ℕ) (values : List T) (i : ℕ) (names : List (Bor (List ℕ)))
    → length values ≤ i → heads_of names ≡ map name (take i values) → heads_of names ≡ map name values
names_all name values i names h p = p ∙ ap (map name) (take_all i values h)

pub loop-value-preserved : goal.loop-value-preserved
loop-value-preserved g c =
    name_more g.T.Named.name c.args.values.now c.loop-value.value-index c.value-item.result c.loop-value.names.items
    c.push.new.self.items c.name.result c.loop-value-test.true c.value-item.is c.loop-value.invariant c.name.ensures
    c.in_ok-push.ensures.items

pub returns : goal.returns
returns g c =
    subst (λ l. IfOk c.of.result (λ x. x ≡ l))
    (names_all g.T.Named.name c.args.values.now c.loop-value.value-index c.loop-value.names.items
    c.loop-value-test.false c.loop-value.invariant) c.of.ensures
