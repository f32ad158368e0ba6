-- One turn of the search, and its end.
use Rattle.std.proofs.Common.{◌≡◌, ℕ, ◌+◌, ◌-◌, ◌*◌, ◌^◌, ◌<◌, ◌≤◌, List, [], length, Option, Some, None, refl, ap}
use Rattle.std.proofs.Common.{◌∙◌, subst, arith, inl, inr, ◌⊎◌}
use Rattle.std.specs.Prelude.{Contains, IfSome, MatchOption}
use Rattle.wave_search.specs.declared.rows.Label.{Label}
use Rattle.wave_search.specs.declared.front.Entry.{Entry}
use Rattle.wave_search.specs.inner.Waiting.{IsTaken, Waits}
use Rattle.route_lattice.specs.Walks.{MoveGraph, IsSound, NoneCostsLess}
use Rattle.wave_search.specs.Bounds.{IsBound}
use Rattle.wave_search.specs.inner.State.{label_at, entry, IsPut, KeepsDone, Comes, Roots, IsState, IsExhausted}
use Rattle.wave_search.proofs.Table.{within, at_most, more_to_do}
use Rattle.wave_search.proofs.Steps.{finished, key_is, none_less, closed_none, closed_complete, closed_reached}
use Rattle.wave_search.proofs.Steps.{not_done, one_label, done_kept}

-- an entry came out of the front
pub taken_now : (old new : List Entry) (o : Option Entry) (e : Entry)
    → MatchOption o ((old ≡ []) × (new ≡ [])) (λ x. IsTaken old x new) → o ≡ Some e → IsTaken old e new
taken_now old new o e m is =
    subst (λ (x : Option Entry). MatchOption x ((old ≡ []) × (new ≡ [])) (λ y. IsTaken old y new)) is m

-- nothing came out of it
pub nothing_now : (old new : List Entry) (o : Option Entry)
    → MatchOption o ((old ≡ []) × (new ≡ [])) (λ x. IsTaken old x new) → o ≡ None → old ≡ []
nothing_now old new o m is =
    (subst (λ (x : Option Entry). MatchOption x ((old ≡ []) × (new ≡ [])) (λ y. IsTaken old y new)) is m).0

-- the price of a label is small
pub price_small : {graph : MoveGraph} {starts goals : List ℕ} {low : ℕ
    → ℕ} {t : List (Option Label)} {q : List Entry} {level fin cur j : ℕ} → IsSound graph
    → IsState graph starts goals low t q level fin cur j
    → (v : ℕ) (l : Label) → label_at t v ≡ Some l → l.price < 2 ^ 60
price_small {t = t} sound i v l h = omega (arith, i.priced v l h, i.done, at_most t, i.roots.size, sound.nodes)

-- the origin of a label is a small number
pub origin_small : {graph : MoveGraph} {starts : List ℕ} {t : List (Option Label)} → IsSound graph
    → Roots graph starts t → (v : ℕ) (l : Label) → label_at t v ≡ Some l → IfSome l.origin (λ o. o < 2 ^ 25)
origin_small {graph} {starts} {t} sound roots v l h = small l.origin (roots.comes v l h)
  where
    small : (o : Option ℕ) → Comes graph starts t v l.price l.rank o → IfSome o (λ x. x < 2 ^ 25)
    small None c = tt
    small (Some x) c = omega (arith, within t x c.label c.there, roots.size, sound.nodes)

pub none_in : (xs : List ℕ) → xs ≡ [] → (v : ℕ) → Contains xs v → ⊥
none_in xs e v c = let k = subst (λ (ys : List ℕ). Contains ys v) e c in omega (arith, k.1)

-- a bound is one for no goals
pub unbound : {graph : MoveGraph} {goals : List ℕ} {low : ℕ → ℕ} (xs : List ℕ) → xs ≡ [] → IsBound graph goals low
    → IsBound graph xs low
unbound xs e b = record { limit = b.limit; at_goals = λ v c. absurd (none_in xs e v c); falls = b.falls }

-- the state of a search is one for no goals
pub goalless : {graph : MoveGraph} {starts goals : List ℕ} {low : ℕ
    → ℕ} {t : List (Option Label)} {q : List Entry} {level fin cur j : ℕ} (xs : List ℕ) → xs ≡ []
    → IsState graph starts goals low t q level fin cur j
    → IsState graph starts xs low t q level fin cur j
goalless xs e i = record {
  roots = i.roots;
  seeded = i.seeded;
  priced = i.priced;
  ranked = i.ranked;
  waits = i.waits;
  settled = i.settled;
  no_goal = λ v l h d c. none_in xs e v c;
  relaxed = i.relaxed;
  above = i.above;
  labelled = i.labelled;
  done = i.done;
}

module _ {graph : MoveGraph} {starts goals : List ℕ} {low : ℕ → ℕ} (sound : IsSound graph)
    (bound : IsBound graph goals low)
    {t : List (Option Label)} {q : List Entry} {fin : ℕ} (state : (level : ℕ)
    × IsState graph starts goals low t q level fin 0 graph.arity) {e : Entry} {q' : List Entry}
    (taken : IsTaken q e q') where
  pub node_in : e.node < length t
  node_in = let b = state.1.labelled e taken.there in within t e.node b.1.label b.1.there

  pub node_below : e.node < graph.count
  node_below = omega (arith, node_in, state.1.roots.size)

  -- the state is one without the entry, where its node is done
  pub skipped : ((l : Label) → label_at t e.node ≡ Some l → l.rank ≡ 0 → ⊥)
      → (level : ℕ) × IsState graph starts goals low t q' level fin 0 graph.arity
  skipped done = (
    state.0,
    record {
      roots = state.1.roots;
      seeded = state.1.seeded;
      priced = state.1.priced;
      ranked = state.1.ranked;
      waits = λ v l h r. still v l h r (taken.kept (entry (l.price + low v) v) (state.1.waits v l h r));
      settled = state.1.settled;
      no_goal = state.1.no_goal;
      relaxed = state.1.relaxed;
      above = λ x w. state.1.above x (taken.only x w);
      labelled = λ x w. state.1.labelled x (taken.only x w);
      done = state.1.done;
    },
  )
    where
      still : (v : ℕ) (l : Label) → label_at t v ≡ Some l → l.rank ≡ 0
          → Waits q' (entry (l.price + low v) v) ⊎ (entry (l.price + low v) v ≡ e)
          → Waits q' (entry (l.price + low v) v)
      still v l h r (inl w) = w
      still v l h r (inr is) =
          absurd (done l (subst (λ (u : ℕ). label_at t u ≡ Some l) (ap (λ (x : Entry). x.node) is) h) r)

  module _ {l : Label} (there : label_at t e.node ≡ Some l) (rank_is : l.rank ≡ 0) where
    waits : (k : Label) → label_at t e.node ≡ Some k → k.rank ≡ 0
    waits k h = ap (λ (x : Label). x.rank) (one_label t e.node k l h there) ∙ rank_is

    pub room : fin < graph.count
    room = omega (
      arith,
      more_to_do t e.node node_in (not_done (label_at t e.node) waits),
      state.1.done,
      state.1.roots.size,
    )

    pub put_keeps : (k : Label) (t' : List (Option Label)) → IsPut t e.node k t' → KeepsDone t t'
    put_keeps k t' w = done_kept t e.node k t' w waits

    -- a goal's key is its price
    pub goal_key : Contains goals e.node → e.key ≡ l.price
    goal_key c = omega (
      arith,
      key_is graph starts goals low sound bound t q state.0 fin 0 state.1 e q' taken l there rank_is,
      bound.at_goals e.node c,
    )

    pub none_less_now : Contains goals e.node → NoneCostsLess graph starts goals l.price
    none_less_now ge = none_less graph starts goals low sound bound t q state.0 fin 0 state.1 e q' taken l there rank_is
        ge

    pub state_now : (Contains goals e.node → ⊥) → (t' : List (Option Label))
        → IsPut t e.node (record { price = l.price; rank = fin + 1; origin = l.origin }) t'
        → IsState graph starts goals low t' q' (l.price + low e.node) (fin + 1) e.node 0
    state_now g t' w = subst (λ (k : ℕ). IsState graph starts goals low t' q' k (fin + 1) e.node 0)
        (key_is graph starts goals low sound bound t q state.0 fin 0 state.1 e q' taken l there rank_is)
        (finished graph starts goals low sound bound t q state.0 fin 0 state.1 e q' taken l there rank_is
        (record { price = l.price; rank = fin + 1; origin = l.origin }) refl refl refl g t' w)

suc-times : (k a : ℕ) → (k + 1) * (a + 1) ≡ k * (a + 1) + (a + 1)
suc-times k a = omega arith

-- the measure of a turn
pub falls : (count fin a x y z : ℕ) → fin < count → y < x → z ≤ y + a
    → (count - (fin + 1)) * (a + 1) + z < (count - fin) * (a + 1) + x
falls count fin a x y z h f g =
    let e : count - fin ≡ count - (fin + 1) + 1 = omega arith in
    let m : (count - fin) * (a + 1) ≡ (count - (fin + 1)) * (a + 1) + (a + 1) = ap (λ (x : ℕ). x * (a + 1)) e
    ∙ suc-times (count - (fin + 1)) a in
    omega (arith, m)

-- nothing waits any more
pub exhausted : {graph : MoveGraph} {starts goals : List ℕ} {low : ℕ → ℕ} → IsSound graph → IsBound graph goals low
    → {t : List (Option Label)} {q : List Entry} {fin : ℕ} → (level : ℕ)
    × IsState graph starts goals low t q level fin 0 graph.arity → q ≡ [] → IsExhausted graph starts goals t
exhausted {graph} {starts} {goals} {low} sound bound {t} {q} {fin} s empty =
    let state : IsState graph starts goals low t [] s.0 fin 0 graph.arity =
    subst (λ (x : List Entry). IsState graph starts goals low t x s.0 fin 0 graph.arity) empty s.1 in record {
      none = closed_none graph starts goals low sound bound t s.0 fin 0 state;
      reach = λ nodes i. record {
        ascends = i.ascends;
        reached = λ v c. let l = i.labelled v c in
            closed_reached graph starts goals low sound bound t s.0 fin 0 state v l.0 l.1;
        complete = λ v r. let l = closed_complete graph starts goals low sound bound t s.0 fin 0 state v r in
            i.complete v l.0 l.1;
      };
    }
