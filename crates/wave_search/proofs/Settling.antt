-- What the labels tell once each node within a price is done.
use Rattle.std.proofs.Common.{◌≡◌, ℕ, ◌+◌, ◌<◌, List, [], Option, arith, subst}
use Rattle.wave_search.specs.declared.rows.Label.{Label}
use Rattle.wave_search.specs.declared.front.Entry.{Entry}
use Rattle.wave_search.specs.inner.Waiting.{Waits, IsTaken}
use Rattle.route_lattice.specs.Walks.{MoveGraph}
use Rattle.wave_search.specs.inner.State.{entry, IsState, IsExact}

module _ {graph : MoveGraph} {starts goals : List ℕ} {low : ℕ → ℕ} {t : List (Option Label)} {q : List Entry} {fin : ℕ}
    (state : (level : ℕ) × IsState graph starts goals low t q level fin 0 graph.arity) (most : ℕ) where
  -- the least entry is above the price
  pub exact_past : (e : Entry) (q' : List Entry) → IsTaken q e q' → most < e.key → IsExact graph starts low t most
  exact_past e q' taken above = record {
    roots = state.1.roots;
    seeded = state.1.seeded;
    relaxed = λ v l h there d o. state.1.relaxed v l h there d (λ x. o.listed) o;
    waits = λ v l there z.
        omega (arith, taken.least (entry (l.price + low v) v) (state.1.waits v l there z), above);
  }

  -- nothing waits any more
  pub exact_none : q ≡ [] → IsExact graph starts low t most
  exact_none empty = record {
    roots = state.1.roots;
    seeded = state.1.seeded;
    relaxed = λ v l h there d o. state.1.relaxed v l h there d (λ x. o.listed) o;
    waits = λ v l there z. absurd (subst (λ (x : List Entry). Waits x (entry (l.price + low v) v)) empty
        (state.1.waits v l there z));
  }
