-- What is found beyond the nodes of a cut, and that walks don't leave both.
use Rattle.std.proofs.Common.{ℕ, List, [], ◌∷◌, ◌++◌, refl, subst}
use Rattle.std.proofs.Common.{inl, inr, All}
use Rattle.std.specs.Prelude.{◌⊎◌, ◌↔◌, Any, Bool, Contains, IsTrue, false, true}
use Rattle.std.specs.Bool.{OnFalse}
use Rattle.std.proofs.lemmas.Bool.{false≢true}
use Rattle.std.proofs.lemmas.List.Elements.{All-contains, All-weaker}
use Rattle.pcb_islands.proofs.Gathering.{in_or_not}
use Rattle.route_lattice.specs.Walks.{MoveGraph, IsSound, Hop, Opens, Leads, Reaches, IsReach, NoneLeads}
use Rattle.cut_certificate.specs.declared.cut.Block.{Block}
use Rattle.cut_certificate.specs.declared.cut.Cut.{Cut}
use Rattle.cut_certificate.specs.Goals.{Meets}
use Rattle.cut_certificate.specs.Past.{IsBlockBy, IsCutPast}
use Rattle.cut_certificate.specs.inner.Beyond.{beyond, EndsAmong}
use Rattle.cut_certificate.proofs.Flooding.{leads_on}

-- what is so where a test fails
pub unless : (b : Bool) {P Q : Type 0} → IsTrue b ↔ P → ((P → ⊥) → Q) → OnFalse b Q
unless true is f = tt
unless false is f = f (λ p. false≢true (is.1 p))

-- fewer moves of a graph that may be searched may be searched
pub beyond_sound : (graph : MoveGraph) (nodes : List ℕ) → IsSound graph → IsSound (beyond graph nodes)
beyond_sound graph nodes sound = record {
  nodes = sound.nodes;
  leads = sound.leads;
  small_price = sound.small_price;
  one_price = sound.one_price;
}

-- a block ends among more nodes
pub ends_more : (graph : MoveGraph) (id : ℕ) (old new : List ℕ) → ((v : ℕ) → Contains old v → Contains new v)
    → (blocked : List Block) → All (EndsAmong graph id old) blocked → All (EndsAmong graph id new) blocked
ends_more graph id old new kept blocked ends =
    All-weaker (EndsAmong graph id old) (EndsAmong graph id new) (λ b e node hop is o. kept hop.to (e node hop is o))
    blocked ends

module _ (graph : MoveGraph) (cut : Cut) (id : ℕ) (past : IsCutPast graph cut id) (ends nodes : List ℕ)
    (all : All (EndsAmong graph id ends) cut.blocked)
    (reach : IsReach (beyond graph cut.reach.nodes) ends nodes) where
  abbrev Found : ℕ → Type 0
  Found v = Contains cut.reach.nodes v ⊎ Contains nodes v

  end_found : (v : ℕ) → Contains ends v → Contains nodes v
  end_found v c = reach.complete v (v, [], c, refl)

  by_item : (a : ℕ) (h : Hop) → Any (IsBlockBy id a h.index) cut.blocked → Opens graph a h → Contains ends h.to
  by_item a h (k, b, within, is, by) o =
      All-contains (EndsAmong graph id ends) cut.blocked b all (k, within, is) a h by o

  further : (a : ℕ) (h : Hop) → Contains nodes a → Opens graph a h → (Contains cut.reach.nodes h.to → ⊥)
      → Contains nodes h.to
  further a h c o out =
      let w : Reaches (beyond graph cut.reach.nodes) ends a = reach.reached a c in
      let opens : Opens (beyond graph cut.reach.nodes) a h = record {
        listed = o.listed;
        leads = o.leads;
        is_open = (record { move = h.move; to = h.to; leads = o.leads; outside = out }, o.is_open);
        costs = o.costs;
      } in
      reach.complete h.to
      (w.0, w.1 ++ h ∷ [], w.2, leads_on (beyond graph cut.reach.nodes) w.1 w.0 a h w.3 opens)

  step : (a : ℕ) (h : Hop) → Found a → Opens graph a h → Found h.to
  step a h f o = elim f [
    | inl c ↦ elim (past.leads a h c o) [
      | inl k ↦ inl k
      | inr b ↦ inr (end_found h.to (by_item a h b o))
    ]
    | inr c ↦ elim (in_or_not cut.reach.nodes h.to) [
      | inl k ↦ inl k
      | inr out ↦ inr (further a h c o out)
    ]
  ]

  walk_found : (hs : List Hop) (a b : ℕ) → Found a → Leads graph a hs b → Found b
  walk_found [] a b f p = subst Found p f
  walk_found (h ∷ hs) a b f p = walk_found hs h.to b (step a h f p.0) p.1

  -- where neither has a goal, no walk leads to one
  pub none_past : (starts goals : List ℕ) → ((v : ℕ) → Contains starts v → Contains ends v)
      → (Meets cut.reach.nodes goals → ⊥) → (Meets nodes goals → ⊥) → NoneLeads graph starts goals
  none_past starts goals among no_goal none s hs g cs cg p =
      elim (walk_found hs s g (inr (end_found s (among s cs))) p) [
        | inl k ↦ no_goal (record { node = g; there = k; goal = cg })
        | inr k ↦ none (record { node = g; there = k; goal = cg })
      ]
