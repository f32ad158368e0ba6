-- Pins of a net and nets, one after another.
use Rattle.std.proofs.Common.{◌≡◌, ℕ, ◌<◌, ◌≤◌, ◌+◌, arith, refl, sym, ap, ◌∙◌, subst, Bool, true, false, true≢false}
use Rattle.std.proofs.Common.{List}
use Rattle.std.proofs.Common.{[], ◌∷◌, ◌++◌, length, drop, get_or, drop-cons, add-one, All, Contains, Option, Some}
use Rattle.std.proofs.Common.{None}
use Rattle.std.proofs.Common.{Any, inl, inr}
use Rattle.geo_kernel.proofs.Paths.{Any-cases}
use Rattle.std.specs.Prelude.{MatchOption}
use Rattle.std.proofs.lemmas.List.Elements.{All-contains}
use Rattle.std.proofs.lemmas.Option.{same_Some, slice_get_read}
use Rattle.pcb_model.specs.declared.item.Item.{Item}
use Rattle.pcb_model.specs.declared.item.Metal.{Metal}
use Rattle.pcb_islands.specs.declared.net.Island.{Island}
use Rattle.pcb_islands.specs.Islands.{AreIslands, IsIsland, pins_of}
use Rattle.route_lattice.specs.declared.moves.Walk.{Walk}
use Rattle.route_lattice.specs.Legal.{legal_graph}
use Rattle.route_lattice.specs.Mesh.{node_count}
use Rattle.route_lattice.specs.Walks.{IsWalk}
use Rattle.path_wire.specs.Wires.{copper_of}
use Rattle.plane_joins.specs.Stubs.{BeginsWith, HasNoStub, HoldsRib, IsLeastStub, IsServed, IsStubWalk, RibGround}
use Rattle.plane_joins.specs.Stubs.{TriesPin}
use Rattle.plane_joins.specs.Stubs.{TriesPins, laid_from, moves_on, with_items}
use Rattle.plane_stubs.proofs.Walks.{net_of}
use Rattle.plane_stubs.specs.inner.Holding.{HasTriedPin, IsBeginning, LeadsPins, TriesIsland}

-- ---- an island
pub tried_pin : (g : RibGround) (net pin : ℕ) (found : List Island) (s : Island) → AreIslands g.d g.items net found
    → Contains found s → BeginsWith pin s → (after : List Item) (b : Bool) → TriesIsland g s after b
    → HasTriedPin g net pin after b
tried_pin g net pin found s are there begins after false (served, e) = record {
  tries = subst (TriesPin g net pin) (sym e) (TriesPin.served found s are there begins served);
  none = λ _. e;
}
tried_pin g net pin found s are there begins after true (none, metals, is, e) = record {
  tries = subst (TriesPin g net pin)
      (sym (e ∙ ap (λ (n : ℕ). g.items ++ laid_from g.d n (length g.items) metals) (net_of g net found s are there)))
      (TriesPin.stub found s metals are there begins none is);
  none = λ f. absurd (true≢false f);
}

-- the island at a place where one begins with the pin
pub begins_there : (found : List Island) (pin place : ℕ) (s : Island) → IsBeginning found pin place
    → place < length found → s ≡ get_or found place s → Contains found s × BeginsWith pin s
begins_there found pin place s h within is = (
  (place, within, sym is),
  subst (λ (x : Island). BeginsWith pin x)
      (same_Some h.island s
      (sym h.there ∙ slice_get_read found (length found) place s refl within is)) h.begins,
)

pub inside_pin : (g : RibGround) (net pin : ℕ) (found : List Island) → AreIslands g.d g.items net found
    → All (λ (s : Island). ¬ (BeginsWith pin s)) found → HasTriedPin g net pin g.items false
inside_pin g net pin found are none = record { tries = TriesPin.inside found are none; none = λ _. refl }

-- ---- ids, one after another
pub any_none : (P : ℕ → Type 0) → Any P [] → ⊥
any_none P h = let w = h.2 in omega (arith, w)

pub any_on : (P : ℕ → Type 0) (xs : List ℕ) (k x : ℕ) → k < length xs → x ≡ get_or xs k x → ¬ (P x)
    → Any P (drop k xs) → Any P (drop (k + 1) xs)
any_on P xs k x within is none some =
    let rest = drop (k + 1) xs in
    let at : drop k xs ≡ get_or xs k x ∷ rest = drop-cons xs k x within ∙ rw add-one refl in
    let cons : drop k xs ≡ x ∷ rest = at ∙ ap (λ (y : ℕ). y ∷ rest) (sym is) in
    elim (Any-cases P x rest (subst (Any P) cons some)) [ inl p ↦ absurd (none p) | inr more ↦ more ]

-- ---- pins
pub leads_pin : (g : RibGround) (net : ℕ) (all : List ℕ) (items after : List Item) (k pin : ℕ) → k < length all
    → pin ≡ get_or all k pin → LeadsPins g net all items (drop k all) → TriesPin (with_items g items) net pin after
    → LeadsPins g net all after (drop (k + 1) all)
leads_pin g net all items after k pin within is leads one =
    let rest = drop (k + 1) all in
    let at : drop k all ≡ get_or all k pin ∷ rest = drop-cons all k pin within ∙ rw add-one refl in
    let cons : drop k all ≡ pin ∷ rest = at ∙ ap (λ (x : ℕ). x ∷ rest) (sym is) in
    record {
      on = λ end r. leads.on end
          (subst (λ (ps : List ℕ). TriesPins (with_items g items) net ps end) (sym cons) (after, one, r));
    }
