-- What is known of a board on which each net ends: how many connections are open, and that no legal walk leads on.
use Rattle.std.proofs.Common.{◌≡◌, ◌∙◌, ℕ, zero, suc, ◌-◌, ◌<◌, List, [], ◌∷◌, length, Some}
use Rattle.std.proofs.Common.{refl, sym, ap, subst, arith, inl, inr}
use Rattle.std.specs.Prelude.{sum_by, slice_get, remove}
use Rattle.std.proofs.lemmas.List.Sums.{sum_by-cons}
use Rattle.std.proofs.lemmas.Option.{slice_get_within}
use Rattle.pcb_model.specs.declared.item.Item.{Item}
use Rattle.pcb_model.specs.declared.design.Design.{Design}
use Rattle.pcb_model.specs.Sound.{IsSound, Serves}
use Rattle.pcb_model.proofs.Symmetry.{touching_swapped}
use Rattle.pcb_islands.specs.declared.net.Island.{Island}
use Rattle.pcb_islands.specs.Islands.{AreIslands}
use Rattle.pcb_islands.proofs.Whole.{whole}
use Rattle.route_lattice.specs.Mesh.{Mesh}
use Rattle.cut_certificate.specs.declared.cut.Cut.{Cut}
use Rattle.cut_certificate.specs.Cuts.{Cuts, LeadsOn}
use Rattle.closing_pass.specs.Closing.{AreEnds, Ends, HaveCuts}
use Rattle.closing_pass.specs.OpenCount.{IsOpenCount}
use Rattle.closing_pass.specs.inner.Steps.{IsClosedOn, IsShutAt}

-- an element that is within a list
pub record HasElement {X : Type 0} (xs : List X) (i : ℕ) : Type 0 where
  pub value : X
  pub there : slice_get xs i ≡ Some value

pub element_at : {X : Type 0} (xs : List X) (i : ℕ) → i < length xs → HasElement xs i
element_at [] i within = absurd (omega (arith, within))
element_at (x ∷ xs) zero within = record { value = x; there = refl }
element_at (x ∷ xs) (suc i) within =
    let rest = element_at xs i (omega (arith, within)) in record { value = rest.value; there = rest.there }

-- no legal walk leads out of a cut
pub cut_shuts : (d : Design) (m : Mesh) (items : List Item) (via_cost : ℕ) (island : Island) (others : List Island)
    (cut : Cut) → Cuts d m items via_cost island others (Some cut) → ¬ (LeadsOn d m items via_cost island others)
cut_shuts d m items via_cost island others cut has leads =
    let reached = has.1 in
    has.0.goals_out leads.to leads.ends
    (reached.reach.complete leads.to (
      leads.from,
      leads.hops,
      (reached.starts_are leads.from).1 leads.starts,
      leads.leads,
    ))

module _ (d : Design) (m : Mesh) (via_cost : ℕ) (items : List Item) (sound : IsSound d) (serves : Serves items d) where
  -- the islands of a net that ends with cuts
  pub cut_at : (found : List Island) (cuts : List Cut) → HaveCuts d m via_cost items found cuts → (place : ℕ)
      → IsShutAt d m via_cost items found place
  cut_at found cuts have place island is =
      let within = slice_get_within found place island is in
      let all = have.all in
      let cut = element_at cuts place (omega (arith, within, all)) in
      cut_shuts d m items via_cost island (remove found place) cut.value (have.each place island cut.value is cut.there)

  -- a net that ends is closed
  pub closed_end : (net : ℕ) (cuts : List Cut) → Ends d m via_cost items net cuts → IsClosedOn d m via_cost items net
  closed_end net cuts e = record {
    found = e.found;
    islands = e.islands;
    shut = elim e.ends [
      | inl all ↦ inl ((whole d items net sound serves touching_swapped e.found e.islands).1 all.0)
      | inr open_net ↦ inr (cut_at e.found cuts open_net.1)
    ];
  }

  -- ---- the count
  abbrev pub less_one : List Cut → ℕ
  less_one cuts = length cuts - 1

  abbrev islands_less : List Island → ℕ
  islands_less own = length own - 1

  -- as many connections are open as the net has cuts, less one
  count_end : (net : ℕ) (cuts : List Cut) → (e : Ends d m via_cost items net cuts)
      → islands_less e.found ≡ less_one cuts
  count_end net cuts e = elim e.ends [
    | inl all ↦
        let few = (whole d items net sound serves touching_swapped e.found e.islands).1 all.0 in
        let none = ap (λ (xs : List Cut). length xs) all.1 in
        omega (arith, few, none)
    | inr open_net ↦ let all = open_net.1.all in omega (arith, all)
  ]

  -- the islands net by net
  record HasCounts (ends : List (List Cut)) (at : ℕ → ℕ) : Type 0 where
    found : List (List Island)
    all : length found ≡ length ends
    islands : (i : ℕ) (own : List Island) → slice_get found i ≡ Some own → AreIslands d items (at i) own
    sum_is : sum_by islands_less found ≡ sum_by less_one ends

  counts : (ends : List (List Cut)) (at : ℕ → ℕ)
      → ((i : ℕ) (cuts : List Cut) → slice_get ends i ≡ Some cuts → Ends d m via_cost items (at i) cuts)
      → HasCounts ends at
  counts [] at each = record {
    found = [];
    all = refl;
    islands = λ i own there. absurd (let w = slice_get_within {A = List Island} [] i own there in omega (arith, w));
    sum_is = refl;
  }
  counts (cuts ∷ ends) at each =
      let e = each 0 cuts refl in
      let rest = counts ends (λ i. at (suc i)) (λ i cs there. each (suc i) cs there) in
      record {
        found = e.found ∷ rest.found;
        all = let all = rest.all in omega (arith, all);
        islands = own_at e.found rest.found at e.islands rest.islands;
        sum_is =
            let here = count_end (at 0) cuts e in
            let one = sum_by-cons islands_less e.found rest.found in
            let two = sum_by-cons less_one cuts ends in
            let sum = rest.sum_is in
            omega (arith, here, one, two, sum);
      }
    where
      own_at : (f : List Island) (fs : List (List Island)) (at : ℕ → ℕ) → AreIslands d items (at 0) f
          → ((i : ℕ) (own : List Island) → slice_get fs i ≡ Some own → AreIslands d items (at (suc i)) own)
          → (i : ℕ) (own : List Island) → slice_get (f ∷ fs) i ≡ Some own → AreIslands d items (at i) own
      own_at f fs at first rest zero own there = subst (AreIslands d items (at 0)) (same_list f own there) first
        where
          same_list : (a c : List Island) → Some a ≡ Some c → a ≡ c
          same_list a c e = cc
      own_at f fs at first rest (suc i) own there = rest i own there

  pub open_count : (ends : List (List Cut)) → AreEnds d m via_cost items (length d.nets) ends
      → IsOpenCount d items (sum_by less_one ends)
  open_count ends are =
      let c = counts ends (λ i. i) are.each in
      record { found = c.found; all = c.all ∙ are.all; islands = c.islands; sum_is = sym c.sum_is }
