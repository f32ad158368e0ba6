-- Islands of a net, and the connections that are open over all nets.
use Rattle.std.proofs.Common.{◌≡◌, ◌∙◌, ℕ, ◌+◌, ◌-◌, ◌<◌, ◌≤◌, List, [], ◌∷◌, ◌++◌, length, Some}
use Rattle.std.proofs.Common.{refl, sym, ap, subst, arith, inl, inr, length-append, All, Contains}
use Rattle.std.specs.Prelude.{sum_by, slice_get}
use Rattle.std.proofs.lemmas.List.Elements.{All-nil, All-cons, All-append, All-weaker, Contains-append_left}
use Rattle.std.proofs.lemmas.List.Elements.{Contains-append_right}
use borrow.Author.Count.{below_more}
use Rattle.std.proofs.lemmas.List.Sums.{sum_by_push}
use Rattle.std.proofs.lemmas.Option.{slice_get_within}
use Rattle.pcb_model.specs.declared.item.Item.{Item}
use Rattle.pcb_model.specs.declared.design.Design.{Design}
use Rattle.pcb_islands.specs.declared.net.Island.{Island}
use Rattle.pcb_islands.specs.Islands.{AreIslands}
use Rattle.pcb_islands.proofs.Elements.{look_cases}
use Rattle.board_offers.proofs.Lists.{in_here}
use Rattle.closing_pass.specs.OpenCount.{IsOpenCount}
use Rattle.route_run.specs.Runs.{HasSeveral}
use Rattle.route_run.specs.inner.Passing.{IsOpenNet, AreOpenNets}

-- ---- what is open
abbrev less_one : List Island → ℕ
less_one own = length own - 1

-- a net has one list of islands
abbrev pub IsOne : Design → List Item → Type 0
IsOne d items = (net : ℕ) (found others : List Island) → AreIslands d items net found → AreIslands d items net others
    → found ≡ others

-- a net that has several islands lacks a connection
several_open : (d : Design) (items : List Item) (net count : ℕ) → IsOne d items → IsOpenNet d items net count
    → HasSeveral d items net → 0 < count
several_open d items net count one is several =
    let same : several.found ≡ is.found = one net several.found is.found several.islands is.islands in
    omega (arith, several.several, is.count_is, ap length same)

pub open_none : (d : Design) (items : List Item) → AreOpenNets d items 0 [] 0
open_none d items = record {
  within = All-nil (λ (net : ℕ). net < 0);
  all = λ net less. absurd (omega (arith, less));
  found = [];
  found_all = refl;
  islands = λ net own at. absurd
      (let w = slice_get_within {A = List Island} [] net own at in omega (arith, w));
  sum_is = refl;
}

-- one net more
module _ (d : Design) (items : List Item) (n : ℕ) (nets : List ℕ) (count more : ℕ) (one : IsOne d items)
    (are : AreOpenNets d items n nets count) (is : IsOpenNet d items n more) where
  abbrev found_more : List (List Island)
  found_more = are.found ++ is.found ∷ []

  islands_more : (net : ℕ) (own : List Island) → slice_get found_more net ≡ Some own → AreIslands d items net own
  islands_more net own at = elim (look_cases are.found is.found net own at) [
    | inl there ↦ are.islands net own there
    | inr last ↦
        let place : net ≡ n = last.0 ∙ are.found_all in
        subst (λ (k : ℕ). AreIslands d items k own) (sym place)
        (subst (AreIslands d items n) last.1 is.islands)
  ]

  all_more : length found_more ≡ n + 1
  all_more = length-append are.found (is.found ∷ []) ∙ ap (λ (k : ℕ). k + 1) are.found_all

  sum_more : count + more ≡ sum_by less_one found_more
  sum_more =
      let sum = sum_by_push less_one are.found is.found in
      let before : count ≡ sum_by less_one are.found = are.sum_is in
      let here : more ≡ length is.found - 1 = is.count_is in
      omega (arith, sum, before, here)

  wider : All (λ (net : ℕ). net < n + 1) nets
  wider = All-weaker (λ (net : ℕ). net < n) (λ (net : ℕ). net < n + 1) (λ net less. omega (arith, less)) nets are.within

  -- one that lacks connections is listed
  pub open_more : AreOpenNets d items (n + 1) (nets ++ n ∷ []) (count + more)
  open_more = record {
    within = All-append (λ (net : ℕ). net < n + 1) nets (n ∷ []) wider
        (All-cons (λ (net : ℕ). net < n + 1) n [] (omega arith) (All-nil (λ (net : ℕ). net < n + 1)));
    all = below_more (λ (net : ℕ). HasSeveral d items net → Contains (nets ++ n ∷ []) net) n
        (λ net less several. Contains-append_left nets (n ∷ []) net (are.all net less several))
        (λ several. Contains-append_right nets (n ∷ []) n (in_here n []));
    found = found_more;
    found_all = all_more;
    islands = islands_more;
    sum_is = sum_more;
  }

  -- and another not
  pub open_same : more ≤ 0 → AreOpenNets d items (n + 1) nets count
  open_same whole = record {
    within = wider;
    all = below_more (λ (net : ℕ). HasSeveral d items net → Contains nets net) n are.all
        (λ several. absurd (let some = several_open d items n more one is several in omega (arith, some, whole)));
    found = found_more;
    found_all = all_more;
    islands = islands_more;
    sum_is = let sum = sum_more in omega (arith, sum, whole);
  }

pub open_count : (d : Design) (items : List Item) (nets : List ℕ) (count : ℕ)
    → AreOpenNets d items (length d.nets) nets count → IsOpenCount d items count
open_count d items nets count are = record {
  found = are.found;
  all = are.found_all;
  islands = are.islands;
  sum_is = are.sum_is;
}
