-- What is reached from islands that have cuts, one after another.
use Rattle.std.proofs.Common.{◌≡◌, ◌==◌, ◌∙◌, ℕ, ◌+◌, ◌<◌, ◌≤◌, true, false, eq-eqb, List}
use Rattle.std.proofs.Common.{[], ◌∷◌, ◌++◌, length, take, get_or}
use Rattle.std.proofs.Common.{Option, Some, None, sym, ap, subst, arith, inl, inr, flat_map}
use Rattle.std.specs.Prelude.{slice_get, remove}
use Rattle.std.specs.List.{AllZip}
use Rattle.std.proofs.lemmas.Bool.{eqb-true, false≢true}
use Rattle.std.proofs.lemmas.List.{append-nil, append_assoc, nil_from_length, take_more, take_all}
use Rattle.std.proofs.lemmas.Grind.{flat_map-append}
use Rattle.std.proofs.lemmas.Option.{slice_get_within}
use Rattle.pcb_model.specs.declared.item.Item.{Item}
use Rattle.pcb_model.specs.declared.design.Design.{Design}
use Rattle.pcb_islands.specs.declared.net.Island.{Island}
use Rattle.pcb_islands.specs.Islands.{AreIslands}
use Rattle.route_lattice.specs.Mesh.{Mesh}
use Rattle.route_lattice.specs.Walks.{IsReach}
use Rattle.route_lattice.specs.Legal.{legal_graph}
use Rattle.path_wire.specs.Diagonals.{wide_graph}
use Rattle.cut_certificate.specs.declared.cut.Cut.{Cut}
use Rattle.cut_certificate.specs.Cuts.{AreGoals, Cuts}
use Rattle.cut_certificate.specs.Goals.{Meets}
use Rattle.pcb_board.specs.Boards.{SnapOf}
use Rattle.wide_offer.specs.Leading.{LeadsWide}
use Rattle.wide_pass.specs.Rounds.{IsWideReach, IsWideSize}
use Rattle.wide_pass.specs.inner.Sizes.{AddsSizes, CanReach, HasCutAt, HasNodes, IsReachedSize, IsWideOpen, LooksAt}
use Rattle.wide_pass.specs.inner.Sizes.{LooksAtPlace}
use Rattle.closing_pass.specs.Closing.{Ends, HaveCuts}
use Rattle.closing_pass.proofs.Fewer.{single}
use Rattle.closing_pass.proofs.Joining.{net_at}
use Rattle.wide_pass.proofs.Ended.{element_at}

-- what moves reach from what legal ones reach
abbrev pub Reaches : Design → Mesh → List Item → ℕ → ℕ → List ℕ → List ℕ → Type 0
Reaches d m items net via_cost legal nodes = (starts : List ℕ)
    → IsReach (legal_graph d m items net via_cost) starts legal
    → IsReach (wide_graph d m items net via_cost) starts nodes

-- ---- one island
module _ (d : Design) (m : Mesh) (via_cost : ℕ) (items : List Item) (net : ℕ) (island : Island) (others : List Island)
    (cut : Cut) (nodes goals : List ℕ) (has : HasNodes d m via_cost items net island others cut)
    (goals_are : AreGoals d m items others goals)
    (on : Reaches d m items net via_cost cut.reach.nodes nodes) where
  reach : IsReach (wide_graph d m items island.net via_cost) has.cuts.1.starts nodes
  reach = subst (λ (n : ℕ). IsReach (wide_graph d m items n via_cost) has.cuts.1.starts nodes) (sym has.net_is)
      (on has.cuts.1.starts (subst (λ (n : ℕ). IsReach (legal_graph d m items n via_cost) has.cuts.1.starts
      cut.reach.nodes) has.net_is has.cuts.1.reach))

  -- where no goal is among what is reached, this is its size
  pub reached_size : (Meets nodes goals → ⊥) → (size : ℕ) → size ≡ length nodes
      → IsReachedSize d m via_cost items island others size
  reached_size none size is = record {
    nodes = nodes;
    reached = record {
      starts = has.cuts.1.starts;
      starts_are = has.cuts.1.starts_are;
      reach = reach;
      goals_out = λ node goal there.
          none (record { node = node; there = there; goal = (goals_are.exact node).1 goal });
    };
    size_is = is;
  }

  -- and else moves lead on
  pub leads_there : Meets nodes goals → LeadsWide d m items via_cost island others
  leads_there met =
      let walk = reach.reached met.node met.there in
      record {
        from = walk.0;
        hops = walk.1;
        to = met.node;
        starts = (has.cuts.1.starts_are walk.0).0 walk.2;
        ends = (goals_are.exact met.node).0 met.goal;
        leads = walk.3;
      }

-- ---- at a place
module _ (m : Mesh) (via_cost : ℕ) (s : SnapOf) (found : List Island) (place : ℕ) (cut : Cut)
    (at : HasCutAt m via_cost s found place cut) (island : Island) (is : slice_get found place ≡ Some island) where
  pub has_nodes : (others : List Island) → others ≡ remove found place
      → HasNodes s.design m via_cost s.items cut.net island others cut
  has_nodes others rest = record {
    net_is = sym (at.cuts island is).0.net_is;
    cuts = subst (λ (os : List Island). Cuts s.design m s.items via_cost island os (Some cut)) (sym rest)
        (at.cuts island is);
  }

  pub at_place : (others : List Island) (size : Option ℕ) → others ≡ remove found place
      → LooksAt s.design m via_cost s.items island others size → LooksAtPlace m via_cost s cut size
  at_place others (Some size) rest h = record {
    found = found;
    islands = at.islands;
    place = place;
    island = island;
    island_is = is;
    pin_is = (at.cuts island is).0.pin_is;
    nodes = h.nodes;
    reached = subst (λ (os : List Island). IsWideReach s.design m s.items via_cost island os h.nodes) rest h.reached;
    size_is = h.size_is;
  }
  at_place others None rest h = record {
    found = found;
    islands = at.islands;
    place = place;
    island = island;
    island_is = is;
    leads = subst (λ (os : List Island). LeadsWide s.design m s.items via_cost island os) rest h;
  }

-- ---- a net with cuts
module _ (m : Mesh) (via_cost : ℕ) (s : SnapOf) (net : ℕ) (found : List Island) (cuts : List Cut)
    (can : CanReach m via_cost s net) (ends : Ends s.design m via_cost s.items net cuts)
    (some : (length cuts == 0) ≡ false) (islands : AreIslands s.design s.items net found) where
  have : HaveCuts s.design m via_cost s.items found cuts
  have = elim ends.ends [
    | inl all ↦ absurd (false≢true (sym some ∙ eq-eqb (length cuts) 0 (ap (λ (xs : List Cut). length xs) all.1)))
    | inr open_net ↦ subst (λ (fs : List Island). HaveCuts s.design m via_cost s.items fs cuts)
        (single s.design s.items net ends.found found can.can_move.sound can.serves ends.islands islands) open_net.1
  ]

  pub many : length cuts ≡ length found
  many = have.all

  module _ (place : ℕ) (cut : Cut) (there : slice_get cuts place ≡ Some cut) where
    within : place < length found
    within =
        let w = slice_get_within cuts place cut there in
        let long = have.all in
        omega (arith, w, long)

    pub cut_net : cut.net ≡ net
    cut_net =
        let island = element_at found place within in
        (have.each place island.value cut island.there there).0.net_is
        ∙ net_at s.design s.items net found place island.value islands island.there

    pub has_cut_at : HasCutAt m via_cost s found place cut
    has_cut_at = record {
      can = subst (CanReach m via_cost s) (sym cut_net) can;
      islands = subst (λ (n : ℕ). AreIslands s.design s.items n found) (sym cut_net) islands;
      there = within;
      cuts = λ island is. have.each place island cut is there;
    }

    -- moves lead on from an island of the cut's net
    pub open_here : IsWideOpen s.design m via_cost s.items cut.net → IsWideOpen s.design m via_cost s.items net
    open_here h = subst (IsWideOpen s.design m via_cost s.items) cut_net h

-- ---- lists
pub zip_append : {A B : Type 0} (R : A → B → Type 0) (xs ys : List A) (us vs : List B) → AllZip R xs us
    → AllZip R ys vs → AllZip R (xs ++ ys) (us ++ vs)
zip_append R [] ys [] vs h k = k
zip_append R [] ys (u ∷ us) vs h k = absurd h
zip_append R (x ∷ xs) ys [] vs h k = absurd h
zip_append R (x ∷ xs) ys (u ∷ us) vs h k = (h.0, zip_append R xs ys us vs h.1 k)

module _ (m : Mesh) (via_cost : ℕ) (s : SnapOf) where
  abbrev IsSize : Cut → ℕ → Type 0
  IsSize = IsWideSize s.design m s.items via_cost

  pub adds_none : (wide : List ℕ) → AddsSizes m via_cost s [] wide wide
  adds_none wide = record { own = []; new_is = sym (append-nil wide); sizes = tt }

  pub adds_empty : (cuts : List Cut) (wide : List ℕ) → (length cuts == 0) ≡ true → AddsSizes m via_cost s cuts wide wide
  adds_empty cuts wide none =
      subst (λ (cs : List Cut). AddsSizes m via_cost s cs wide wide)
      (sym (nil_from_length cuts (eqb-true (length cuts) 0 none))) (adds_none wide)

  pub adds_more : (cuts : List Cut) (i : ℕ) (cut e : Cut) (size : ℕ) (old wide more : List ℕ) → i < length cuts
      → cut ≡ get_or cuts i e → AddsSizes m via_cost s (take i cuts) old wide → IsSize cut size
      → more ≡ wide ++ size ∷ [] → AddsSizes m via_cost s (take (i + 1) cuts) old more
  adds_more cuts i cut e size old wide more within is a h more_is = record {
    own = a.own ++ size ∷ [];
    new_is = more_is ∙ (ap (λ (xs : List ℕ). xs ++ size ∷ []) a.new_is ∙ append_assoc old a.own (size ∷ []));
    sizes = subst (λ (xs : List Cut). AllZip IsSize xs (a.own ++ size ∷ [])) (sym (take_more cuts i e within))
        (zip_append IsSize (take i cuts) (get_or cuts i e ∷ []) a.own (size ∷ []) a.sizes
        (subst (λ (c : Cut). IsSize c size) is h, tt));
  }

  pub adds_all : (cuts : List Cut) (i : ℕ) (old wide : List ℕ) → length cuts ≤ i
      → AddsSizes m via_cost s (take i cuts) old wide → AddsSizes m via_cost s cuts old wide
  adds_all cuts i old wide le a = subst (λ (xs : List Cut). AddsSizes m via_cost s xs old wide) (take_all i cuts le) a

  abbrev pub cuts_of : List (List Cut) → List Cut
  cuts_of ends = flat_map (λ (cuts : List Cut). cuts) ends

  -- one net more
  pub net_more : (ends : List (List Cut)) (n : ℕ) (cuts e : List Cut) (wide later : List ℕ) → n < length ends
      → cuts ≡ get_or ends n e → AllZip IsSize (cuts_of (take n ends)) wide
      → AddsSizes m via_cost s cuts wide later → AllZip IsSize (cuts_of (take (n + 1) ends)) later
  net_more ends n cuts e wide later within is before a =
      let all : cuts_of (take (n + 1) ends) ≡ cuts_of (take n ends) ++ cuts =
      ap cuts_of (take_more ends n e within)
      ∙ (flat_map-append (λ (cs : List Cut). cs) (take n ends) (get_or ends n e ∷ [])
      ∙ (ap (λ (cs : List Cut). cuts_of (take n ends) ++ cs) (append-nil (get_or ends n e))
      ∙ ap (λ (cs : List Cut). cuts_of (take n ends) ++ cs) (sym is))) in
      subst (λ (p : List Cut × List ℕ). AllZip IsSize p.0 p.1) (λ i. (sym all i, sym a.new_is i))
      (zip_append IsSize (cuts_of (take n ends)) cuts wide a.own before a.sizes)
