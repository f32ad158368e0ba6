-- Islands of a net, one after another, none of which is helped.
use Rattle.std.proofs.Common.{◌≡◌, ℕ, ◌+◌, ◌<◌, ◌≤◌, List, [], length, drop, get_or, take, Option, Some, None}
use Rattle.std.proofs.Common.{sym, ◌∙◌, subst, inl, inr, arith, All}
use Rattle.std.specs.Prelude.{Contains, remove, slice_get}
use Rattle.std.proofs.lemmas.Option.{same_Some, slice_get_within}
use Rattle.std.proofs.lemmas.List.{take-append-drop, take_all, take_more}
use Rattle.std.proofs.lemmas.List.Elements.{Contains-append_left, Contains-get_or, Contains-push_cases}
use Rattle.pcb_islands.specs.declared.net.Island.{Island}
use Rattle.pcb_islands.specs.Islands.{AreIslands}
use Rattle.pcb_islands.proofs.Elements.{in_none}
use Rattle.pcb_islands.proofs.Touches.{below_or_same}
use Rattle.route_lattice.specs.Mesh.{Mesh}
use Rattle.cut_certificate.specs.declared.cut.Cut.{Cut}
use Rattle.cut_certificate.specs.Cuts.{IsCut, LeadsOn}
use Rattle.pcb_board.specs.Boards.{BoardOf}
use Rattle.closing_pass.specs.Settled.{AreNamed, IsCutSettled, IsSettled}
use Rattle.closing_pass.specs.inner.Tries.{AnswersAt, AnswersIsland, AreCutsSettled, AreShutOn, HasRouted, IsShutIsland}
use Rattle.closing_pass.specs.inner.Tries.{HasCutAt, ShutIslandOf}
use Rattle.closing_pass.proofs.Joining.{net_at}

-- none of the first n islands is helped
pub record AreSettledBelow (m : Mesh) (via_cost tries : ℕ) (b : BoardOf) (found : List Island) (cuts : List Cut)
    (n : ℕ) : Type 0 where
  pub each : (place : ℕ) (island : Island) (cut : Cut) → place < n → slice_get found place ≡ Some island
      → slice_get cuts place ≡ Some cut → IsCutSettled m via_cost tries b island (remove found place) cut

module _ (m : Mesh) (via_cost tries : ℕ) (b : BoardOf) (found : List Island) (cuts : List Cut) where
  pub below_none : AreSettledBelow m via_cost tries b found cuts 0
  below_none = record { each = λ place island cut less. absurd (omega (arith, less)) }

  pub below_more : (n : ℕ) (here : Cut) → slice_get cuts n ≡ Some here
      → AreSettledBelow m via_cost tries b found cuts n
      → ((island : Island) → slice_get found n ≡ Some island
      → IsCutSettled m via_cost tries b island (remove found n) here)
      → AreSettledBelow m via_cost tries b found cuts (n + 1)
  below_more n here at before now = record {
    each = λ place island cut less found_at cut_at. elim (below_or_same place n) [
      | inl early ↦ before.each place island cut early found_at cut_at
      | inr o ↦ elim o [
        | inl late ↦ absurd (omega (arith, less, late))
        | inr same ↦
            let one : here ≡ cut = same_Some here cut
            (sym at ∙ subst (λ (k : ℕ). slice_get cuts k ≡ Some cut) same cut_at) in
            subst (λ (k : ℕ). IsCutSettled m via_cost tries b island (remove found k) cut) (sym same)
            (subst (λ (c : Cut). IsCutSettled m via_cost tries b island (remove found n) c) one
            (now island (subst (λ (k : ℕ). slice_get found k ≡ Some island) same found_at)))
      ]
    ];
  }

  pub below_all : (n : ℕ) → length found ≤ n → AreSettledBelow m via_cost tries b found cuts n
      → AreCutsSettled m via_cost tries b found cuts
  below_all n all below = record {
    each = λ place island cut found_at cut_at.
        let within = slice_get_within found place island found_at in
        below.each place island cut (omega (arith, within, all)) found_at cut_at;
  }

-- none of the ids is that of an item that helps
pub record NoneOf (s : ShutIslandOf) (ids : List ℕ) : Type 0 where
  pub each : (id : ℕ) → Contains ids id → IsSettled s.lat s.via_cost s.board s.island s.others id

pub none_of_none : (s : ShutIslandOf) → NoneOf s []
none_of_none s = record { each = λ id h. absurd (in_none id h) }

pub none_of_more : (s : ShutIslandOf) (xs : List ℕ) (i : ℕ) → i < length xs → NoneOf s (take i xs)
    → IsSettled s.lat s.via_cost s.board s.island s.others (get_or xs i 0) → NoneOf s (take (i + 1) xs)
none_of_more s xs i within before here =
    subst (NoneOf s) (sym (take_more xs i 0 within)) (record {
      each = λ id h. elim (Contains-push_cases (take i xs) (get_or xs i 0) id h) [
        | inl old ↦ before.each id old
        | inr last ↦ subst (λ (k : ℕ). IsSettled s.lat s.via_cost s.board s.island s.others k) last here
      ];
    })

pub none_of_all : (s : ShutIslandOf) (xs ids : List ℕ) (i : ℕ) → length xs ≤ i → xs ≡ ids → NoneOf s (take i xs)
    → All (IsSettled s.lat s.via_cost s.board s.island s.others) ids
none_of_all s xs ids i all is none k d within =
    (subst (NoneOf s) (take_all i xs all ∙ is) none).each (get_or ids k d) (Contains-get_or ids k d within)

pub taken_in : (n : ℕ) (xs : List ℕ) (x : ℕ) → Contains (take n xs) x → Contains xs x
taken_in n xs x h = subst (λ (ys : List ℕ). Contains ys x) (take-append-drop n xs)
    (Contains-append_left (take n xs) (drop n xs) x h)

-- an island at a place, which was looked at with the others
pub answers_at : (m : Mesh) (via_cost tries : ℕ) (b : BoardOf) (found others : List Island) (place : ℕ)
    (island : Island) (cut : Cut) → slice_get found place ≡ Some island → others ≡ remove found place
    → (r : Option BoardOf) → AnswersIsland (record {
      lat = m;
      via_cost = via_cost;
      tries = tries;
      board = b;
      island = island;
      others = others;
      cut = cut;
    }) r → AnswersAt m via_cost tries b found place cut r
answers_at m via_cost tries b found others place island cut at rest (Some c) h = h
answers_at m via_cost tries b found others place island cut at rest None h = λ other other_at.
    subst (λ (y : Island × List Island). IsCutSettled m via_cost tries b y.0 y.1 cut)
    (λ i. (same_Some island other (sym at ∙ other_at) i, rest i)) h

-- the island at a place, and the others
pub shut_island : (m : Mesh) (via_cost : ℕ) (b : BoardOf) (found others : List Island) (place : ℕ) (island : Island)
    (cut : Cut) → AreShutOn m via_cost b found → slice_get found place ≡ Some island → others ≡ remove found place
    → HasCutAt m via_cost b found place cut → IsShutIsland m via_cost b island others cut
shut_island m via_cost b found others place island cut shut at rest has =
    let of_net : island.net ≡ shut.net = net_at b.design b.items shut.net found place island shut.islands at in
    record {
      can = shut.can;
      net_there = subst (λ (k : ℕ). k < length b.design.nets) (sym of_net) shut.net_there;
      place = place;
      stands = record {
        found = found;
        islands = subst (λ (k : ℕ). AreIslands b.design b.items k found) (sym of_net) shut.islands;
        island_is = at;
        others_are = rest;
      };
      shut = subst (λ (os : List Island). ¬ (LeadsOn b.design m b.items via_cost island os)) (sym rest)
          (shut.shut place island at);
      is_cut = subst (λ (os : List Island). IsCut b.design m b.items island os cut) (sym rest) (has island at).0;
    }

-- an item that the cut names is a routed one of the board
pub named_routed : (s : ShutIslandOf) (cut : Cut) (ids : List ℕ) (id : ℕ) → AreNamed s.board.items cut ids
    → Contains ids id → HasRouted s id
named_routed s cut ids id named h =
    let is = (named.exact id).0 h in
    record { item = is.item; there = is.there; routed = is.routed; id_is = is.id_is }
