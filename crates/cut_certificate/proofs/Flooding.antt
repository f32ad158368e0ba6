-- What a flood keeps as it spreads, and what it has found at its end.
use Rattle.std.proofs.Common.{◌≡◌, ℕ, ◌+◌, ◌<◌, List, [], ◌∷◌, ◌++◌, length, sym, refl, ap, ◌∙◌, subst, inl}
use Rattle.std.proofs.Common.{inr, arith}
use Rattle.std.specs.Prelude.{Contains, map}
use Rattle.std.proofs.lemmas.List.{length-append}
use Rattle.std.proofs.lemmas.List.Elements.{Contains-append_left, Contains-push, Contains-push_cases}
use Rattle.route_lattice.specs.Walks.{MoveGraph, Hop, Opens, Leads, Reaches, IsReach, to_of, move_of, cost}
use Rattle.cut_certificate.specs.Goals.{Tells}
use Rattle.cut_certificate.specs.inner.Marks.{Fill, IsMarked, left_in, Gains, IsNext, IsFlood, AreListed}
use Rattle.cut_certificate.proofs.Marking.{in_range}

-- the fill without the node that is taken
abbrev pub rest_of : Fill → List ℕ → Fill
rest_of f rest = record { marks = f.marks; waiting = rest }

-- less is left once a node is taken
pub less_left : (f new : Fill) (rest : List ℕ) (node : ℕ) → f.waiting ≡ rest ++ node ∷ []
    → left_in new ≡ left_in (rest_of f rest) → left_in new < left_in f
unfolding left_in
less_left f new rest node is left = omega (arith, left, ap length is, length-append rest (node ∷ []))

-- a walk goes on by one move
pub leads_on : (graph : MoveGraph) (hs : List Hop) (a b : ℕ) (h : Hop) → Leads graph a hs b → Opens graph b h
    → Leads graph a (hs ++ h ∷ []) h.to
leads_on graph [] a b h p o = (subst (λ (x : ℕ). Opens graph x h) (sym p) o, refl)
leads_on graph (k ∷ hs) a b h p o = (p.0, leads_on graph hs k.to b h p.1 o)

module _ (graph : MoveGraph) (starts : List ℕ) where
  -- ---- a flood goes on
  -- what a node that is reached leads to is reached
  led_is_reached : (node v : ℕ) → Reaches graph starts node → IsNext graph node v → Reaches graph starts v
  led_is_reached node v w l =
      subst (Reaches graph starts) l.to_is (w.0, w.1 ++ l.hop ∷ [], w.2, leads_on graph w.1 w.0 node l.hop w.3 l.opens)

  module _ (f : Fill) (rest : List ℕ) (node : ℕ) (flood : IsFlood graph starts f)
      (is : f.waiting ≡ rest ++ node ∷ []) where
    -- the node and the others that waited
    waited : (v : ℕ) → Contains (rest ++ node ∷ []) v → Contains f.waiting v
    waited v c = subst (λ (xs : List ℕ). Contains xs v) (sym is) c

    -- the node is marked
    taken : IsMarked f.marks node
    taken = flood.waits node (waited node (Contains-push rest node))

    -- a node that waits is one
    pub node_in_range : node < graph.count
    node_in_range = omega (arith, in_range f.marks node taken, flood.size)

    -- its moves are followed
    pub flood_goes_on : (new : Fill) → Gains (IsNext graph node) (rest_of f rest) new
        → IsFlood graph starts new
    flood_goes_on new g = record {
      size = g.size ∙ flood.size;
      starts_in = λ s c. g.kept s (flood.starts_in s c);
      reached = λ v m. elim (g.only v m) [
        | inl was ↦ flood.reached v was
        | inr k ↦ led_is_reached node v (flood.reached node taken) k.0
      ];
      waits = λ v c. elim (g.waits v c) [
        | inl was ↦ g.kept v (flood.waits v (waited v (Contains-append_left rest (node ∷ []) v was)))
        | inr m ↦ m
      ];
      spread = λ v h m o. elim (g.only v m) [
        | inl was ↦ elim (flood.spread v h was o) [
          | inl c ↦ elim (Contains-push_cases rest node v (subst (λ (xs : List ℕ). Contains xs v) is c)) [
            | inl k ↦ inl (g.stays v k)
            | inr e ↦ inr (g.gained h.to (record {
              hop = h;
              opens = subst (λ (x : ℕ). Opens graph x h) (sym e) o;
              from = omega arith;
              below = o.listed;
              to_is = refl;
            }))
          ]
          | inr k ↦ inr (g.kept h.to k)
        ]
        | inr k ↦ inl k.1
      ];
    }

  -- ---- a flood ends
  module _ (f : Fill) (flood : IsFlood graph starts f) (empty : length f.waiting ≡ 0) where
    -- where none waits, walks stay among the marked nodes
    pub stays_in : (hs : List Hop) (a b : ℕ) → IsMarked f.marks a → Leads graph a hs b → IsMarked f.marks b
    stays_in [] a b m p = subst (IsMarked f.marks) p m
    stays_in (h ∷ hs) a b m p = elim (flood.spread a h m p.0) [
      | inl c ↦ absurd (omega (arith, c.1, empty))
      | inr k ↦ stays_in hs h.to b k p.1
    ]

    -- and they are all that is reached
    pub flood_ends : (nodes : List ℕ) → AreListed f.marks graph.count nodes → IsReach graph starts nodes
    flood_ends nodes a = record {
      ascends = λ k h. a.ascends k (k + 1) 0 (omega arith) h;
      reached = λ v c. flood.reached v (a.marked v c).0;
      complete = λ v w.
          let m : IsMarked f.marks v = stays_in w.1 w.0 v (flood.starts_in w.0 w.2) w.3 in
          a.complete v (omega (arith, in_range f.marks v m, flood.size)) m;
    }

  -- ---- goals
  -- what the nodes that are reached tell of them
  pub reach_tells : (goals nodes : List ℕ) → IsReach graph starts nodes → Tells graph starts goals nodes
  reach_tells goals nodes r = record {
    met = λ k.
        let w : Reaches graph starts k.node = r.reached k.node k.there in (
          record { nodes = w.0 ∷ map to_of w.1; moves = map move_of w.1; price = cost w.1 },
          record {
            from = w.0;
            hops = w.1;
            to = k.node;
            starts_in = w.2;
            ends_in = k.goal;
            leads = w.3;
            nodes = refl;
            moves = refl;
            price = refl;
          },
        );
    missed = λ none s hs g c goal p. none (record { node = g; there = r.complete g (s, hs, c, p); goal = goal });
  }
