-- Where walks of an island start and end, and the cut that a closed search leaves.
use Rattle.std.proofs.Common.{◌≡◌, ℕ, zero, suc, ◌<◌, List, [], ◌∷◌, ◌++◌, ◌+◌, length, take, get_or, Some, sym, refl}
use Rattle.std.proofs.Common.{ap, subst, inl, inr, arith, All}
use Rattle.std.specs.Prelude.{Contains, ◌⊎◌, slice_get, slice_index}
use Rattle.std.proofs.lemmas.List.Elements.{Contains-append_left, Contains-append_right, Contains-get_or, All-append}
use Rattle.std.proofs.lemmas.List.Elements.{All-more, All-weaker, All-contains}
use Rattle.pcb_model.specs.declared.item.Item.{Item}
use Rattle.pcb_model.specs.declared.design.Design.{Design}
use Rattle.pcb_islands.specs.declared.net.Island.{Island}
use Rattle.route_lattice.specs.Mesh.{Mesh, node_count}
use Rattle.route_lattice.specs.Walks.{Reaches, IsWalk}
use Rattle.route_lattice.specs.declared.moves.Walk.{Walk}
use Rattle.route_lattice.specs.Anchors.{AnchorsAmong, AreAnchorsAmong}
use Rattle.route_lattice.specs.Legal.{IsLegalNode, AreThoseOf, legal_graph}
use Rattle.cut_certificate.specs.declared.border.Border.{Border}
use Rattle.cut_certificate.specs.inner.Listing.{Closes}
use Rattle.cut_certificate.specs.Cuts.{LeadsOn, IsReached, IsShutBy, IsCut, AreStarts, AreGoals}
use Rattle.cut_certificate.specs.inner.Checks.{IsAmong, AreIdsOf}

-- ---- elements of a list
-- the first element
pub first_of : (xs : List ℕ) (x : ℕ) → 0 < length xs → x ≡ slice_index xs 0 → slice_get xs 0 ≡ Some x
first_of [] x lt e = absurd (omega arith)
first_of (y ∷ ys) x lt e = ap (λ (z : ℕ). Some z) (sym e)

here : (x : ℕ) (xs : List ℕ) (v : ℕ) → x ≡ v → Contains (x ∷ xs) v
here x xs v e = (0, omega arith, e)

there : (x : ℕ) (xs : List ℕ) (v : ℕ) → Contains xs v → Contains (x ∷ xs) v
there x xs v c = (suc c.0, omega (arith, c.1), c.2)

none : (v : ℕ) → Contains [] v → ⊥
none v c = omega (arith, c.1)

at_or_after : (x : ℕ) (xs : List ℕ) (v k : ℕ) → k < length (x ∷ xs) → get_or (x ∷ xs) k v ≡ v → (x ≡ v) ⊎ Contains xs v
at_or_after x xs v zero lt e = inl e
at_or_after x xs v (suc k) lt e = inr (k, omega arith, e)

-- those that have P are the elements that have it
pub those_exact : (P : ℕ → Type 0) (xs ys : List ℕ) → AreThoseOf P xs ys → (v : ℕ)
    → (Contains ys v → Contains xs v × P v) × (Contains xs v × P v → Contains ys v)
those_exact P [] ys e v = (λ c. absurd (none v (subst (λ (zs : List ℕ). Contains zs v) e c)), λ p. absurd (none v p.0))
those_exact P (x ∷ xs) ys (inl t) v =
    let rest = those_exact P xs t.1 t.3 v in (
      λ c. let d : Contains (x ∷ t.1) v = subst (λ (zs : List ℕ). Contains zs v) t.2 c in
          elim (at_or_after x t.1 v d.0 d.1 d.2) [
            | inl e ↦ (here x xs v e, subst P e t.0)
            | inr r ↦ let s : Contains xs v × P v = rest.0 r in (there x xs v s.0, s.1)
          ],
      λ p. subst (λ (zs : List ℕ). Contains zs v) (sym t.2) (elim (at_or_after x xs v p.0.0 p.0.1 p.0.2) [
        | inl e ↦ here x t.1 v e
        | inr r ↦ there x t.1 v (rest.1 (r, p.1))
      ]),
    )
those_exact P (x ∷ xs) ys (inr t) v =
    let rest = those_exact P xs ys t.1 v in (
      λ c. let s : Contains xs v × P v = rest.0 c in (there x xs v s.0, s.1),
      λ p. elim (at_or_after x xs v p.0.0 p.0.1 p.0.2) [
        | inl e ↦ absurd (t.0 (subst P (sym e) p.1))
        | inr r ↦ rest.1 (r, p.1)
      ],
    )

module _ (d : Design) (m : Mesh) (items : List Item) where
  -- anchors and starts are nodes of the lattice
  pub anchors_in_lattice : (ids nodes : List ℕ) → AreAnchorsAmong d m items ids nodes
      → All (λ v. v < node_count m) nodes
  anchors_in_lattice ids nodes a k e h = ((a.exact (get_or nodes k e)).0 (Contains-get_or nodes k e h)).0

  pub starts_in_lattice : (island : Island) (nodes : List ℕ) → AreStarts d m items island nodes
      → All (λ v. v < node_count m) nodes
  starts_in_lattice island nodes a k e h = ((a.exact (get_or nodes k e)).0 (Contains-get_or nodes k e h)).there

  -- the legal ones of an island's anchors are its starts
  pub starts_exact : (island : Island) (anchors starts : List ℕ) → AreAnchorsAmong d m items island.items anchors
      → AreThoseOf (IsLegalNode d m items island.net) anchors starts → AreStarts d m items island starts
  starts_exact island anchors starts a t = record {
    exact = λ node.
        let those = those_exact (IsLegalNode d m items island.net) anchors starts t node in
        let exact = a.exact node in (
          λ c. let s : Contains anchors node × IsLegalNode d m items island.net node = those.0 c in
              let f : (node < node_count m) × AnchorsAmong d m items island.items node = exact.0 s.0 in
              record { there = f.0; anchors = f.1; legal = s.1 },
          λ s. those.1 (exact.1 (s.there, s.anchors), s.legal),
        );
  }

  -- the anchors of the islands' items are the goals
  pub goals_exact : (others : List Island) (ids goals : List ℕ) → AreIdsOf others ids
      → AreAnchorsAmong d m items ids goals → AreGoals d m items others goals
  goals_exact others ids goals are a = record {
    exact = λ node. (
      λ c.
          let f : (node < node_count m) × AnchorsAmong d m items ids node = (a.exact node).0 c in
          let o : IsAmong others f.1.item.id = (are f.1.item.id).0 f.1.asked in
          record {
            there = f.0;
            anchors = (
              o.0,
              o.1,
              o.2,
              o.3,
              record { item = f.1.item; there = f.1.there; asked = o.4; anchors = f.1.anchors },
            );
          },
      λ g.
          let o = g.anchors in
          (a.exact node).1 (
            g.there,
            record {
              item = o.4.item;
              there = o.4.there;
              asked = (are o.4.item.id).1 (o.0, o.1, o.2, o.3, o.4.asked);
              anchors = o.4.anchors;
            },
          ),
    );
  }

  module _ (via_cost : ℕ) (island : Island) (others : List Island) (starts goals : List ℕ)
      (s : AreStarts d m items island starts) (g : AreGoals d m items others goals) where
    -- a walk leads on
    pub leads_on : (w : Walk) → IsWalk (legal_graph d m items island.net via_cost) starts goals w
        → LeadsOn d m items via_cost island others
    leads_on w is =
        record {
          from = is.from;
          hops = is.hops;
          to = is.to;
          starts = (s.exact is.from).0 is.starts_in;
          ends = (g.exact is.to).0 is.ends_in;
          leads = is.leads;
        }

    -- a closed search leaves a cut
    pub cut_made : (b : Border) (pin : ℕ) → slice_get island.pins 0 ≡ Some pin
        → Closes (legal_graph d m items island.net via_cost) (IsShutBy d m items island.net) starts goals (Some b)
        → All (λ v. v < node_count m) b.reach.nodes
        → IsCut d m items island others (record { net = island.net; pin = pin; reach = b.reach; blocked = b.blocked })
        × IsReached d m items via_cost island b.reach.nodes
    cut_made b pin first c in_lattice = (
      record {
        net_is = refl;
        pin_is = first;
        ascends = c.1.ascends;
        there = in_lattice;
        starts_in = λ node is. c.1.complete node (node, [], (s.exact node).1 is, refl);
        goals_out = λ node is has. let w : Reaches (legal_graph d m items island.net via_cost) starts node =
            c.1.reached node has in c.0 w.0 w.1 node w.2 ((g.exact node).1 is) w.3;
        blocks = c.2;
      },
      record { starts = starts; starts_are = s.exact; reach = c.1 },
    )

-- ---- ids of islands
pub ids_step : (others : List Island) (k : ℕ) (o : Island) (ids xs new : List ℕ) → k < length others
    → o ≡ get_or others k o → xs ≡ o.items → new ≡ ids ++ xs → All (IsAmong others) ids
    → All (λ (p : Island). All (Contains ids) p.items) (take k others)
    → record {
      sound : All (IsAmong others) new;
      complete : All (λ (p : Island). All (Contains new) p.items) (take (k + 1) others);
    }
ids_step others k o ids xs new lt is same made sound complete =
    let whole : new ≡ ids ++ o.items = subst (λ (ys : List ℕ). new ≡ ids ++ ys) same made in
    record {
      sound = subst (All (IsAmong others)) (sym whole)
          (All-append (IsAmong others) ids o.items sound (λ j e h. (k, o, lt, sym is, Contains-get_or o.items j e h)));
      complete = subst (λ (ys : List ℕ). All (λ (p : Island). All (Contains ys) p.items) (take (k + 1) others))
          (sym whole)
          (All-more (λ (p : Island). All (Contains (ids ++ o.items)) p.items) others k o lt
          (All-weaker (λ (p : Island). All (Contains ids) p.items)
          (λ (p : Island). All (Contains (ids ++ o.items)) p.items)
          (λ p a j e h. Contains-append_left ids o.items (get_or p.items j e) (a j e h)) (take k others) complete)
          (subst (λ (p : Island). All (Contains (ids ++ o.items)) p.items) is
          (λ j e h. Contains-append_right ids o.items (get_or o.items j e) (Contains-get_or o.items j e h))));
    }

pub ids_made : (others : List Island) (ids : List ℕ) → All (IsAmong others) ids
    → All (λ (p : Island). All (Contains ids) p.items) others → AreIdsOf others ids
ids_made others ids sound complete id = (
  λ c. All-contains (IsAmong others) ids id sound c,
  λ a. All-contains (Contains ids) a.1.items id
      (subst (λ (p : Island). All (Contains ids) p.items) a.3 (complete a.0 a.1 a.2)) a.4,
)
