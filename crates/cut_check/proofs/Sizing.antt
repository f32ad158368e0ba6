-- What tests of nodes say of a set that shuts an island in.
use Rattle.std.proofs.Common.{◌≡◌, ◌≢◌, ◌∙◌, ℕ, zero, suc, ◌<◌, List, [], ◌∷◌, Some, ap, arith, get_or, length, refl}
use Rattle.std.proofs.Common.{◌≤◌, Bool, true, false, None, Option, inl, inr, not, subst, sym}
use Rattle.std.specs.Prelude.{◌↔◌, All, Any, Contains, IsTrue, MatchOption, remove, slice_get}
use Rattle.std.specs.List.Sorted.{IsStrictlyIncreasing}
use Rattle.std.proofs.lemmas.List.Elements.{All-contains, Contains-get_or}
use Rattle.std.proofs.lemmas.Option.{get_or_from_slice_get, same_Some, slice_get-get_or, slice_get_within}
use Rattle.std.proofs.lemmas.Bool.{false≢true}
use Rattle.pcb_model.specs.declared.item.Item.{Item}
use Rattle.pcb_model.specs.declared.design.Design.{Design}
use Rattle.pcb_islands.specs.declared.net.Island.{Island}
use Rattle.route_lattice.specs.Mesh.{Mesh, node_count}
use Rattle.route_lattice.specs.Legal.{IsLegalNode, legal_graph}
use Rattle.copper_alike.specs.Sets.{IsCutSet}
use Rattle.cut_check.specs.declared.cut.CutSize.{CutSize}
use Rattle.cut_check.specs.declared.stretch.Stretch.{Stretch}
use Rattle.cut_check.specs.Sizes.{AreAnchored, IsSized}
use Rattle.cut_check.specs.Stretches.{AreNodesOf, IsOfSome, IsOnLattice}
use Rattle.cut_check.specs.inner.Marking.{AreMarked, AreSorted, Gains}
use Rattle.cut_check.specs.inner.Outs.{AreOuts, Escapes, HoldsLegal, HoldsNone, IsBeside, IsSizedBy, StaysBelow}
use Rattle.cut_check.proofs.Single.{nodes_one}

-- ---- tests
-- a node that isn't among the nodes is held where its disc isn't legal
pub held_unless : (d : Design) (m : Mesh) (items : List Item) (net : ℕ) (nodes : List ℕ) (node : ℕ) (b : Bool)
    → (IsTrue b ↔ IsLegalNode d m items net node) → (Contains nodes node → ⊥)
    → IsTrue (not b) ↔ HoldsLegal d m items net nodes node
held_unless d m items net nodes node true legal out = (
  λ t. absurd (false≢true t),
  λ h. absurd (out (h.there (legal.0 refl))),
)
held_unless d m items net nodes node false legal out = (
  λ t. record { there = λ l. absurd (false≢true (legal.1 l)) },
  λ h. refl,
)

pub none_of : (nodes goals : List ℕ) → All (λ v. Contains nodes v → ⊥) goals → HoldsNone nodes goals
none_of nodes goals all = record { none = λ v g. All-contains (λ (v : ℕ). Contains nodes v → ⊥) goals v all g }

-- the goals at a place
pub beside_when : (nodes : List ℕ) (anchors : List (List ℕ)) (k j : ℕ) (goals : List ℕ) (b : Bool)
    → slice_get anchors j ≡ Some goals → j ≢ k → (IsTrue b ↔ HoldsNone nodes goals)
    → IsTrue b ↔ IsBeside nodes anchors k j
beside_when nodes anchors k j goals b at other test = (
  λ t. record {
    none = λ gs n e. subst (HoldsNone nodes) (same_Some goals gs (sym at ∙ e)) (test.0 t);
  },
  λ h. test.1 (h.none goals other at),
)

pub beside_all : (nodes : List ℕ) (anchors : List (List ℕ)) (k i : ℕ) → length anchors ≤ i
    → ((j : ℕ) → j < i → IsBeside nodes anchors k j) → (j : ℕ) → IsBeside nodes anchors k j
beside_all nodes anchors k i past all j = record {
  none = λ goals n e.
      let low = slice_get_within anchors j goals e in
      (all j (omega (arith, low, past))).none goals n e;
}

-- ---- all but one
-- what is left when one was taken out
record StoodAt (xs : List Island) (k : ℕ) (o : Island) : Type 0 where
  place : ℕ
  other : place ≢ k
  there : slice_get xs place ≡ Some o

-- where it stands then
record StandsIn (xs : List Island) (o : Island) : Type 0 where
  place : ℕ
  there : slice_get xs place ≡ Some o

stood_at : (xs : List Island) (k p : ℕ) (o : Island) → slice_get (remove xs k) p ≡ Some o → StoodAt xs k o
stood_at [] zero p o e = cc
stood_at [] (suc k) p o e = cc
stood_at (x ∷ xs) zero p o e = record { place = suc p; other = λ f. omega (arith, f); there = e }
stood_at (x ∷ xs) (suc k) zero o e = record { place = 0; other = λ f. omega (arith, f); there = e }
stood_at (x ∷ xs) (suc k) (suc p) o e = let s = stood_at xs k p o e in record {
  place = suc s.place;
  other = λ f. s.other (omega (arith, f));
  there = s.there;
}

stands_in : (xs : List Island) (k j : ℕ) (o : Island) → j ≢ k → slice_get xs j ≡ Some o → StandsIn (remove xs k) o
stands_in [] k j o n e = cc
stands_in (x ∷ xs) zero zero o n e = absurd (n refl)
stands_in (x ∷ xs) zero (suc j) o n e = record { place = j; there = e }
stands_in (x ∷ xs) (suc k) zero o n e = record { place = 0; there = e }
stands_in (x ∷ xs) (suc k) (suc j) o n e =
    let s = stands_in xs k j o (λ f. n (ap suc f)) e in
    record { place = suc s.place; there = s.there }

module _ (d : Design) (m : Mesh) (items : List Item) (own : List Island) (anchors : List (List ℕ)) (k : ℕ)
    (island : Island) (at : slice_get own k ≡ Some island) (anchored : AreAnchored d m items own anchors)
    (starts : List ℕ) (starts_at : slice_get anchors k ≡ Some starts) (nodes : List ℕ) where
  -- from the tests
  pub set_from : IsStrictlyIncreasing nodes → ((v : ℕ) → Contains nodes v → v < node_count m)
      → All (HoldsLegal d m items island.net nodes) starts
      → ((j : ℕ) → IsBeside nodes anchors k j) → ((node : ℕ) → Contains nodes node
      → StaysBelow (legal_graph d m items island.net 0) nodes node (legal_graph d m items island.net 0).arity)
      → IsCutSet d m items island (remove own k) nodes
  set_from ascends low held none stays = record {
    ascends = ascends;
    there = λ i v within. low (get_or nodes i v) (Contains-get_or nodes i v within);
    starts_in = λ node s.
        (All-contains (HoldsLegal d m items island.net nodes) starts node held
        (((anchored.each k island starts at starts_at).exact node).1 (s.there, s.anchors))).there s.legal;
    goals_out = λ node g c.
        let a = g.anchors in
        let e : slice_get (remove own k) a.0 ≡ Some a.1 =
        slice_get-get_or (remove own k) a.0 a.1 a.2 ∙ ap (λ (o : Island). Some o) a.3 in
        let s = stood_at own k a.0 a.1 e in
        let within : s.place < length anchors =
        let low = slice_get_within own s.place a.1 s.there in omega (arith, low, anchored.all) in
        let goals = get_or anchors s.place [] in
        let there = slice_get-get_or anchors s.place [] within in
        ((none s.place).none goals s.other there).none node
        (((anchored.each s.place a.1 goals s.there there).exact node).1 (g.there, a.4)) c;
    closed = record { each = λ node index c within out is. (stays node c).none index within out is };
  }

  -- to the tests
  pub set_holds : IsCutSet d m items island (remove own k) nodes → All (HoldsLegal d m items island.net nodes) starts
  set_holds set i v within =
      let node = get_or starts i v in
      let a = ((anchored.each k island starts at starts_at).exact node).0 (Contains-get_or starts i v within) in
      record { there = λ legal. set.starts_in node (record { there = a.0; anchors = a.1; legal = legal }) }

  pub set_none : IsCutSet d m items island (remove own k) nodes
      → (j : ℕ) → IsBeside nodes anchors k j
  set_none set j = record {
    none = λ goals other there. record {
      none = λ v g c.
          let within : j < length own =
          let low = slice_get_within anchors j goals there in omega (arith, low, anchored.all) in
          let o = get_or own j island in
          let o_at = slice_get-get_or own j island within in
          let a = ((anchored.each j o goals o_at there).exact v).0 g in
          let s = stands_in own k j o other o_at in
          set.goals_out v (record {
            there = a.0;
            anchors = (
              s.place,
              o,
              slice_get_within (remove own k) s.place o s.there,
              get_or_from_slice_get (remove own k) s.place o o s.there,
              a.1,
            );
          }) c;
    };
  }

  pub set_stays : IsCutSet d m items island (remove own k) nodes
      → Any (Escapes (legal_graph d m items island.net 0) nodes) nodes → ⊥
  set_stays set a =
      set.closed.each a.1 a.4.index (a.0, a.2, a.3) a.4.below a.4.leads_out a.4.is_open

  -- with the moves that lead out
  pub sized_by : (net blocked : ℕ) → net ≡ island.net → IsStrictlyIncreasing nodes
      → ((v : ℕ) → Contains nodes v → v < node_count m) → All (HoldsLegal d m items net nodes) starts
      → ((j : ℕ) → IsBeside nodes anchors k j) → AreOuts (legal_graph d m items net 0) nodes blocked
      → IsSizedBy d m items island (remove own k) nodes (record { reached = length nodes; blocked = blocked })
  sized_by net blocked same ascends low held beside outs =
      let o : AreOuts (legal_graph d m items island.net 0) nodes blocked =
      subst (λ (n : ℕ). AreOuts (legal_graph d m items n 0) nodes blocked) same outs in
      record {
        set = set_from ascends low (subst (λ (n : ℕ). All (HoldsLegal d m items n nodes) starts) same held) beside
            o.stays;
        reached = refl;
        blocked = record { moves = o.blocks; all = o.are; count_is = o.count_is };
        few = o.few;
      }

  -- without
  pub not_held : (net : ℕ) → net ≡ island.net → IsCutSet d m items island (remove own k) nodes
      → All (HoldsLegal d m items net nodes) starts
  not_held net same set = subst (λ (n : ℕ). All (HoldsLegal d m items n nodes) starts) (sym same) (set_holds set)

  pub not_shut : (net : ℕ) → net ≡ island.net → IsCutSet d m items island (remove own k) nodes
      → Any (Escapes (legal_graph d m items net 0) nodes) nodes → ⊥
  not_shut net same set a =
      set_stays set (subst (λ (n : ℕ). Any (Escapes (legal_graph d m items n 0) nodes) nodes) same a)

-- ---- of stretches
pub sized_from : (d : Design) (m : Mesh) (items : List Item) (own : List Island) (k : ℕ) (runs : List Stretch)
    (nodes : List ℕ) (size : Option CutSize) → AreNodesOf m runs nodes
    → ((island : Island) → slice_get own k ≡ Some island
    → MatchOption size (IsCutSet d m items island (remove own k) nodes → ⊥)
    (IsSizedBy d m items island (remove own k) nodes)) → IsSized d m items own k runs size
sized_from d m items own k runs nodes None are test = record {
  at = λ island e. record {
    none = λ ns is set.
        test island e (subst (IsCutSet d m items island (remove own k)) (nodes_one m runs ns nodes is are) set);
  };
}
sized_from d m items own k runs nodes (Some size) are test = record {
  at = λ island e. let by = test island e in record {
    nodes = nodes;
    nodes_are = are;
    set = by.set;
    reached = by.reached;
    blocked = by.blocked;
    few = by.few;
  };
}

pub nodes_from : (m : Mesh) (runs : List Stretch) (xs ys : List ℕ) → All (IsOnLattice m) runs
    → Gains (IsOfSome m runs) [] xs → AreSorted xs ys → AreNodesOf m runs ys
nodes_from m runs xs ys on gains sorted = record {
  on_lattice = on;
  ascends = sorted.ascends;
  only = λ v h. elim (gains.only v (sorted.only v h)) [
    | inl old ↦ let low = old.1 in absurd (omega (arith, low))
    | inr new ↦ new
  ];
  all = λ v o. sorted.all v (gains.gained v o);
}

pub marked_sorted : (count : ℕ) (marks : List Bool) (xs ys : List ℕ) → AreMarked count marks xs → AreSorted xs ys
    → AreMarked count marks ys
marked_sorted count marks xs ys before sorted = record {
  size = before.size;
  there = λ v h. before.there v (sorted.only v h);
  exact = λ v. (
    λ h. sorted.all v ((before.exact v).0 h),
    λ h. (before.exact v).1 (sorted.only v h),
  );
}
