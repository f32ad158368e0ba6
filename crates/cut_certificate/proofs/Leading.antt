-- Where the open moves of a node lead, index by index.
use Rattle.std.proofs.Common.{◌≡◌, ℕ, ◌+◌, ◌<◌, Some, sym, refl, ap, ◌∙◌, subst, inl, inr, arith}
use Rattle.std.specs.Prelude.{◌⊎◌}
use Rattle.std.proofs.lemmas.Bool.{cases_lt}
use Rattle.route_lattice.specs.declared.moves.Move.{Move}
use Rattle.route_lattice.specs.Walks.{MoveGraph}
use Rattle.cut_certificate.specs.inner.Marks.{Fill, Gains, IsLedTo}
use Rattle.cut_certificate.proofs.Gaining.{gains_both}

module _ (graph : MoveGraph) (node i : ℕ) where
  -- the move of the one index
  one_index : (v : ℕ) (l : IsLedTo graph node i (i + 1) v) → l.hop.index ≡ i
  one_index v l = omega (arith, l.from, l.below)

  -- it is the one that the graph has there
  the_move : (v : ℕ) (l : IsLedTo graph node i (i + 1) v) → graph.at node i ≡ Some (l.hop.move, l.hop.to)
  the_move v l =
      subst (λ (k : ℕ). graph.at node k ≡ Some (l.hop.move, l.hop.to)) (one_index v l) l.opens.leads

  -- it leads to one node
  pub led_there : (m : Move) (to : ℕ) → graph.at node i ≡ Some (m, to) → (v : ℕ) → IsLedTo graph node i (i + 1) v
      → to ≡ v
  led_there m to e v l =
      let f : Some (m, to) ≡ Some (l.hop.move, l.hop.to) = sym e ∙ the_move v l in
      let same : (m, to) ≡ (l.hop.move, l.hop.to) = cc in
      ap (λ (w : Move × ℕ). w.1) same ∙ l.to_is

  -- an open move leads there
  pub leads_there : (m : Move) (to price : ℕ) → i < graph.arity → graph.at node i ≡ Some (m, to)
      → graph.open_at node i → graph.priced node i price → IsLedTo graph node i (i + 1) to
  leads_there m to price h e is_open costs = record {
    hop = record { index = i; move = m; to = to; price = price };
    opens = record { listed = h; leads = e; is_open = is_open; costs = costs };
    from = omega arith;
    below = omega arith;
    to_is = refl;
  }

-- ---- all moves of a node
module _ (graph : MoveGraph) (node : ℕ) where
  -- by a move of an earlier index, or of the last
  earlier_or_here : (i v : ℕ) → IsLedTo graph node 0 (i + 1) v
      → IsLedTo graph node 0 i v ⊎ IsLedTo graph node i (i + 1) v
  earlier_or_here i v l = elim (cases_lt l.hop.index i) [
    | inl lt ↦ inl (record { hop = l.hop; opens = l.opens; from = l.from; below = lt; to_is = l.to_is })
    | inr ge ↦ inr (record { hop = l.hop; opens = l.opens; from = ge; below = l.below; to_is = l.to_is })
  ]

  -- an index more
  pub follows_more : (i : ℕ) (a b c : Fill) → Gains (IsLedTo graph node 0 i) a b
      → Gains (IsLedTo graph node i (i + 1)) b c → Gains (IsLedTo graph node 0 (i + 1)) a c
  follows_more i a b c f g =
      gains_both (IsLedTo graph node 0 i) (IsLedTo graph node i (i + 1)) (IsLedTo graph node 0 (i + 1)) a b c
      (earlier_or_here i)
      (λ v l. record { hop = l.hop; opens = l.opens; from = l.from; below = omega (arith, l.below); to_is = l.to_is })
      (λ v l. record { hop = l.hop; opens = l.opens; from = omega arith; below = l.below; to_is = l.to_is }) f g
