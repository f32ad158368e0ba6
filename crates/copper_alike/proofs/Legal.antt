-- Copper that is the same as that of a legal board is legal.
use Rattle.std.proofs.Common.{◌≡◌, ◌⊎◌, inl, inr, ℕ, ◌+◌, ◌*◌, ◌<◌, max, Bool, true, false, true≢false, not, ◌&&◌}
use Rattle.std.proofs.Common.{List, [], ◌∷◌}
use Rattle.std.proofs.Common.{Option, Some, sym, ◌∙◌, refl, ap, subst, arith, All, reverse, get_or, length, eq-eqb}
use Rattle.std.proofs.Common.{filter, cond}
use Rattle.std.specs.Prelude.{Contains}
use Rattle.std.proofs.lemmas.List.{reverse-reverse}
use Rattle.std.proofs.lemmas.List.Elements.{All-nil, All-cons, All-head, All-contains, All-contains_itself}
use Rattle.std.proofs.lemmas.Option.{slice_get_within, slice_get_cases}
use Rattle.std.specs.Option.{IsSomeAnd}
use Rattle.pcb_model.specs.declared.design.BoardLayer.{BoardLayer}
use Rattle.geo_kernel.specs.declared.point.Point.{Point}
use Rattle.geo_kernel.specs.Spine.{BeginInside, closed}
use Rattle.turned_chain.specs.Turned.{KeepsFromEdges}
use Rattle.turned_chain.proofs.Turned.{turned_inside}
use Rattle.pcb_model.specs.declared.item.Kind.{Kind}
use Rattle.pcb_model.specs.declared.item.Kind.TheVariants as kind
use Rattle.pcb_model.specs.declared.item.Metal.TheVariants.{Wire, Ban}
use Rattle.pcb_model.specs.declared.item.Item.{Item}
use Rattle.pcb_model.specs.declared.design.Design.{Design}
use Rattle.pcb_model.specs.Pieces.{wire_piece}
use Rattle.pcb_model.specs.Rules.{is_pair, clearance_of}
use Rattle.pcb_model.specs.Pairs.{Agrees, PiecesKeep, KeepsFrom, PieceKeeps, is_same_net, is_compared, must_keep}
use Rattle.pcb_model.specs.Board.{IsRouted, IsLegal, IsMade, IsLaid, IsMetalLaid, AreInside, BeginsInEach, is_fixed}
use Rattle.pcb_model.specs.Board.{IsSignal}
use Rattle.pcb_islands.proofs.Elements.{in_filter, in_none, in_here, in_later, in_cons}
use Rattle.pcb_islands.proofs.Joined.{read_at}
use Rattle.pcb_islands.proofs.Touches.{below_or_same}
use Rattle.copper_alike.specs.Twins.{AreTurned, HasTwin, HasRoutedTwin, IsEdge, HasEdges}
use Rattle.copper_alike.proofs.Twins.{twins_agree, twins_back, twins_self}

-- ---- what passes a test is kept by a filter
kept_step : (p : Item → Bool) (a b : Item) (xs : List Item) (t : Bool) → Contains (filter p xs) b
    → Contains (cond t (a ∷ filter p xs) (filter p xs)) b
kept_step p a b xs true h = in_later a b (filter p xs) h
kept_step p a b xs false h = h

filtered : (p : Item → Bool) (xs : List Item) (b : Item) → Contains xs b → p b ≡ true → Contains (filter p xs) b
filtered p [] b h e = absurd (in_none b h)
filtered p (a ∷ xs) b h e = elim (in_cons a b xs h) [
  | inl is ↦
      subst (λ (t : Bool). Contains (cond t (a ∷ filter p xs) (filter p xs)) b) (sym (ap p is ∙ e))
      (subst (Contains (a ∷ filter p xs)) is (in_here a (filter p xs)))
  | inr more ↦ kept_step p a b xs (p a) (filtered p xs b more e)
]

-- ---- items with the same copper agree
no_smd_via : (k : Kind) → is_pair k k kind.Via kind.Smd ≡ false
no_smd_via kind.Wire = refl
no_smd_via kind.Via = refl
no_smd_via kind.Pin = refl
no_smd_via kind.Smd = refl
no_smd_via kind.Area = refl

last_false : (a b c : Bool) → c ≡ false → (a && b && c) ≡ true → ⊥
last_false true true c e h = true≢false (sym h ∙ e)
last_false true false c e h = true≢false (sym h)
last_false false b c e h = true≢false (sym h)

own_agree : (d : Design) (a b : Item) (net : ℕ) → a.net ≡ Some net → b.net ≡ Some net → a.kind ≡ b.kind → Agrees d a b
own_agree d a b net e f k = record {
  keep = λ must. absurd (true≢false (sym must ∙ ap (λ s. not s && is_compared a.metal b.metal) same));
  stay_off = λ must touch. absurd (last_false (not d.via_at_smd) (is_same_net a.net b.net)
      (is_pair a.kind b.kind kind.Via kind.Smd)
      (ap (λ q. is_pair a.kind q kind.Via kind.Smd) (sym k) ∙ no_smd_via a.kind) must);
}
  where
    same : is_same_net a.net b.net ≡ true
    same = ap (λ o. is_same_net o b.net) e ∙ ap (λ o. is_same_net (Some net) o) f ∙ eq-eqb net net refl

-- ---- what agrees with a boundary's edge keeps from it
pub keeps_edge : (d : Design) (layers : ℕ) (loops : List (List Point)) (e r : Item) (l w : ℕ) (c : List Point)
    → IsEdge layers loops e
    → Agrees d r e → l < layers → (net : ℕ) → r.net ≡ Some net → r.metal ≡ Wire l w c
    → r.pieces ≡ wire_piece l w c ∷ [] → KeepsFromEdges c loops
keeps_edge d layers loops e r l w c edge agrees within net net_is metal_is pieces_are =
    λ i x lt.
    let at = edge.edges l within i x lt in
    let kept : PiecesKeep (clearance_of d r.net r.kind e.net e.kind) (wire_piece l w c ∷ []) e.pieces =
    subst (λ ps. PiecesKeep (clearance_of d r.net r.kind e.net e.kind) ps e.pieces) pieces_are (agrees.keep must) in
    let one : KeepsFrom (clearance_of d r.net r.kind e.net e.kind) e.pieces (wire_piece l w c) =
    All-head (KeepsFrom (clearance_of d r.net r.kind e.net e.kind) e.pieces) (wire_piece l w c) [] kept.each in
    let p = All-contains (PieceKeeps (clearance_of d r.net r.kind e.net e.kind) (wire_piece l w c)) e.pieces
    (wire_piece l at.0 (closed (get_or loops i x))) one.each at.1 in
    (max 1 (2 * clearance_of d r.net r.kind e.net e.kind + w + at.0), positive _, p.keep refl)
  where
    positive : (n : ℕ) → 0 < max 1 n
    positive n = omega arith

    must : must_keep r e ≡ true
    must = ap (λ o. not (is_same_net o e.net) && is_compared r.metal e.metal) net_is
        ∙ ap (λ o. not (is_same_net (Some net) o) && is_compared r.metal e.metal) edge.no_net
        ∙ ap (λ m. is_compared m e.metal) metal_is ∙ ap (λ m. is_compared (Wire l w c) m) edge.bans

-- ---- pairs
module _ (agree_back : (d : Design) (a b : Item) → Agrees d a b → Agrees d b a) (d : Design) (xs : List Item)
    (legal : IsLegal d xs) where
  made_net : (r : Item) → Contains xs r → IsRouted r → (net : ℕ) × (r.net ≡ Some net)
  made_net r there routed = let made =
      All-contains (λ (a : Item). IsRouted a → IsMade d a) xs r legal.made there routed in
      (made.net, ap (λ (x : Item). x.net) made.made)

  -- two items of the board, one of them routed, agree or are one
  at_places : (r x : Item) (p : Contains xs r) (q : Contains xs x) → IsRouted r → (r ≡ x) ⊎ Agrees d r x
  at_places r x p q routed = elim (below_or_same p.0 q.0) [
    | inl less ↦ inr (subst (λ (u : Item). Agrees d u x) (read_at xs r p x)
        (subst (λ (u : Item). Agrees d (get_or xs p.0 x) u) q.2
        (legal.agree p.0 q.0 x less q.1 (inl (subst IsRouted (sym (read_at xs r p x)) routed)))))
    | inr n ↦ elim n [
      | inl more ↦ inr (agree_back d x r (subst (λ (u : Item). Agrees d u r) (read_at xs x q r)
          (subst (λ (u : Item). Agrees d (get_or xs q.0 r) u) p.2
          (legal.agree q.0 p.0 r more p.1 (inr (subst IsRouted (sym p.2) routed))))))
      | inr one ↦ inl (sym (read_at xs r p x) ∙ ap (λ k. get_or xs k x) one ∙ q.2)
    ]
  ]

  -- so do two that have the copper of such items
  pub pair_alike : (a b : Item) → HasRoutedTwin xs a → HasTwin xs b → Agrees d a b
  pair_alike a b t u = elim (at_places t.item u.item t.there u.there t.routed) [
    | inl one ↦
        let n = made_net t.item t.there t.routed in
        own_agree d a b n.0 (t.twins.net_is ∙ n.1)
        (u.twins.net_is ∙ ap (λ (x : Item). x.net) (sym one) ∙ n.1)
        (t.twins.kind_is ∙ ap (λ (x : Item). x.kind) one ∙ sym u.twins.kind_is)
    | inr agrees ↦
        twins_agree d t.item a b (twins_back a t.item t.twins)
        (agree_back d b t.item (twins_agree d u.item b t.item (twins_back b u.item u.twins)
        (agree_back d t.item u.item agrees)))
  ]

  -- ---- inside
  edge_there : (e : Item) → Contains d.fixed e → Contains xs e
  edge_there e h = in_filter is_fixed xs e (subst (λ (fs : List Item). Contains fs e) (sym legal.fixed_stay) h)

  within_layers : (layer : ℕ) → IsSignal d layer → layer < length d.layers
  within_layers layer h = elim (slice_get_cases d.layers layer).1 [
    | inl b ↦ slice_get_within d.layers layer b.0 b.2
    | inr none ↦ absurd (subst (λ (o : Option BoardLayer).
        IsSomeAnd o (λ (l : BoardLayer). l.power ≡ false)) none.1 h)
  ]

  -- a routed wire that begins inside each boundary ends inside it too
  ends_inside : HasEdges d → (r : Item) → Contains xs r → IsRouted r → (l w : ℕ) (c : List Point)
      → r.metal ≡ Wire l w c → r.pieces ≡ wire_piece l w c ∷ [] → All (BeginInside c) d.bounds
      → All (BeginInside (reverse c)) d.bounds
  ends_inside edges r there routed l w c metal_is pieces_are inside =
      λ i x lt.
      let e = edges.each i x lt in
      let n = made_net r there routed in
      let laid = All-contains (λ (a : Item). IsRouted a → IsLaid d a) xs r legal.laid there routed in
      let signal = (subst (λ m. IsMetalLaid d r.net m) metal_is laid).0 in
      turned_inside c (get_or d.bounds i x)
      (elim (at_places r e.0 there (edge_there e.0 e.1) routed) [
        | inl one ↦ absurd (no_edge r e.0 one l w c metal_is e.2.bans)
        | inr agrees ↦ keeps_edge d (length d.layers) (get_or d.bounds i x) e.0 r l w c e.2 agrees
            (within_layers l signal) n.0 n.1 metal_is pieces_are
      ]) (inside i x lt)
    where
      no_edge : (a b : Item) → a ≡ b → (l w : ℕ) (c : List Point) → a.metal ≡ Wire l w c → b.metal ≡ Ban true true → ⊥
      no_edge a b one l w c p q = let k : Wire l w c ≡ Ban true true = sym p ∙ ap (λ (x : Item). x.metal) one
          ∙ q in cc

  pub inside_alike : HasEdges d → (a : Item) → HasRoutedTwin xs a → AreInside d.bounds a.pieces
  inside_alike edges a t = by t.twins.copper
    where
      inside : AreInside d.bounds t.item.pieces
      inside = All-contains (λ (x : Item). IsRouted x
          → AreInside d.bounds x.pieces) xs t.item legal.inside t.there t.routed

      by : (((a.metal ≡ t.item.metal) × (a.pieces ≡ t.item.pieces)) ⊎ AreTurned a t.item)
          → AreInside d.bounds a.pieces
      by (inl (e, f)) = subst (AreInside d.bounds) (sym f) inside
      by (inr x) = subst (AreInside d.bounds) (sym x.a_pieces) (record {
        each = All-cons (BeginsInEach d.bounds) (wire_piece x.layer x.width x.chain) [] (record {
          each = subst (λ c. All (BeginInside c) d.bounds) (reverse-reverse x.chain)
              (ends_inside edges t.item t.there t.routed x.layer x.width (reverse x.chain) x.b_metal x.b_pieces
              (All-head (BeginsInEach d.bounds) (wire_piece x.layer x.width (reverse x.chain)) []
              (subst (λ ps. All (BeginsInEach d.bounds) ps) x.b_pieces inside.each)).each);
        }) (All-nil (BeginsInEach d.bounds));
      })

  -- ---- laid
  pub laid_alike : (a : Item) → HasRoutedTwin xs a → IsLaid d a
  laid_alike a t = subst (λ o. IsMetalLaid d o a.metal) (sym t.twins.net_is) (by t.twins.copper)
    where
      laid : IsLaid d t.item
      laid = All-contains (λ (x : Item). IsRouted x → IsLaid d x) xs t.item legal.laid t.there t.routed

      by : (((a.metal ≡ t.item.metal) × (a.pieces ≡ t.item.pieces)) ⊎ AreTurned a t.item)
          → IsMetalLaid d t.item.net a.metal
      by (inl (e, f)) = subst (IsMetalLaid d t.item.net) (sym e) laid
      by (inr x) = subst (IsMetalLaid d t.item.net) (sym x.a_metal)
          (turned_laid (subst (IsMetalLaid d t.item.net) x.b_metal laid))
        where
          turned_laid : IsMetalLaid d t.item.net (Wire x.layer x.width (reverse x.chain))
              → IsMetalLaid d t.item.net (Wire x.layer x.width x.chain)
          turned_laid h = h

  -- ---- the whole
  module _ (edges : HasEdges d) (ys : List Item)
      (routed : (a : Item) → Contains ys a → IsRouted a → IsMade d a × HasRoutedTwin xs a)
      (fixed_stay : filter is_fixed ys ≡ d.fixed) where
    twin_of : (a : Item) → Contains ys a → HasTwin xs a
    twin_of a there = by a.fixed refl
      where
        by : (b : Bool) → a.fixed ≡ b → HasTwin xs a
        by false e = let t = (routed a there e).1 in record { item = t.item; there = t.there; twins = t.twins }
        by true e = record {
          item = a;
          there = edge_there a (subst (λ (fs : List Item). Contains fs a) fixed_stay
              (filtered is_fixed ys a there e));
          twins = twins_self a;
        }

    pub all_legal : IsLegal d ys
    all_legal = record {
      agree = λ i j x less within one.
          let a = get_or ys i x in
          let b = get_or ys j x in
          let a_in : Contains ys a = All-contains_itself ys i x (omega (arith, within, less)) in
          let b_in : Contains ys b = All-contains_itself ys j x within in
          elim one [
            | inl r ↦ pair_alike a b (routed a a_in r).1 (twin_of b b_in)
            | inr r ↦ agree_back d b a (pair_alike b a (routed b b_in r).1 (twin_of a a_in))
          ];
      inside = λ i x lt r. inside_alike edges (get_or ys i x)
          (routed (get_or ys i x) (All-contains_itself ys i x lt) r).1;
      laid = λ i x lt r. laid_alike (get_or ys i x) (routed (get_or ys i x) (All-contains_itself ys i x lt) r).1;
      made = λ i x lt r. (routed (get_or ys i x) (All-contains_itself ys i x lt) r).0;
      fixed_stay = fixed_stay;
    }
