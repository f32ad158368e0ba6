-- The board that is judged shows the copper of the board whose session was read.
use Rattle.std.proofs.Common.{◌≡◌, ◌⊎◌, inl, inr, ℕ, ◌+◌, ◌<◌, ◌==◌, ◌&&◌, ◌||◌, not, Bool}
use Rattle.std.proofs.Common.{true, false, true≢false, cond}
use Rattle.std.proofs.Common.{List, [], ◌∷◌, ◌++◌, Option, Some, None, refl, sym, ap, ap₂, ◌∙◌, subst, arith, map}
use Rattle.std.proofs.Common.{filter}
use Rattle.std.proofs.Common.{reverse, eqb-true, eq-eqb, All, length}
use Rattle.std.specs.Prelude.{Contains, if◌then◌else◌}
use Rattle.std.specs.List.{range_with_len}
use Rattle.std.specs.Ordering.{int_eq}
use Rattle.std.proofs.lemmas.Bool.{and_parts}
use Rattle.std.proofs.lemmas.List.{reverse-reverse}
use Rattle.std.proofs.lemmas.List.Elements.{All-head, All-tail, All-contains}
use Rattle.std.proofs.lemmas.List.Elements.{Contains-append_left, Contains-append_right, Contains-append_cases}
use Rattle.geo_kernel.specs.declared.point.Point.{Point}
use Rattle.pcb_model.specs.declared.item.Metal.{Metal}
use Rattle.pcb_model.specs.declared.item.Metal.TheVariants.{Wire, Via, Pad, Ban}
use Rattle.pcb_model.specs.declared.item.Item.{Item}
use Rattle.pcb_model.specs.declared.design.Design.{Design}
use Rattle.pcb_model.specs.Pieces.{item_of, kind_of, pieces_of, wire_piece}
use Rattle.pcb_model.specs.Board.{IsRouted, IsMade}
use Rattle.route_lattice.proofs.Sets.{int_eq_exact}
use Rattle.pcb_islands.proofs.Elements.{in_none, in_here, in_later, in_cons}
use Rattle.copper_alike.specs.Twins.{AreTurned, AreTwins, HasTwin, HasRoutedTwin, ShowSame}
use Rattle.copper_alike.proofs.Twins.{twins_self, twins_back}
use Rattle.ses_writer.specs.Words.{is_lesser}
use Rattle.ses_reader.specs.declared.item.SesItem.{SesItem}
use Rattle.route_check.specs.Board.{is_point, are_points, is_equal, is_net, is_same, without, left_of, numbered}
use Rattle.route_check.specs.Board.{board_of}
use Rattle.session_law.specs.Told.{is_copper}
use Rattle.session_law.specs.Back.{printed_metal, told}
use Rattle.route_check.proofs.Boards.{in_left, is_numbered}
use Rattle.check_law.specs.Written.{IsOfMetal, IsWired, IsSource}
use Rattle.check_law.proofs.Lists.{from_map, in_range, mapped}
use Rattle.check_law.proofs.Taken.{part, wiring, left_told, told_left, take_all}
use Rattle.check_law.proofs.Linked.{with_fixed, without_fixed, range_fresh}
use Rattle.session_law.proofs.ToldBoards.{is_routed}

-- ---- a printed metal is the same, or turned
record IsAlike (m p : Metal) : Type 0 where
  pub is : (m ≡ p) ⊎ ((l : ℕ) × (w : ℕ) × (c : List Point) × (m ≡ Wire l w c) × (p ≡ Wire l w (reverse c)))

alike_wire : (l w : ℕ) (c : List Point) (b : Bool) → IsAlike (Wire l w c) (Wire l w (if b then reverse c else c))
alike_wire l w c true = record { is = inr (l, w, c, refl, refl) }
alike_wire l w c false = record { is = inl refl }

alike_printed : (m : Metal) → IsAlike m (printed_metal m)
alike_printed (Wire l w c) = alike_wire l w c (is_lesser (reverse c) c)
alike_printed (Via p at) = record { is = inl refl }
alike_printed (Pad p) = record { is = inl refl }
alike_printed (Ban w v) = record { is = inl refl }

-- so is what is found equal
point_is : (p q : Point) → is_point p q ≡ true → p ≡ q
point_is p q h =
    let both = and_parts (int_eq p.x q.x) (int_eq p.y q.y) h in
    let x = int_eq_exact p.x q.x both.0 in
    let y = int_eq_exact p.y q.y both.1 in λ i. record { x = x i; y = y i }

points_are : (c e : List Point) → are_points c e ≡ true → c ≡ e
points_are [] [] h = refl
points_are [] (q ∷ qs) h = absurd (true≢false (sym h))
points_are (p ∷ ps) [] h = absurd (true≢false (sym h))
points_are (p ∷ ps) (q ∷ qs) h =
    let both = and_parts (is_point p q) (are_points ps qs) h in
    ap₂ (λ (x : Point) (xs : List Point). x ∷ xs) (point_is p q both.0) (points_are ps qs both.1)

either_true : (a b : Bool) → (a || b) ≡ true → (a ≡ true) ⊎ (b ≡ true)
either_true true b h = inl refl
either_true false b h = inr h

alike_equal : (m p : Metal) → is_equal m p ≡ true → IsAlike m p
alike_equal (Wire l w c) (Wire k v e) h =
    let first = and_parts (l == k) (w == v && (are_points c e || are_points (reverse c) e)) h in
    let second = and_parts (w == v) (are_points c e || are_points (reverse c) e) first.1 in
    let layer = eqb-true l k first.0 in
    let width = eqb-true w v second.0 in
    elim (either_true (are_points c e) (are_points (reverse c) e) second.1) [
      | inl same ↦ let chain = points_are c e same in
          record { is = inl (λ i. Wire (layer i) (width i) (chain i)) }
      | inr turned ↦ let chain = points_are (reverse c) e turned in
          record { is = inr (l, w, c, refl, λ i. Wire (sym layer i) (sym width i) (sym chain i)) }
    ]
alike_equal (Wire l w c) (Via q to) h = absurd (true≢false (sym h))
alike_equal (Wire l w c) (Pad q) h = absurd (true≢false (sym h))
alike_equal (Wire l w c) (Ban x y) h = absurd (true≢false (sym h))
alike_equal (Via p at) (Wire k v e) h = absurd (true≢false (sym h))
alike_equal (Via p at) (Via q to) h =
    let both = and_parts (p == q) (is_point at to) h in
    let stack = eqb-true p q both.0 in
    let place = point_is at to both.1 in
    record { is = inl (λ i. Via (stack i) (place i)) }
alike_equal (Via p at) (Pad q) h = absurd (true≢false (sym h))
alike_equal (Via p at) (Ban x y) h = absurd (true≢false (sym h))
alike_equal (Pad p) m h = absurd (true≢false (sym h))
alike_equal (Ban x y) m h = absurd (true≢false (sym h))

-- what is found equal is copper
alike_equal_copper : (m p : Metal) → is_equal m p ≡ true → is_copper m ≡ true
alike_equal_copper (Wire l w c) p h = refl
alike_equal_copper (Via q at) p h = refl
alike_equal_copper (Pad q) p h = absurd (true≢false (sym h))
alike_equal_copper (Ban x y) p h = absurd (true≢false (sym h))

-- ---- items of such metals are twins
alike_kind : (m p : Metal) → IsAlike m p → kind_of m ≡ kind_of p
alike_kind m p h = elim h.is [
  | inl e ↦ ap kind_of e
  | inr t ↦ ap kind_of t.3 ∙ sym (ap kind_of t.4)
]

twins_of : (d : Design) (a b : Item) → a.net ≡ b.net → IsOfMetal d a → IsOfMetal d b → IsAlike a.metal b.metal
    → AreTwins a b
twins_of d a b net ha hb like = record {
  net_is = net;
  kind_is = ha.kind ∙ alike_kind a.metal b.metal like ∙ sym hb.kind;
  copper = elim like.is [
    | inl e ↦ inl (e, ha.pieces ∙ ap (pieces_of d) e ∙ sym hb.pieces)
    | inr t ↦ inr (record {
      layer = t.0;
      width = t.1;
      chain = t.2;
      a_metal = t.3;
      b_metal = t.4;
      a_pieces = ha.pieces ∙ ap (pieces_of d) t.3;
      b_pieces = hb.pieces ∙ ap (pieces_of d) t.4;
    })
  ];
}

-- twins of one item are twins
through_turned : (a b c : Item) → AreTurned a b → AreTurned b c → ((a.metal ≡ c.metal) × (a.pieces ≡ c.pieces))
through_turned a b c s t =
    let k : Wire s.layer s.width (reverse s.chain) ≡ Wire t.layer t.width t.chain = sym s.b_metal ∙ t.a_metal in
    let layer : s.layer ≡ t.layer = cc in
    let width : s.width ≡ t.width = cc in
    let chain : reverse s.chain ≡ t.chain = cc in
    let back : s.chain ≡ reverse t.chain = sym (reverse-reverse s.chain) ∙ ap reverse chain in (
      s.a_metal ∙ (λ i. Wire (layer i) (width i) (back i)) ∙ sym t.b_metal,
      s.a_pieces ∙ (λ i. wire_piece (layer i) (width i) (back i) ∷ []) ∙ sym t.b_pieces,
    )

through : (a b c : Item) → AreTwins a b → AreTwins b c → AreTwins a c
through a b c s t = record {
  net_is = s.net_is ∙ t.net_is;
  kind_is = s.kind_is ∙ t.kind_is;
  copper = by s.copper t.copper;
}
  where
    by : (((a.metal ≡ b.metal) × (a.pieces ≡ b.pieces)) ⊎ AreTurned a b)
        → (((b.metal ≡ c.metal) × (b.pieces ≡ c.pieces)) ⊎ AreTurned b c)
        → ((a.metal ≡ c.metal) × (a.pieces ≡ c.pieces)) ⊎ AreTurned a c
    by (inl (e, f)) (inl (g, h)) = inl (e ∙ g, f ∙ h)
    by (inl (e, f)) (inr x) = inr (record {
      layer = x.layer;
      width = x.width;
      chain = x.chain;
      a_metal = e ∙ x.a_metal;
      b_metal = x.b_metal;
      a_pieces = f ∙ x.a_pieces;
      b_pieces = x.b_pieces;
    })
    by (inr x) (inl (g, h)) = inr (record {
      layer = x.layer;
      width = x.width;
      chain = x.chain;
      a_metal = x.a_metal;
      b_metal = sym g ∙ x.b_metal;
      a_pieces = x.a_pieces;
      b_pieces = sym h ∙ x.b_pieces;
    })
    by (inr x) (inr y) = inl (through_turned a b c x y)

-- ---- what stands in the wiring
record IsPrintedBy (items : List Item) (w : ℕ × Metal) : Type 0 where
  item : Item
  there : Contains items item
  net_is : item.net ≡ Some w.0
  copper : is_copper item.metal ≡ true
  printed : printed_metal item.metal ≡ w.1

net_of : (o : Option ℕ) (n : ℕ) → is_net o n ≡ true → o ≡ Some n
net_of None n h = absurd (true≢false (sym h))
net_of (Some k) n h = ap (λ (j : ℕ). Some j) (eqb-true k n h)

more_printed : (a : Item) (items : List Item) (w : ℕ × Metal) → IsPrintedBy items w → IsPrintedBy (a ∷ items) w
more_printed a items w p = record {
  item = p.item;
  there = in_later a p.item items p.there;
  net_is = p.net_is;
  copper = p.copper;
  printed = p.printed;
}

piece_printed : (n : ℕ) (a : Item) (items : List Item) (b : Bool) (w : ℕ × Metal) (rest : List (ℕ × Metal))
    → (is_net a.net n && is_copper a.metal) ≡ b
    → Contains ((if b then (n, printed_metal a.metal) ∷ [] else []) ++ rest) w
    → (IsPrintedBy (a ∷ items) w) ⊎ Contains rest w
piece_printed n a items true w rest e h = elim (in_cons (n, printed_metal a.metal) w rest h) [
  | inl same ↦
      let both = and_parts (is_net a.net n) (is_copper a.metal) e in
      inl (record {
        item = a;
        there = in_here a items;
        net_is = net_of a.net n both.0 ∙ ap (λ (v : ℕ × Metal). Some v.0) same;
        copper = both.1;
        printed = ap (λ (v : ℕ × Metal). v.1) same;
      })
  | inr more ↦ inr more
]
piece_printed n a items false w rest e h = inr h

part_printed : (n : ℕ) (items : List Item) (w : ℕ × Metal) → Contains (part n items) w → IsPrintedBy items w
part_printed n [] w h = absurd (in_none w h)
part_printed n (a ∷ items) w h =
    elim (piece_printed n a items (is_net a.net n && is_copper a.metal) w (part n items) refl h) [
      | inl p ↦ p
      | inr more ↦ more_printed a items w (part_printed n items w more)
    ]

wiring_printed : (ns : List ℕ) (items : List Item) (w : ℕ × Metal) → Contains (wiring ns items) w
    → IsPrintedBy items w
wiring_printed [] items w h = absurd (in_none w h)
wiring_printed (n ∷ ns) items w h = elim (Contains-append_cases (part n items) (wiring ns items) w h) [
  | inl here ↦ part_printed n items w here
  | inr more ↦ wiring_printed ns items w more
]

-- and each wire or via of a net is printed
piece_there : (n : ℕ) (a : Item) (rest : List (ℕ × Metal)) (b : Bool) → b ≡ true
    → Contains ((if b then (n, printed_metal a.metal) ∷ [] else []) ++ rest) (n, printed_metal a.metal)
piece_there n a rest true e = in_here (n, printed_metal a.metal) rest
piece_there n a rest false e = absurd (true≢false (sym e))

part_there : (n : ℕ) (items : List Item) (a : Item) → Contains items a → a.net ≡ Some n → is_copper a.metal ≡ true
    → Contains (part n items) (n, printed_metal a.metal)
part_there n [] a h net copper = absurd (in_none a h)
part_there n (b ∷ items) a h net copper = elim (in_cons b a items h) [
  | inl same ↦
      subst (λ (x : Item). Contains (part n (b ∷ items)) (n, printed_metal x.metal)) same
      (piece_there n b (part n items) (is_net b.net n && is_copper b.metal)
      (both_true (is_net b.net n) (is_copper b.metal)
      (own_net b.net n (ap (λ (x : Item). x.net) same ∙ net))
      (ap (λ (x : Item). is_copper x.metal) same ∙ copper)))
  | inr more ↦ Contains-append_right (piece b) (part n items) (n, printed_metal a.metal)
      (part_there n items a more net copper)
]
  where
    piece : Item → List (ℕ × Metal)
    piece b = if is_net b.net n && is_copper b.metal then (n, printed_metal b.metal) ∷ [] else []

    both_true : (a b : Bool) → a ≡ true → b ≡ true → (a && b) ≡ true
    both_true true b p q = q
    both_true false b p q = absurd (true≢false (sym p))

    own_net : (o : Option ℕ) (n : ℕ) → o ≡ Some n → is_net o n ≡ true
    own_net o n e = ap (λ (p : Option ℕ). is_net p n) e ∙ eq-eqb n n refl

wiring_there : (ns : List ℕ) (items : List Item) (a : Item) (n : ℕ) → Contains ns n → Contains items a
    → a.net ≡ Some n → is_copper a.metal ≡ true → Contains (wiring ns items) (n, printed_metal a.metal)
wiring_there [] items a n k h net copper = absurd (in_none n k)
wiring_there (j ∷ ns) items a n k h net copper = elim (in_cons j n ns k) [
  | inl same ↦ Contains-append_left (part j items) (wiring ns items) (n, printed_metal a.metal)
      (subst (λ (i : ℕ). Contains (part i items) (n, printed_metal a.metal)) (sym same)
      (part_there n items a h net copper))
  | inr more ↦ Contains-append_right (part j items) (wiring ns items) (n, printed_metal a.metal)
      (wiring_there ns items a n more h net copper)
]

-- ---- what is left of a session
-- the fixed item that took it away
record TookAway (fixed : List Item) (x : SesItem) : Type 0 where
  item : Item
  there : Contains fixed item
  same : is_same item x ≡ true

still_there : (a : Item) (xs : List SesItem) (x : SesItem) → Contains xs x
    → Contains (without a xs) x ⊎ (is_same a x ≡ true)
still_there a [] x h = inl h
still_there a (y ∷ xs) x h = by (is_same a y) refl (still_there a xs x)
  where
    by : (b : Bool) → is_same a y ≡ b → (Contains xs x → Contains (without a xs) x ⊎ (is_same a x ≡ true))
        → Contains (if b then xs else y ∷ without a xs) x ⊎ (is_same a x ≡ true)
    by true e f = elim (in_cons y x xs h) [
      | inl same ↦ inr (subst (λ (z : SesItem). is_same a z ≡ true) same e)
      | inr more ↦ inl more
    ]
    by false e f = elim (in_cons y x xs h) [
      | inl same ↦ inl (subst (Contains (y ∷ without a xs)) same (in_here y (without a xs)))
      | inr more ↦ elim (f more) [
        | inl k ↦ inl (in_later y x (without a xs) k)
        | inr k ↦ inr k
      ]
    ]

left_or_taken : (fixed : List Item) (xs : List SesItem) (x : SesItem) → Contains xs x
    → Contains (left_of fixed xs) x ⊎ TookAway fixed x
left_or_taken [] xs x h = inl h
left_or_taken (a ∷ fixed) xs x h = elim (still_there a xs x h) [
  | inl k ↦ elim (left_or_taken fixed (without a xs) x k) [
    | inl more ↦ inl more
    | inr t ↦ inr (record { item = t.item; there = in_later a t.item fixed t.there; same = t.same })
  ]
  | inr e ↦ inr (record { item = a; there = in_here a fixed; same = e })
]

-- ---- the session's items on the board
record HasNumbered (d : Design) (items : List Item) (x : SesItem) : Type 0 where
  id : ℕ
  there : Contains items (item_of d id (Some x.net) false x.metal)

has_numbered : (d : Design) (id : ℕ) (xs : List SesItem) (x : SesItem) → Contains xs x
    → HasNumbered d (numbered d id xs) x
has_numbered d id [] x h = absurd (in_none x h)
has_numbered d id (y ∷ xs) x h = elim (in_cons y x xs h) [
  | inl same ↦ record {
    id = id;
    there = subst (λ (z : SesItem). Contains (numbered d id (y ∷ xs)) (item_of d id (Some z.net) false z.metal)) same
        (in_here (item_of d id (Some y.net) false y.metal) (numbered d (id + 1) xs));
  }
  | inr more ↦ let r = has_numbered d (id + 1) xs x more in
      record {
        id = r.id;
        there = in_later (item_of d id (Some y.net) false y.metal) (item_of d r.id (Some x.net) false x.metal)
            (numbered d (id + 1) xs) r.there;
      }
]

-- ---- the two boards
drops_fixed : (fixed routed : List Item) → All (λ (a : Item). a.fixed ≡ true) fixed
    → filter is_routed (fixed ++ routed) ≡ filter is_routed routed
drops_fixed [] routed h = refl
drops_fixed (a ∷ fixed) routed h =
    ap (λ (b : Bool). cond (not b) (a ∷ filter is_routed (fixed ++ routed)) (filter is_routed (fixed ++ routed)))
    (All-head (λ (x : Item). x.fixed ≡ true) a fixed h)
    ∙ drops_fixed fixed routed (All-tail (λ (x : Item). x.fixed ≡ true) a fixed h)

keeps_routed : (d : Design) (routed : List Item) → All (IsWired d) routed → filter is_routed routed ≡ routed
keeps_routed d [] h = refl
keeps_routed d (a ∷ routed) h =
    ap (λ (b : Bool). cond (not b) (a ∷ filter is_routed routed) (filter is_routed routed))
    (All-head (IsWired d) a routed h).routed
    ∙ ap (λ (xs : List Item). a ∷ xs) (keeps_routed d routed (All-tail (IsWired d) a routed h))

abbrev pub nets_of : Design → List ℕ
nets_of d = range_with_len 0 (length d.nets)

-- what is left is of the routed wiring
pub left_is : (d : Design) (items routed : List Item) (xs : List SesItem) → IsSource d items routed false xs
    → map told (left_of d.fixed xs) ≡ wiring (nets_of d) routed
left_is d items routed xs s =
    told_left d.fixed xs
    ∙ ap (left_told d.fixed) (s.reads ∙ with_fixed d items ∙ ap (wiring (nets_of d)) s.items_are)
    ∙ take_all (nets_of d) (range_fresh 0 (length d.nets)) d.fixed routed

omitted_is : (d : Design) (items routed : List Item) (xs : List SesItem) → IsSource d items routed true xs
    → map told xs ≡ wiring (nets_of d) routed
omitted_is d items routed xs s =
    s.reads ∙ without_fixed d items
    ∙ ap (wiring (nets_of d)) (ap (filter is_routed) s.items_are ∙ drops_fixed d.fixed routed s.fixed
    ∙ keeps_routed d routed s.wired)

left_wired : (d : Design) (items routed : List Item) (omit : Bool) (xs : List SesItem)
    → IsSource d items routed omit xs
    → (x : SesItem) → Contains (left_of d.fixed xs) x → Contains (wiring (nets_of d) routed) (told x)
left_wired d items routed false xs s x h =
    subst (λ (ws : List (ℕ × Metal)). Contains ws (told x)) (left_is d items routed xs s)
    (mapped told (left_of d.fixed xs) x h)
left_wired d items routed true xs s x h =
    subst (λ (ws : List (ℕ × Metal)). Contains ws (told x)) (omitted_is d items routed xs s)
    (mapped told xs x (in_left d.fixed xs x h))

-- the session's item of a routed one, or the fixed item that took it away
record IsToldOf (d : Design) (xs : List SesItem) (w : ℕ × Metal) : Type 0 where
  x : SesItem
  is : told x ≡ w
  where_is : Contains (left_of d.fixed xs) x ⊎ TookAway d.fixed x

wired_left : (d : Design) (items routed : List Item) (omit : Bool) (xs : List SesItem)
    → IsSource d items routed omit xs
    → (w : ℕ × Metal) → Contains (wiring (nets_of d) routed) w → IsToldOf d xs w
wired_left d items routed false xs s w h =
    let r = from_map told (left_of d.fixed xs) w
    (subst (λ (ws : List (ℕ × Metal)). Contains ws w) (sym (left_is d items routed xs s)) h) in
    record { x = r.x; is = r.is; where_is = inl r.there }
wired_left d items routed true xs s w h =
    let r = from_map told xs w
    (subst (λ (ws : List (ℕ × Metal)). Contains ws w) (sym (omitted_is d items routed xs s)) h) in
    record { x = r.x; is = r.is; where_is = left_or_taken d.fixed xs r.x r.there }

module _ (d : Design) (items routed : List Item) (omit : Bool) (xs : List SesItem)
    (s : IsSource d items routed omit xs)
  where
    routed_in : (a : Item) → Contains routed a → Contains items a
    routed_in a h = subst (λ (is : List Item). Contains is a) (sym s.items_are)
        (Contains-append_right d.fixed routed a h)

    fixed_in : (a : Item) → Contains d.fixed a → Contains items a
    fixed_in a h = subst (λ (is : List Item). Contains is a) (sym s.items_are)
        (Contains-append_left d.fixed routed a h)

    -- a session's item that is left has a routed twin
    left_twin : (x : SesItem) (id : ℕ) → Contains (left_of d.fixed xs) x
        → IsMade d (item_of d id (Some x.net) false x.metal)
        × HasRoutedTwin items (item_of d id (Some x.net) false x.metal)
    left_twin x id h =
        let p = wiring_printed (nets_of d) routed (told x) (left_wired d items routed omit xs s x h) in
        let wired = All-contains (IsWired d) routed p.item s.wired p.there in
        let same : wired.net ≡ x.net = some_same wired.net x.net (sym wired.net_is ∙ p.net_is) in
        let one = item_of d id (Some x.net) false x.metal in (
          record { net = x.net; net_there = subst (λ (n : ℕ). n < length d.nets) same wired.within; made = refl },
          record {
            item = p.item;
            there = routed_in p.item p.there;
            routed = wired.routed;
            twins = twins_back p.item one (twins_of d p.item one p.net_is wired.of_metal
                (record { kind = refl; pieces = refl })
                (subst (IsAlike p.item.metal) p.printed (alike_printed p.item.metal)));
          },
        )
      where
        some_same : (m n : ℕ) → Some m ≡ Some n → m ≡ n
        some_same m n e = cc

    board_in : (a : Item) → Contains d.fixed a → Contains (board_of d xs) a
    board_in a h = Contains-append_left d.fixed (numbered d (length d.fixed) (left_of d.fixed xs)) a h

    pub routed_twin : (a : Item) → Contains (board_of d xs) a → IsRouted a → IsMade d a × HasRoutedTwin items a
    routed_twin a h r = elim (Contains-append_cases d.fixed (numbered d (length d.fixed) (left_of d.fixed xs)) a h) [
      | inl fixed ↦ absurd (true≢false
          (sym (All-contains (λ (x : Item). x.fixed ≡ true) d.fixed a s.fixed fixed) ∙ r))
      | inr new ↦
          let n = is_numbered d (length d.fixed) (left_of d.fixed xs) a new in
          subst (λ (x : Item). IsMade d x × HasRoutedTwin items x) (sym n.is) (left_twin n.x n.id n.there)
    ]

    -- a routed item shows on the board that is judged
    routed_shows : (a : Item) → Contains routed a → HasTwin (board_of d xs) a
    routed_shows a h =
        let wired = All-contains (IsWired d) routed a s.wired h in
        let w : ℕ × Metal = (wired.net, printed_metal a.metal) in
        let t = wired_left d items routed omit xs s w
        (wiring_there (nets_of d) routed a wired.net (in_range 0 (length d.nets) wired.net (omega arith)
        (omega (arith, wired.within))) h wired.net_is wired.copper) in
        let metal : t.x.metal ≡ printed_metal a.metal = ap (λ (v : ℕ × Metal). v.1) t.is in
        let net : t.x.net ≡ wired.net = ap (λ (v : ℕ × Metal). v.0) t.is in
        let like : IsAlike a.metal t.x.metal = subst (IsAlike a.metal) (sym metal) (alike_printed a.metal) in
        elim t.where_is [
          | inl left ↦
              let n = has_numbered d (length d.fixed) (left_of d.fixed xs) t.x left in
              let one = item_of d n.id (Some t.x.net) false t.x.metal in
              record {
                item = one;
                there = Contains-append_right d.fixed (numbered d (length d.fixed) (left_of d.fixed xs)) one n.there;
                twins = twins_of d a one (wired.net_is ∙ ap (λ (n : ℕ). Some n) (sym net)) wired.of_metal
                    (record { kind = refl; pieces = refl }) like;
              }
          | inr taken ↦
              let both = and_parts (is_net taken.item.net t.x.net) (is_equal taken.item.metal t.x.metal) taken.same in
              let eq = alike_equal taken.item.metal t.x.metal both.1 in
              let own = alike_equal_copper taken.item.metal t.x.metal both.1 in
              let made = All-contains (λ (x : Item). is_copper x.metal ≡ true → IsOfMetal d x) d.fixed taken.item
              s.fixed_copper taken.there own in
              let one = item_of d 0 (Some t.x.net) false t.x.metal in
              let to_one : AreTwins a one = twins_of d a one (wired.net_is ∙ ap (λ (n : ℕ). Some n) (sym net))
              wired.of_metal (record { kind = refl; pieces = refl }) like in
              let from_one : AreTwins taken.item one =
              twins_of d taken.item one (net_of taken.item.net t.x.net both.0)
              made (record { kind = refl; pieces = refl }) eq in
              record {
                item = taken.item;
                there = board_in taken.item taken.there;
                twins = through a one taken.item to_one (twins_back taken.item one from_one);
              }
        ]

    pub same_copper : ShowSame items (board_of d xs)
    same_copper = record {
      to = λ a h. elim (Contains-append_cases d.fixed routed a
          (subst (λ (is : List Item). Contains is a) s.items_are h)) [
            | inl fixed ↦ record { item = a; there = board_in a fixed; twins = twins_self a }
            | inr r ↦ routed_shows a r
          ];
      from = λ a h. elim (Contains-append_cases d.fixed (numbered d (length d.fixed) (left_of d.fixed xs)) a h) [
        | inl fixed ↦ record { item = a; there = fixed_in a fixed; twins = twins_self a }
        | inr new ↦
            let n = is_numbered d (length d.fixed) (left_of d.fixed xs) a new in
            let t = (left_twin n.x n.id n.there).1 in
            record {
              item = t.item;
              there = t.there;
              twins = subst (λ (x : Item). AreTwins x t.item) (sym n.is) t.twins;
            }
      ];
    }
