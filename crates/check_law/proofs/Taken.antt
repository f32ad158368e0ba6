-- Where a session prints the fixed wiring too, what the fixed items take away is just what they printed.
use Rattle.std.proofs.Common.{◌≡◌, ◌≢◌, ℕ, ◌==◌, ◌&&◌, ◌||◌, Bool}
use Rattle.std.proofs.Common.{true, false, true≢false}
use Rattle.std.proofs.Common.{List, [], ◌∷◌, ◌++◌, Option, Some, None, refl, sym, ap, ap₂, ◌∙◌, map}
use Rattle.std.proofs.Common.{reverse, eq-eqb, eqb-true, All}
use Rattle.std.specs.Prelude.{if◌then◌else◌}
use Rattle.std.specs.Ordering.{int_eq}
use Rattle.std.proofs.lemmas.List.Elements.{All-nil, All-cons, All-head, All-tail, All-append}
use Rattle.geo_kernel.specs.declared.point.Point.{Point}
use Rattle.pcb_model.specs.declared.item.Metal.{Metal}
use Rattle.pcb_model.specs.declared.item.Metal.TheVariants.{Wire, Via, Pad, Ban}
use Rattle.pcb_model.specs.declared.item.Item.{Item}
use Rattle.route_lattice.proofs.Sets.{int_eq_same}
use Rattle.ses_writer.specs.Words.{directed, is_lesser}
use Rattle.ses_reader.specs.declared.item.SesItem.{SesItem}
use Rattle.route_check.specs.Board.{is_point, are_points, is_equal, is_net, is_same, without, left_of}
use Rattle.session_law.specs.Told.{is_copper}
use Rattle.session_law.specs.Back.{printed_metal, told}

abbrev Wiring : Type 0
Wiring = ℕ × Metal

-- ---- a wire is equal to itself from either end
both_true : (a b : Bool) → a ≡ true → b ≡ true → (a && b) ≡ true
both_true true b p q = q
both_true false b p q = absurd (true≢false (sym p))

second_true : (a b : Bool) → b ≡ true → (a || b) ≡ true
second_true true b q = refl
second_true false b q = q

first_true : (a b : Bool) → a ≡ true → (a || b) ≡ true
first_true true b q = refl
first_true false b q = absurd (true≢false (sym q))

same_points : (c : List Point) → are_points c c ≡ true
same_points [] = refl
same_points (p ∷ ps) =
    both_true (is_point p p) (are_points ps ps)
    (both_true (int_eq p.x p.x) (int_eq p.y p.y) (int_eq_same p.x p.x refl) (int_eq_same p.y p.y refl))
    (same_points ps)

directed_same : (c : List Point) → (are_points c (directed c) || are_points (reverse c) (directed c)) ≡ true
directed_same c = by (is_lesser (reverse c) c)
  where
    by : (b : Bool) → (are_points c (if b then reverse c else c) || are_points (reverse c)
        (if b then reverse c else c))
        ≡ true
    by true = second_true (are_points c (reverse c)) (are_points (reverse c) (reverse c)) (same_points (reverse c))
    by false = first_true (are_points c c) (are_points (reverse c) c) (same_points c)

printed_equal : (m : Metal) → is_copper m ≡ true → is_equal m (printed_metal m) ≡ true
printed_equal (Wire l w c) h =
    both_true (l == l) (w == w && (are_points c (directed c) || are_points (reverse c) (directed c)))
    (eq-eqb l l refl)
    (both_true (w == w) (are_points c (directed c) || are_points (reverse c) (directed c)) (eq-eqb w w refl)
    (directed_same c))
printed_equal (Via p at) h =
    both_true (p == p) (is_point at at) (eq-eqb p p refl)
    (both_true (int_eq at.x at.x) (int_eq at.y at.y) (int_eq_same at.x at.x refl) (int_eq_same at.y at.y refl))
printed_equal (Pad p) h = absurd (true≢false (sym h))
printed_equal (Ban w v) h = absurd (true≢false (sym h))

-- ---- by nets and metals
abbrev same_of : Option ℕ → Metal → Wiring → Bool
same_of o m w = is_net o w.0 && is_equal m w.1

abbrev without_of : Option ℕ → Metal → List Wiring → List Wiring
without_of o m [] = []
without_of o m (w ∷ ws) = if same_of o m w then ws else w ∷ without_of o m ws

abbrev pub left_told : List Item → List Wiring → List Wiring
left_told [] ws = ws
left_told (a ∷ fixed) ws = left_told fixed (without_of a.net a.metal ws)

told_without : (a : Item) (xs : List SesItem) → map told (without a xs) ≡ without_of a.net a.metal (map told xs)
told_without a [] = refl
told_without a (x ∷ xs) = by (is_same a x) (told_without a xs)
  where
    by : (b : Bool) → map told (without a xs) ≡ without_of a.net a.metal (map told xs)
        → map told (if b then xs else x ∷ without a xs)
        ≡ (if b then map told xs else told x ∷ without_of a.net a.metal (map told xs))
    by true h = refl
    by false h = ap (λ (ws : List Wiring). told x ∷ ws) h

pub told_left : (fixed : List Item) (xs : List SesItem) → map told (left_of fixed xs) ≡ left_told fixed (map told xs)
told_left [] xs = refl
told_left (a ∷ fixed) xs = told_left fixed (without a xs) ∙ ap (left_told fixed) (told_without a xs)

-- what an item of this net and metal prints among the wiring of a net
abbrev piece_of : ℕ → Option ℕ → Metal → List Wiring
piece_of n o m = if is_net o n && is_copper m then (n, printed_metal m) ∷ [] else []

abbrev pub part : ℕ → List Item → List Wiring
part n [] = []
part n (a ∷ items) = piece_of n a.net a.metal ++ part n items

abbrev pub wiring : List ℕ → List Item → List Wiring
wiring [] items = []
wiring (n ∷ ns) items = part n items ++ wiring ns items

-- the wiring of an item of this net and metal and of others
abbrev wiring_with : List ℕ → Option ℕ → Metal → List Item → List Wiring
wiring_with [] o m items = []
wiring_with (n ∷ ns) o m items = (piece_of n o m ++ part n items) ++ wiring_with ns o m items

with_is : (ns : List ℕ) (a : Item) (items : List Item) → wiring ns (a ∷ items) ≡ wiring_with ns a.net a.metal items
with_is [] a items = refl
with_is (n ∷ ns) a items =
    ap (λ (ws : List Wiring). (piece_of n a.net a.metal ++ part n items) ++ ws) (with_is ns a items)

-- all of a net's wiring has the net
piece_net : (n : ℕ) (o : Option ℕ) (m : Metal) → All (λ (w : Wiring). w.0 ≡ n) (piece_of n o m)
piece_net n o m = by (is_net o n && is_copper m)
  where
    by : (b : Bool) → All (λ (w : Wiring). w.0 ≡ n) (if b then (n, printed_metal m) ∷ [] else [])
    by true = All-cons (λ (w : Wiring). w.0 ≡ n) (n, printed_metal m) [] refl (All-nil (λ (w : Wiring). w.0 ≡ n))
    by false = All-nil (λ (w : Wiring). w.0 ≡ n)

part_net : (n : ℕ) (items : List Item) → All (λ (w : Wiring). w.0 ≡ n) (part n items)
part_net n [] = All-nil (λ (w : Wiring). w.0 ≡ n)
part_net n (a ∷ items) =
    All-append (λ (w : Wiring). w.0 ≡ n) (piece_of n a.net a.metal) (part n items) (piece_net n a.net a.metal)
    (part_net n items)

-- ---- taking away
skip : (o : Option ℕ) (m : Metal) (ws rest : List Wiring) → All (λ (w : Wiring). same_of o m w ≡ false) ws
    → without_of o m (ws ++ rest) ≡ ws ++ without_of o m rest
skip o m [] rest h = refl
skip o m (w ∷ ws) rest h =
    by (same_of o m w) (All-head (λ (w : Wiring). same_of o m w ≡ false) w ws h)
    (skip o m ws rest (All-tail (λ (w : Wiring). same_of o m w ≡ false) w ws h))
  where
    by : (b : Bool) → b ≡ false → without_of o m (ws ++ rest) ≡ ws ++ without_of o m rest
        → (if b then ws ++ rest else w ∷ without_of o m (ws ++ rest)) ≡ w ∷ (ws ++ without_of o m rest)
    by true e k = absurd (true≢false e)
    by false e k = ap (λ (vs : List Wiring). w ∷ vs) k

found : (o : Option ℕ) (m : Metal) (w : Wiring) (ws : List Wiring) → same_of o m w ≡ true
    → without_of o m (w ∷ ws) ≡ ws
found o m w ws h = ap (λ (b : Bool). if b then ws else w ∷ without_of o m ws) h

nothing_same : (o : Option ℕ) (m : Metal) (ws : List Wiring) → ((w : Wiring) → same_of o m w ≡ false)
    → without_of o m ws ≡ ws
nothing_same o m [] h = refl
nothing_same o m (w ∷ ws) h =
    ap (λ (b : Bool). if b then ws else w ∷ without_of o m ws) (h w)
    ∙ ap (λ (vs : List Wiring). w ∷ vs) (nothing_same o m ws h)

no_piece : (n : ℕ) (o : Option ℕ) (m : Metal) → (is_net o n && is_copper m) ≡ false → piece_of n o m ≡ []
no_piece n o m h = ap (λ (b : Bool). if b then (n, printed_metal m) ∷ [] else []) h

nothing_printed : (ns : List ℕ) (o : Option ℕ) (m : Metal) (items : List Item)
    → All (λ (n : ℕ). (is_net o n && is_copper m) ≡ false) ns → wiring_with ns o m items ≡ wiring ns items
nothing_printed [] o m items h = refl
nothing_printed (n ∷ ns) o m items h =
    ap₂ (λ (p ws : List Wiring). (p ++ part n items) ++ ws)
    (no_piece n o m (All-head (λ (j : ℕ). (is_net o j && is_copper m) ≡ false) n ns h))
    (nothing_printed ns o m items (All-tail (λ (j : ℕ). (is_net o j && is_copper m) ≡ false) n ns h))

-- the numbers differ
abbrev pub AreFresh : List ℕ → Type 0
AreFresh [] = Unit {0}
AreFresh (n ∷ ns) = All (λ (j : ℕ). n ≢ j) ns × AreFresh ns

other_net : (k n : ℕ) → k ≢ n → (k == n) ≡ false
other_net k n h = by (k == n) refl
  where
    by : (b : Bool) → (k == n) ≡ b → (k == n) ≡ false
    by true e = absurd (h (eqb-true k n e))
    by false e = e

first_false : (a b : Bool) → a ≡ false → (a && b) ≡ false
first_false true b e = absurd (true≢false e)
first_false false b e = refl

last_false : (a b : Bool) → b ≡ false → (a && b) ≡ false
last_false true b e = e
last_false false b e = refl

module _ (k : ℕ) (m : Metal) (copper : is_copper m ≡ true) (items : List Item) where
  take_one : (ns : List ℕ) → AreFresh ns → without_of (Some k) m (wiring_with ns (Some k) m items) ≡ wiring ns items
  take_one [] fresh = refl
  take_one (n ∷ ns) fresh = by (k == n) refl (take_one ns fresh.1)
    where
      by : (b : Bool) → (k == n) ≡ b → without_of (Some k) m (wiring_with ns (Some k) m items) ≡ wiring ns items
          → without_of (Some k) m (wiring_with (n ∷ ns) (Some k) m items) ≡ wiring (n ∷ ns) items
      by true e rest =
          let one : k ≡ n = eqb-true k n e in
          let piece : piece_of n (Some k) m ≡ (n, printed_metal m) ∷ [] =
          ap (λ (b : Bool). if b then (n, printed_metal m) ∷ [] else [])
          (both_true (k == n) (is_copper m) e copper) in
          ap (λ (p : List Wiring). without_of (Some k) m
          ((p ++ part n items) ++ wiring_with ns (Some k) m items)) piece
          ∙ found (Some k) m (n, printed_metal m) (part n items ++ wiring_with ns (Some k) m items)
          (both_true (k == n) (is_equal m (printed_metal m)) e (printed_equal m copper))
          ∙ ap (λ (ws : List Wiring). part n items ++ ws)
          (nothing_printed ns (Some k) m items (λ i d lt. first_false (k == _) (is_copper m)
          (other_net k _ (λ x. fresh.0 i d lt (sym one ∙ x)))))
      by false e rest =
          ap (λ (p : List Wiring). without_of (Some k) m ((p ++ part n items) ++ wiring_with ns (Some k) m items))
          (no_piece n (Some k) m (first_false (k == n) (is_copper m) e))
          ∙ skip (Some k) m (part n items) (wiring_with ns (Some k) m items)
          (λ i d lt. first_false (k == _) (is_equal m _)
          (ap (λ (j : ℕ). k == j) (part_net n items i d lt) ∙ e))
          ∙ ap (λ (ws : List Wiring). part n items ++ ws) rest

-- so each item takes away what it printed
take : (ns : List ℕ) → AreFresh ns → (o : Option ℕ) (m : Metal) (items : List Item)
    → without_of o m (wiring_with ns o m items) ≡ wiring ns items
take ns fresh None m items =
    nothing_same None m (wiring_with ns None m items) (λ w. refl) ∙ nothing_printed ns None m items (λ i d lt. refl)
take ns fresh (Some k) (Wire l w c) items = take_one k (Wire l w c) refl items ns fresh
take ns fresh (Some k) (Via p at) items = take_one k (Via p at) refl items ns fresh
take ns fresh (Some k) (Pad p) items =
    nothing_same (Some k) (Pad p) (wiring_with ns (Some k) (Pad p) items) (λ w. last_false (k == w.0) false refl)
    ∙ nothing_printed ns (Some k) (Pad p) items (λ i d lt. last_false (k == _) false refl)
take ns fresh (Some k) (Ban w v) items =
    nothing_same (Some k) (Ban w v) (wiring_with ns (Some k) (Ban w v) items) (λ x. last_false (k == x.0) false refl)
    ∙ nothing_printed ns (Some k) (Ban w v) items (λ i d lt. last_false (k == _) false refl)

pub take_all : (ns : List ℕ) → AreFresh ns → (fixed routed : List Item)
    → left_told fixed (wiring ns (fixed ++ routed)) ≡ wiring ns routed
take_all ns fresh [] routed = refl
take_all ns fresh (a ∷ fixed) routed =
    ap (left_told fixed) (ap (without_of a.net a.metal) (with_is ns a (fixed ++ routed))
    ∙ take ns fresh a.net a.metal (fixed ++ routed))
    ∙ take_all ns fresh fixed routed
