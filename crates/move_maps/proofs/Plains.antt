-- Tallies of plain nodes before any item comes: steps are there and lie inside, and vias of centred padstacks too.
use Prim.Native.Nat.{zero, suc}
use Rattle.std.proofs.Common.{◌≡◌, ℕ, ◌+◌, ◌-◌, ◌*◌, ◌/◌, ◌%◌, ◌<◌, ◌≤◌, ◌==◌, Bool, true, false, ltb-true, not, ◌&&◌}
use Rattle.std.proofs.Common.{cond, List, [], ◌∷◌, ◌++◌, map, length, Option}
use Rattle.std.proofs.Common.{Some, None, refl, sym, ap, ◌∙◌, subst}
use Rattle.std.proofs.Common.{arith, inl, inr, take, get_or, append_assoc, ◌^◌}
use Rattle.std.specs.Prelude.{nat_lt, slice_index}
use Rattle.std.specs.Option.{option_map}
use Rattle.std.proofs.lemmas.Bool.{ltb-false, lt-ltb, le-ltb, false≢true, and_parts, and_from}
use Rattle.std.proofs.lemmas.Nat.{mul-add-lt, div-mul-add, mod-mul-add}
use Rattle.std.proofs.lemmas.List.{append-nil, length-append, length-map, get_or_append_left, get_or-map}
use Rattle.std.proofs.lemmas.List.{map-append, take_more}
use Rattle.std.proofs.lemmas.List.Elements.{All-nil, All-cons}
use Rattle.geo_kernel.specs.declared.point.Point.{Point}
use Rattle.pcb_model.specs.declared.item.Piece.{Piece}
use Rattle.pcb_model.specs.declared.item.Probe.{Probe}
use Rattle.pcb_model.specs.declared.item.Probe.TheVariants as probe
use Rattle.pcb_model.specs.declared.design.Design.{Design}
use Rattle.pcb_model.specs.Pieces.{pieces_of, metal_of, padstack_pieces, wire_piece}
use Rattle.pcb_model.specs.Board.{IsInsideEach, BeginsInEach, AreInside}
use Rattle.route_lattice.specs.declared.moves.Move.{Move}
use Rattle.route_lattice.specs.declared.moves.Move.TheVariants.{Step, Via}
use Rattle.route_lattice.specs.Mesh.{Mesh, node_count, node_at, column, row, level, point_of, layer_of}
use Rattle.route_lattice.specs.Near.{are_near_at}
use Rattle.route_lattice.specs.Ways.{step_at, via_at, vias_of, way_count, can_join, has_copper}
use Rattle.route_lattice.specs.Legal.{probe_of, probe_at}
use Rattle.route_lattice.proofs.Places.{node_below, width_positive}
use Rattle.move_maps.specs.Maps.{IsTally, place_at}
use Rattle.move_maps.specs.Paint.{IsFilled}
use Rattle.move_maps.specs.Starts.{IsPlain, IsCentred, IsStart, AreStarts, start_of}
use Rattle.move_maps.proofs.Painting.{from_node, to_node}
use Rattle.move_maps.proofs.Starting.{filled_at}
use Rattle.move_maps.proofs.Centring.{inside_centred}

-- ---- one count
-- what lies inside has a tally of 0
none_yet : (d : Design) (g : ℕ) (p : Probe) → AreInside d.bounds (pieces_of d (metal_of p))
    → IsTally d g [] (Some p) 0
none_yet d g p h = inr (omega arith, (0, 0, refl, inl (h, refl), refl))

-- the top is a tally of any move, where there is one and where there is none
pub top_start : (d : Design) (m : Mesh) (g l i : ℕ) → IsStart d m g l i 255
top_start d m g l i = record { each = λ v hv e h. top (probe_at d m g v i) }
  where
    top : (o : Option Probe) → IsTally d g [] o 255
    top None = refl
    top (Some p) = inl refl

-- a step that begins inside lies inside
step_inside : (d : Design) (layer width : ℕ) (p q : Point) → IsInsideEach d.bounds p
    → AreInside d.bounds (pieces_of d (metal_of (probe.Step layer width p q)))
step_inside d layer width p q h =
    let piece = wire_piece layer width (p ∷ q ∷ []) in record {
      each = All-cons (BeginsInEach d.bounds) piece [] (record { each = h.each }) (All-nil (BeginsInEach d.bounds));
    }

-- the ways of a step
module _ (d : Design) (m : Mesh) (g v : ℕ) (inside : IsInsideEach d.bounds (point_of m v)) where
  -- one that is there
  one_step : (i to : ℕ) → IsTally d g [] (option_map (λ (w : Move × ℕ). probe_of d m g v w.0 w.1) (Some (Step i, to))) 0
  one_step i to = none_yet d g (probe_of d m g v (Step i) to)
      (step_inside d (layer_of m v) _ (point_of m v) (point_of m to) inside)

  -- one that is there by a test
  tested : (t : Bool) (i to : ℕ) → t ≡ true
      → IsTally d g [] (option_map (λ (w : Move × ℕ). probe_of d m g v w.0 w.1) (cond t (Some (Step i, to)) None)) 0
  tested true i to e = one_step i to
  tested false i to e = absurd (false≢true e)

-- a plain node's point is its crossing
pub step_start : (d : Design) (m : Mesh) (g l i : ℕ) → i < 4 → IsStart d m g l i 0
step_start d m g l i h = record { each = λ v hv e p. at v p i h }
  where
    at : (v : ℕ) → IsPlain d m (row m v) (column m v) → (i : ℕ) → i < 4 → IsTally d g [] (probe_at d m g v i) 0
    at v p zero h = tested d m g v p.inside (nat_lt (column m v + 1) (length m.xs)) 0
        (node_at m (level m v) (row m v) (column m v + 1)) (lt-ltb (column m v + 1) (length m.xs) p.right)
    at v p (suc zero) h = tested d m g v p.inside (nat_lt 0 (column m v)) 1
        (node_at m (level m v) (row m v) (column m v - 1)) (lt-ltb 0 (column m v) p.left)
    at v p (suc (suc zero)) h = tested d m g v p.inside (nat_lt (row m v + 1) (length m.ys)) 2
        (node_at m (level m v) (row m v + 1) (column m v)) (lt-ltb (row m v + 1) (length m.ys) p.top)
    at v p (suc (suc (suc zero))) h = tested d m g v p.inside (nat_lt 0 (row m v)) 3
        (node_at m (level m v) (row m v - 1) (column m v)) (lt-ltb 0 (row m v) p.bottom)
    at v p (suc (suc (suc (suc i)))) h = absurd (omega (arith, h))

-- ---- vias
-- a move that is there only by a test passed it
passed : {X : Type 0} (f : X → Probe) (t : Bool) (w : X) (p : Probe)
    → option_map f (cond t (Some w) None) ≡ Some p → t ≡ true
passed f true w p e = refl
passed f false w p e = cc

-- what joins two layers at a point joins them where all its vertices are near
joins_too : (ps : List Piece) (at to : Point) (a b : ℕ) → can_join ps at a b ≡ true → are_near_at to ps ≡ true
    → can_join ps to a b ≡ true
joins_too ps at to a b h n =
    let one = and_parts (not (a == b)) (has_copper ps a && (has_copper ps b && are_near_at at ps)) h in
    let two = and_parts (has_copper ps a) (has_copper ps b && are_near_at at ps) one.1 in
    let three = and_parts (has_copper ps b) (are_near_at at ps) two.1 in
    and_from (not (a == b)) (has_copper ps a && (has_copper ps b && are_near_at to ps)) one.0
    (and_from (has_copper ps a) (has_copper ps b && are_near_at to ps) two.0
    (and_from (has_copper ps b) (are_near_at to ps) three.0 n))

-- a via that is there
one_via : (d : Design) (m : Mesh) (g v padstack t : ℕ) (b : Bool) → b ≡ true → IsInsideEach d.bounds (point_of m v)
    → IsCentred d m padstack
    → IsTally d g [] (option_map (λ (w : Move × ℕ). probe_of d m g v w.0 w.1)
    (cond b (Some (Via padstack (slice_index m.layers t), node_at m t (row m v) (column m v))) None)) 0
one_via d m g v padstack t true e h c = none_yet d g (probe.Via padstack (point_of m v))
    (inside_centred d.bounds (point_of m v) (padstack_pieces d padstack) h c.first)
one_via d m g v padstack t false e h c = absurd (false≢true e)

-- the first node of a signal layer lies on it
first_level : (l h w : ℕ) → 0 < h → 0 < w → l * h * w / w / h ≡ l
first_level l h w ph pw =
    let a : l * h * w + 0 ≡ l * h * w = omega arith in
    let b : l * h + 0 ≡ l * h = omega arith in
    ap (λ n. n / w / h) (sym a) ∙ (ap (λ n. n / h) (div-mul-add (l * h) w 0 pw)
    ∙ (ap (λ n. n / h) (sym b) ∙ div-mul-add l h 0 ph))

-- a via of a centred padstack, which is there at the first node of the signal layer
pub via_start : (d : Design) (m : Mesh) (g l i padstack : ℕ) (p : Probe) → 4 ≤ i → 0 < length m.ys → 0 < length m.xs
    → padstack ≡ slice_index (vias_of d g) ((i - 4) / length m.layers) → IsCentred d m padstack
    → Some p ≡ probe_at d m g (l * length m.ys * length m.xs) i → IsStart d m g l i 0
via_start d m g l i padstack p four py px is c there = record { each = λ v hv e h. at v hv e h }
  where
    -- the probe of such a move
    way_is : (v : ℕ) → probe_at d m g v i ≡ option_map (λ (w : Move × ℕ). probe_of d m g v w.0 w.1)
        (via_at d m v padstack ((i - 4) % length m.layers))
    way_is v =
        ap (λ b. option_map (λ (w : Move × ℕ). probe_of d m g v w.0 w.1) (cond b (step_at m v i)
        (via_at d m v (slice_index (vias_of d g) ((i - 4) / length m.layers)) ((i - 4) % length m.layers))))
        (le-ltb i 4 four)
        ∙ ap (λ k. option_map (λ (w : Move × ℕ). probe_of d m g v w.0 w.1)
        (via_at d m v k ((i - 4) % length m.layers))) (sym is)

    at : (v : ℕ) → v < node_count m → level m v ≡ l → IsPlain d m (row m v) (column m v)
        → IsTally d g [] (probe_at d m g v i) 0
    at v hv e h =
        let u = l * length m.ys * length m.xs in
        let to = slice_index m.layers ((i - 4) % length m.layers) in
        let joined = passed (λ (w : Move × ℕ). probe_of d m g u w.0 w.1)
        (can_join (padstack_pieces d padstack) (point_of m u) (layer_of m u) to)
        (Via padstack to, node_at m ((i - 4) % length m.layers) (row m u) (column m u)) p
        (sym (way_is u) ∙ sym there) in
        let same : layer_of m u ≡ layer_of m v =
        ap (slice_index m.layers) (first_level l (length m.ys) (length m.xs) py px ∙ sym e) in
        let too = joins_too (padstack_pieces d padstack) (point_of m u) (point_of m v) (layer_of m v) to
        (subst (λ k. can_join (padstack_pieces d padstack) (point_of m u) k to ≡ true) same joined) (c.near v hv) in
        subst (λ (o : Option Probe). IsTally d g [] o 0) (sym (way_is v))
        (one_via d m g v padstack ((i - 4) % length m.layers)
        (can_join (padstack_pieces d padstack) (point_of m v) (layer_of m v) to) too h.inside c)

-- ---- the counts of a plain node
-- none at first
pub starts_first : (d : Design) (m : Mesh) (g l to : ℕ) (xs : List ℕ) → xs ≡ [] → to ≡ 0 → AreStarts d m g l to xs
starts_first d m g l to xs e z = record { size = ap length e ∙ sym z; each = λ i h. absurd (never i to h z) }
  where
    never : (x t : ℕ) → x < t → t ≡ 0 → ⊥
    never x t l z = omega (arith, l, z)

-- and the next
pub starts_next : (d : Design) (m : Mesh) (g l i n : ℕ) (xs ys : List ℕ) → AreStarts d m g l i xs
    → IsStart d m g l i n → ys ≡ xs ++ n ∷ [] → AreStarts d m g l (i + 1) ys
starts_next d m g l i n xs ys f s e = record {
  size = ap length e ∙ length-append xs (n ∷ []) ∙ ap (λ x. x + 1) f.size;
  each = λ j h. at j h (nat_lt j i) refl;
}
  where
    here : (xs : List ℕ) (x n : ℕ) → length xs ≡ x → slice_index (xs ++ n ∷ []) x ≡ n
    here xs x n e = ap (λ k. slice_index (xs ++ n ∷ []) k) (sym e) ∙ front xs n
      where
        front : (xs : List ℕ) (n : ℕ) → slice_index (xs ++ n ∷ []) (length xs) ≡ n
        front [] n = refl
        front (x ∷ xs) n = front xs n

    below : (x y k : ℕ) → k ≡ y → x < y → x < k
    below x y k e l = omega (arith, e, l)

    meet : (j i : ℕ) → j < i + 1 → i ≤ j → i ≡ j
    meet j i h l = omega (arith, h, l)

    at : (j : ℕ) → j < i + 1 → (t : Bool) → nat_lt j i ≡ t → IsStart d m g l j (slice_index ys j)
    at j h true t =
        let low = ltb-true j i t in
        subst (λ x. IsStart d m g l j x) (sym (ap (λ (zs : List ℕ). slice_index zs j) e
        ∙ get_or_append_left xs (n ∷ []) 0 j (below j i (length xs) f.size low))) (f.each j low)
    at j h false t =
        subst (λ x. IsStart d m g l x (slice_index ys x)) (meet j i h (ltb-false j i t))
        (subst (λ x. IsStart d m g l i x) (sym (ap (λ (zs : List ℕ). slice_index zs i) e ∙ here xs i n f.size)) s)

-- ---- node by node
-- the count at a place of a node, plain or not
shown : (d : Design) (m : Mesh) (g v i n : ℕ) (plain : Bool) → v < node_count m
    → (plain ≡ true → IsPlain d m (row m v) (column m v)) → IsStart d m g (level m v) i n
    → IsTally d g [] (probe_at d m g v i) (start_of plain n)
shown d m g v i n true hv h s = s.each v hv refl (h refl)
shown d m g v i n false hv h s = top (probe_at d m g v i)
  where
    top : (o : Option Probe) → IsTally d g [] o 255
    top None = refl
    top (Some p) = inl refl

-- the next node is filled
pub filled_node : (d : Design) (m : Mesh) (g v l : ℕ) (plain : Bool) (starts xs ys : List ℕ) → v < node_count m
    → level m v ≡ l → (plain ≡ true → IsPlain d m (row m v) (column m v))
    → AreStarts d m g l (way_count d m g) starts → IsFilled d m g (v * way_count d m g) xs
    → ys ≡ xs ++ map (start_of plain) starts → IsFilled d m g ((v + 1) * way_count d m g) ys
filled_node d m g v l plain starts xs ys hv el h s f e = record {
  size = ap length e ∙ (length-append xs (map (start_of plain) starts)
      ∙ (ap (λ k. length xs + k) (length-map starts (start_of plain) ∙ s.size)
      ∙ (ap (λ k. k + way_count d m g) f.size ∙ more v (way_count d m g))));
  each = λ w i hi k. at w i hi k (nat_lt (place_at d m g w i) (v * way_count d m g)) refl;
}
  where
    more : (v a : ℕ) → v * a + a ≡ (v + 1) * a
    more v a = omega arith

    below : (x y k : ℕ) → k ≡ y → x < y → x < k
    below x y k e l = omega (arith, e, l)

    meet : (v w : ℕ) → v ≤ w → w < v + 1 → v ≡ w
    meet v w h l = omega (arith, h, l)

    -- what stands behind a list
    behind : (xs ts : List ℕ) (x i : ℕ) → length xs ≡ x → slice_index (xs ++ ts) (x + i) ≡ slice_index ts i
    behind xs ts x i e = ap (λ k. slice_index (xs ++ ts) (k + i)) (sym e) ∙ past xs ts i
      where
        drops : (n i : ℕ) → suc n + i ≡ suc (n + i)
        drops n i = omega arith

        past : (xs ts : List ℕ) (i : ℕ) → slice_index (xs ++ ts) (length xs + i) ≡ slice_index ts i
        past [] ts i = ap (slice_index ts) (zeroes i)
          where
            zeroes : (i : ℕ) → 0 + i ≡ i
            zeroes i = omega arith
        past (x ∷ xs) ts i =
            ap (slice_index (x ∷ (xs ++ ts))) (drops (length xs) i) ∙ past xs ts i

    at : (w i : ℕ) → i < way_count d m g → place_at d m g w i < (v + 1) * way_count d m g → (t : Bool)
        → nat_lt (place_at d m g w i) (v * way_count d m g) ≡ t
        → IsTally d g [] (probe_at d m g w i) (slice_index ys (place_at d m g w i))
    at w i hi k true t =
        let low = ltb-true (place_at d m g w i) (v * way_count d m g) t in
        subst (λ x. IsTally d g [] (probe_at d m g w i) x)
        (sym (ap (λ (zs : List ℕ). slice_index zs (place_at d m g w i)) e
        ∙ get_or_append_left xs (map (start_of plain) starts) 0 (place_at d m g w i)
        (below (place_at d m g w i) (v * way_count d m g) (length xs) f.size low))) (f.each w i hi low)
    at w i hi k false t =
        let high = ltb-false (place_at d m g w i) (v * way_count d m g) t in
        let q : v ≡ w =
        meet v w (from_node v (way_count d m g) w i hi high) (to_node (v + 1) (way_count d m g) w i k) in
        let val : slice_index ys (v * way_count d m g + i) ≡ start_of plain (slice_index starts i) =
        ap (λ (zs : List ℕ). slice_index zs (v * way_count d m g + i)) e
        ∙ (behind xs (map (start_of plain) starts) (v * way_count d m g) i f.size
        ∙ get_or-map (start_of plain) starts i 0 0 (below i (way_count d m g) (length starts) s.size hi)) in
        subst (λ x. IsTally d g [] (probe_at d m g x i) (slice_index ys (place_at d m g x i))) q
        (subst (λ x. IsTally d g [] (probe_at d m g v i) x) (sym val)
        (shown d m g v i (slice_index starts i) plain hv h
        (subst (λ x. IsStart d m g x i (slice_index starts i)) (sym el) (s.each i hi))))

-- ---- the places of a node
-- the level, row and column of a node by its places
pub level_is : (h w l j i : ℕ) → j < h → i < w → ((l * h + j) * w + i) / w / h ≡ l
level_is h w l j i hj hi = ap (λ n. n / h) (div-mul-add (l * h + j) w i hi) ∙ div-mul-add l h j hj

pub row_is : (h w l j i : ℕ) → j < h → i < w → ((l * h + j) * w + i) / w % h ≡ j
row_is h w l j i hj hi = ap (λ n. n % h) (div-mul-add (l * h + j) w i hi) ∙ mod-mul-add l h j hj

pub column_is : (h w l j i : ℕ) → i < w → ((l * h + j) * w + i) % w ≡ i
column_is h w l j i hi = mod-mul-add (l * h + j) w i hi

-- the next node of a line is filled
pub filled_on : (d : Design) (m : Mesh) (g l j i to : ℕ) (plain : Bool) (starts xs ys : List ℕ) → l < length m.layers
    → j < length m.ys → i < length m.xs → (plain ≡ true → IsPlain d m j i)
    → AreStarts d m g l (way_count d m g) starts
    → to ≡ i + 1 → IsFilled d m g (((l * length m.ys + j) * length m.xs + i) * way_count d m g) xs
    → ys ≡ xs ++ map (start_of plain) starts
    → IsFilled d m g (((l * length m.ys + j) * length m.xs + to) * way_count d m g) ys
filled_on d m g l j i to plain starts xs ys hl hj hi h s et f e =
    let v = (l * length m.ys + j) * length m.xs + i in
    let a = level_is (length m.ys) (length m.xs) l j i hj hi in
    let b = row_is (length m.ys) (length m.xs) l j i hj hi in
    let c = column_is (length m.ys) (length m.xs) l j i hi in
    filled_at d m g ((v + 1) * way_count d m g) (((l * length m.ys + j) * length m.xs + to) * way_count d m g) ys
    (ap (λ n. n * way_count d m g) (after ((l * length m.ys + j) * length m.xs) i to et))
    (filled_node d m g v l plain starts xs ys
    (node_below (length m.xs) (length m.ys) (length m.layers) l j i hl hj hi) a
    (λ t. subst (λ x. IsPlain d m x (column m v)) (sym b) (subst (λ x. IsPlain d m j x) (sym c) (h t))) s f e)
  where
    after : (n i to : ℕ) → to ≡ i + 1 → n + i + 1 ≡ n + to
    after n i to e = omega (arith, e)

-- ---- lists of counts
-- the counts of a node, one after another
pub pushed_first : (plain : Bool) (starts xs : List ℕ) → xs ≡ xs ++ map (start_of plain) (take 0 starts)
pushed_first plain starts xs = sym (append-nil xs)

pub pushed_next : (plain : Bool) (starts base xs ys : List ℕ) (k n : ℕ) → k < length starts
    → n ≡ start_of plain (get_or starts k 0) → xs ≡ base ++ map (start_of plain) (take k starts) → ys ≡ xs ++ n ∷ []
    → ys ≡ base ++ map (start_of plain) (take (k + 1) starts)
pushed_next plain starts base xs ys k n h en e f =
    f ∙ (ap (λ (zs : List ℕ). zs ++ n ∷ []) e
    ∙ (append_assoc base (map (start_of plain) (take k starts)) (n ∷ [])
    ∙ ap (λ (zs : List ℕ). base ++ zs) (ap (λ x. map (start_of plain) (take k starts) ++ x ∷ []) en
    ∙ (sym (map-append (start_of plain) (take k starts) (get_or starts k 0 ∷ []))
    ∙ ap (map (start_of plain)) (sym (take_more starts k 0 h))))))

-- ---- the ends of lines and levels
pub first_at : (n a : ℕ) → n * a ≡ (n + 0) * a
first_at n a = ap (λ x. x * a) (zero_more n)
  where
    zero_more : (n : ℕ) → n ≡ n + 0
    zero_more n = omega arith

pub line_over : (l h j w a i : ℕ) → i ≡ w → ((l * h + j) * w + i) * a ≡ (l * h + (j + 1)) * w * a
line_over l h j w a i e = ap (λ x. x * a) (over (l * h + j) w i e ∙ ap (λ x. x * w) (next (l * h) j))
  where
    over : (k w i : ℕ) → i ≡ w → k * w + i ≡ (k + 1) * w
    over k w i e = omega (arith, e)

    next : (n j : ℕ) → n + j + 1 ≡ n + (j + 1)
    next n j = omega arith

pub level_first : (l h w a : ℕ) → l * h * w * a ≡ (l * h + 0) * w * a
level_first l h w a = ap (λ x. x * w * a) (zero_more (l * h))
  where
    zero_more : (n : ℕ) → n ≡ n + 0
    zero_more n = omega arith

pub level_over : (l h j w a : ℕ) → j ≡ h → (l * h + j) * w * a ≡ (l + 1) * h * w * a
level_over l h j w a e = ap (λ x. x * w * a) (over l h j e)
  where
    over : (k w i : ℕ) → i ≡ w → k * w + i ≡ (k + 1) * w
    over k w i e = omega (arith, e)

pub none_first : (h w a : ℕ) → 0 * h * w * a ≡ 0
none_first h w a = ap (λ x. x * w * a) (none h) ∙ (ap (λ x. x * a) (none w) ∙ none a)
  where
    none : (n : ℕ) → 0 * n ≡ 0
    none n = omega arith

-- the ends of loops
pub ended : (i n : ℕ) → i ≤ n → n ≤ i → i ≡ n
ended i n h k = omega (arith, h, k)

-- the first node of a level is small, and there
pub level_node : (layers h w level : ℕ) → 0 < layers * h * w → layers * h * w ≤ 2 ^ 24 → level < layers
    → (level * h * w < layers * h * w) × (0 < h) × (0 < w)
level_node layers h w level p s l =
    let pw = width_positive w (layers * h) 0 p in
    let ph = width_positive h layers 0 (some (layers * h) w p) in
    let a = mul-add-lt level h 0 layers l ph in
    let b = mul-add-lt (level * h) w 0 (layers * h) (omega (arith, a)) pw in
    (omega (arith, b), ph, pw)
  where
    some : (n w : ℕ) → 0 < n * w → 0 < n
    some zero w h = absurd (omega (arith, h))
    some (suc n) w h = omega arith
