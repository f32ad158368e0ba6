-- The list of a printed wire or via reads as its copper, without a refusal.
use Rattle.std.proofs.Common.{◌≡◌, inl, inr, ◌∙◌, ap, ap₂, ℕ, ℤ, pos, suc, ◌+◌, ◌*◌, ◌^◌, ◌<◌, ◌≤◌, ◌-◌, ◌/◌, Bool}
use Rattle.std.proofs.Common.{true, false, cond, ◌||◌, List, [], ◌∷◌, ◌++◌, map, length, drop, refl, arith, Some, None}
use Rattle.std.specs.Prelude.{◌+ℤ◌, All, Option, codes, filter, is_some, min, not, slice_get, unsigned_abs, unwrap_or}
use Rattle.std.specs.Fmt.{signed_decimal}
use Rattle.std.specs.List.{flat_map, list_any}
use Rattle.std.specs.Option.{IsSomeAnd, option_map_or}
use Rattle.std.proofs.lemmas.Bool.{le-ltb}
use Rattle.std.proofs.lemmas.Bool.Decides.{nat_tests}
use Rattle.std.proofs.lemmas.List.{length-reverse}
use Rattle.std.proofs.lemmas.List.Elements.{All-head, All-tail}
use Rattle.geo_kernel.specs.declared.point.Point.{Point}
use Rattle.geo_kernel.specs.declared.spine.Spine.{Spine}
use Rattle.geo_kernel.specs.declared.spine.Spine.TheVariants.{Chain, Area}
use Rattle.geo_kernel.specs.Plane.{IsWithin}
use Rattle.geo_kernel.specs.Spine.{IsSpineWithin}
use Rattle.geo_kernel.specs.Moved.{moved, moved_spine}
use Rattle.pcb_model.specs.declared.item.Metal.TheVariants.{Wire, Via}
use Rattle.pcb_model.specs.declared.item.Piece.{Piece}
use Rattle.pcb_model.specs.declared.design.BoardLayer.{BoardLayer}
use Rattle.pcb_model.specs.declared.design.Padstack.{Padstack}
use Rattle.pcb_model.specs.declared.design.Design.{Design}
use Rattle.pcb_model.specs.Sound.{HasDistinctNames, HasFewParts, origin}
use Rattle.dsn_tree.specs.declared.tree.Tree.{Tree}
use Rattle.dsn_tree.specs.Heads.{is_headed}
use Rattle.dsn_units.specs.Reading.{decimal_of}
use Rattle.dsn_shapes.specs.declared.refusal.Refusal.{Refusal}
use Rattle.dsn_shapes.specs.Refusals.{refused}
use Rattle.dsn_shapes.specs.Forms.{points_of}
use Rattle.dsn_shapes.specs.Lists.{at_of, is_word, place_of, words_of}
use Rattle.dsn_shapes.specs.Names.{first_place, place_index}
use Rattle.dsn_shapes.specs.Numbers.{number_by}
use Rattle.dsn_wiring.specs.Vias.{is_past, point_by, spine_past}
use Rattle.dsn_wiring.specs.Wires.{no_wire, paths_in}
use Rattle.ses_writer.specs.Words.{directed}
use Rattle.ses_writer.specs.Words as printing
use Rattle.session_law.proofs.ToldNumbers.{IsExact, near}
use Rattle.session_law.proofs.ToldPoints.{IsExactPoint, directed_is, exact_x, exact_y}
use Rattle.session_law.proofs.BackMeasured.{Measure}
use Rattle.ses_reader.specs.Names.{layer_names, padstack_names}
use Rattle.ses_reader.specs.Measures.{coord_at, coord_of, coord_refusal, extent_at, extent_of, extent_refusal}
use Rattle.ses_reader.specs.Measures.{refused_unless, word_coord, word_extent, word_refusal}
use Rattle.ses_reader.specs.Copper.{chain_in, has_points, is_stack_past, is_via_past, layer_index, layer_place}
use Rattle.ses_reader.specs.Copper.{metal_of, metal_refusals, number_refusals, numbers_in, only, padstack_at}
use Rattle.ses_reader.specs.Copper.{padstack_place, path_metal, path_refusals, via_metal, via_point, via_refusals}
use Rattle.ses_reader.specs.Copper.{wire_metal, wire_refusals}
use Rattle.ses_reader.specs.Sound.{IsStackNear}
use Rattle.session_law.specs.Shape.{group_tree, layer_tree, number_tree, padstack_tree, point_trees, word_tree}
use Rattle.session_law.proofs.BackNumbers.{IsScaled, coord_back, extent_back}
use Rattle.session_law.proofs.BackGroups.{headed, here, lists_are, name_is, text_is, word_first, words_are}
use Rattle.session_law.proofs.BackNamed.{name_at}

-- ---- refusals
-- where something holds there is none
pub unless_none : (b : Bool) (number at : ℕ) → b ≡ true → refused_unless b number at ≡ []
unless_none b number at e = ap (λ (t : Bool). refused_unless t number at) e

-- two lists without any
pub both_none : (xs ys : List Refusal) → xs ≡ [] → ys ≡ [] → xs ++ ys ≡ []
both_none xs ys e f = λ i. e i ++ f i

-- ---- chains in their printed direction
-- one is as long as the chain
pub directed_long : (ps : List Point) → length (directed ps) ≡ length ps
directed_long ps = elim (directed_is ps) [
  | inl e ↦ ap length e
  | inr e ↦ ap length e ∙ length-reverse ps
]

-- the words of some points
abbrev words : ℕ → List Point → List Tree
words nm ps = flat_map (point_trees nm) ps

module _ (m : Measure) (nm : ℕ) (scaled : IsScaled m nm) where
  -- ---- numbers
  -- a printed coordinate is read
  number_back : (x : ℤ) → IsExact nm x → word_coord m (number_tree nm x) ≡ Some x
  number_back x h =
      let n = near nm x scaled.some_nm h.whole in
      ap (λ (text : List ℕ). number_by (coord_of m) (decimal_of text))
      (text_is (signed_decimal (printing.nearest nm x)))
      ∙ coord_back m nm scaled (printing.nearest nm x) x n.small n.back h.small

  -- a printed width is read
  width_back : (w : ℕ) → IsExact nm (pos w) → w ≤ 2 ^ 28 → word_extent m (number_tree nm (pos w)) ≡ Some w
  width_back w h small =
      let n = near nm (pos w) scaled.some_nm h.whole in
      let k = (2 * w + nm) / (2 * nm) in
      let back : w ≡ k * nm = ap unsigned_abs n.back in
      ap (λ (text : List ℕ). number_by (extent_of m) (decimal_of text))
      (text_is (signed_decimal (printing.nearest nm (pos w))))
      ∙ extent_back m nm scaled k w n.small back small

  -- ---- points
  -- are words
  all_words : (ps : List Point) → filter is_word (words nm ps) ≡ words nm ps
  all_words [] = refl
  all_words (p ∷ ps) = word_first (signed_decimal (printing.nearest nm p.x)) (number_tree nm p.y ∷ words nm ps)
      ∙ ap (λ (ts : List Tree). number_tree nm p.x ∷ ts)
      (word_first (signed_decimal (printing.nearest nm p.y)) (words nm ps)
      ∙ ap (λ (ts : List Tree). number_tree nm p.y ∷ ts) (all_words ps))

  -- two for each
  two_each : (ps : List Point) → length (words nm ps) ≡ 2 * length ps
  two_each [] = refl
  two_each (p ∷ ps) = omega (arith, two_each ps)

  -- they are read
  points_back : (ps : List Point) → All (IsExactPoint nm) ps → points_of (map (word_coord m) (words nm ps)) ≡ ps
  points_back [] h = refl
  points_back (p ∷ ps) h =
      let exact = All-head (IsExactPoint nm) p ps h in
      let x = number_back p.x (exact_x nm p exact) in
      let y = number_back p.y (exact_y nm p exact) in
      let rest = points_back ps (All-tail (IsExactPoint nm) p ps h) in
      λ i. record { x = unwrap_or (x i) (pos 0); y = unwrap_or (y i) (pos 0) } ∷ rest i

  -- a number that is read isn't refused
  number_kept : (x : ℤ) → IsExact nm x → word_refusal m (number_tree nm x) ≡ []
  number_kept x h = unless_none (is_some (word_coord m (number_tree nm x))) 2 (at_of (number_tree nm x))
      (ap is_some (number_back x h))

  -- none of these is refused
  points_kept : (ps : List Point) → All (IsExactPoint nm) ps → flat_map (word_refusal m) (words nm ps) ≡ []
  points_kept [] h = refl
  points_kept (p ∷ ps) h =
      let exact = All-head (IsExactPoint nm) p ps h in
      let x = number_kept p.x (exact_x nm p exact) in
      let y = number_kept p.y (exact_y nm p exact) in
      let rest = points_kept ps (All-tail (IsExactPoint nm) p ps h) in
      λ i. x i ++ (y i ++ rest i)

-- ---- vertices within the limit
-- where each fails a test, none passes it
none_passes : {X : Type 0} (test : X → Bool) (P : X → Type 0) → ((x : X) → P x → test x ≡ false) → (xs : List X)
    → All P xs → list_any test xs ≡ false
none_passes test P h [] all = refl
none_passes test P h (x ∷ xs) all = ap₂ (λ (a b : Bool). a || b) (h x (All-head P x xs all))
    (none_passes test P h xs (All-tail P x xs all))

-- the same of elements that a function gives
none_passes_of : {X Y : Type 0} (test : X → Bool) (f : X → Y) (P : Y → Type 0) → ((x : X) → P (f x) → test x ≡ false)
    → (xs : List X) → All P (map f xs) → list_any test xs ≡ false
none_passes_of test f P h [] all = refl
none_passes_of test f P h (x ∷ xs) all = ap₂ (λ (a b : Bool). a || b) (h x (All-head P (f x) (map f xs) all))
    (none_passes_of test f P h xs (All-tail P (f x) (map f xs) all))

-- a vertex
vertex_near : (at p : Point) → IsWithin (2 ^ 29) (moved at p) → is_past at p ≡ false
vertex_near at p h = ap₂ (λ (a b : Bool). a || b) (le-ltb (2 ^ 29) (unsigned_abs (p.x +ℤ at.x)) h.0)
    (le-ltb (2 ^ 29) (unsigned_abs (p.y +ℤ at.y)) h.1)

-- a spine
spine_near : (at : Point) (s : Spine) → IsSpineWithin (2 ^ 29) (moved_spine at s) → spine_past at s ≡ false
spine_near at (Chain ps) h = none_passes_of (is_past at) (moved at) (IsWithin (2 ^ 29)) (vertex_near at) ps h
spine_near at (Area loops) h = none_passes_of (list_any (is_past at)) (map (moved at)) (All (IsWithin (2 ^ 29)))
    (none_passes_of (is_past at) (moved at) (IsWithin (2 ^ 29)) (vertex_near at)) loops h

-- a padstack that is there
stack_near : (at : Point) (o : Option Padstack) → IsSomeAnd o (IsStackNear at)
    → option_map_or (is_stack_past at) o false ≡ false
stack_near at None h = absurd h
stack_near at (Some s) h = none_passes (λ (c : Piece). spine_past at c.spine)
    (λ (c : Piece). IsSpineWithin (2 ^ 29) (moved_spine at c.spine)) (λ c. spine_near at c.spine) s.pieces h

-- two points or more
has_many : (n count : ℕ) → 2 ≤ n → count ≡ 3 + 2 * n → has_points count ≡ true
has_many n count h e = grind (arith, nat_tests)

module _ (d : Design) (m : Measure) (nm : ℕ) (scaled : IsScaled m nm) (differ : HasDistinctNames d)
    (few : HasFewParts d) where
  -- ---- a path
  -- the list of a path
  abbrev path_tree : ℕ → ℕ → List Point → Tree
  path_tree l w ps = group_tree (codes "path") (layer_tree d l ∷ number_tree nm (pos w) ∷ words nm ps)

  -- its words
  path_words : (l w : ℕ) (ps : List Point) → words_of (path_tree l w ps)
      ≡ word_tree (codes "path") ∷ layer_tree d l ∷ number_tree nm (pos w) ∷ words nm ps
  path_words l w ps = words_are (codes "path") (layer_tree d l ∷ number_tree nm (pos w) ∷ words nm ps)
      ∙ ap (λ (ts : List Tree). word_tree (codes "path") ∷ ts)
      (word_first (option_map_or (λ (b : BoardLayer). b.name) (slice_get d.layers l) [])
      (number_tree nm (pos w) ∷ words nm ps)
      ∙ ap (λ (ts : List Tree). layer_tree d l ∷ ts)
      (word_first (signed_decimal (printing.nearest nm (pos w))) (words nm ps)
      ∙ ap (λ (ts : List Tree). number_tree nm (pos w) ∷ ts) (all_words m nm scaled ps)))

  -- enough of them
  path_long : (l w : ℕ) (ps : List Point) → 2 ≤ length ps
      → has_points (length (words_of (path_tree l w ps))) ≡ true
  path_long l w ps h = ap (λ (ts : List Tree). has_points (length ts)) (path_words l w ps)
      ∙ has_many (length ps) (suc (suc (suc (length (words nm ps))))) h (omega (arith, two_each m nm scaled ps))

  -- its layer
  path_layer : (l w : ℕ) (ps : List Point) → l < length d.layers → layer_place d (path_tree l w ps) ≡ Some l
  path_layer l w ps within = ap (λ (name : List ℕ). first_place name (layer_names d))
      (name_is (codes "path") (option_map_or (λ (b : BoardLayer). b.name) (slice_get d.layers l) [])
      (number_tree nm (pos w) ∷ words nm ps))
      ∙ name_at (λ (b : BoardLayer). b.name) d.layers l differ.layers within

  -- its width
  path_width : (l w : ℕ) (ps : List Point) → IsExact nm (pos w) → w ≤ 2 ^ 28
      → extent_at m (path_tree l w ps) 2 ≡ Some w
  path_width l w ps exact small =
      ap (λ (ts : List Tree). option_map_or (word_extent m) (slice_get ts 2) None) (path_words l w ps)
      ∙ width_back m nm scaled w exact small

  -- its points
  path_chain : (l w : ℕ) (ps : List Point) → All (IsExactPoint nm) ps → chain_in m (path_tree l w ps) ≡ ps
  path_chain l w ps h = ap (λ (ts : List Tree). points_of (map (word_coord m) (drop 3 ts))) (path_words l w ps)
      ∙ points_back m nm scaled ps h

  -- its copper
  path_back : (l w : ℕ) (ps : List Point) → l < length d.layers → IsExact nm (pos w) → w ≤ 2 ^ 28 → 2 ≤ length ps
      → All (IsExactPoint nm) ps → path_metal d m (path_tree l w ps) ≡ Wire l w ps
  unfolding path_metal
  path_back l w ps within exact small long h =
      let many = path_long l w ps long in
      let layer = path_layer l w ps within in
      let width = path_width l w ps exact small in
      let chain = path_chain l w ps h in
      (λ i. cond (many i) (Wire (layer_index (unwrap_or (layer i) 0)) (unwrap_or (width i) 0) (chain i)) no_wire)
      ∙ ap (λ (k : ℕ). Wire k w ps) (let e : min l 255 ≡ l = omega (arith, within, few.few_layers) in e)

  -- without refusals
  path_none : (l w : ℕ) (ps : List Point) → l < length d.layers → IsExact nm (pos w) → w ≤ 2 ^ 28 → 2 ≤ length ps
      → All (IsExactPoint nm) ps → path_refusals d m (path_tree l w ps) ≡ []
  unfolding path_refusals
  path_none l w ps within exact small long h =
      let t = path_tree l w ps in
      let many = path_long l w ps long in
      let numbers : flat_map (word_refusal m) (numbers_in t) ≡ [] =
      ap (λ (ts : List Tree). flat_map (word_refusal m) (drop 3 ts)) (path_words l w ps)
      ∙ points_kept m nm scaled ps h in
      both_none (refused_unless (is_some (layer_place d t)) 4 (place_of t 1))
      (cond (has_points (length (words_of t))) (number_refusals m t) (refused 6 (at_of t) ∷ []))
      (unless_none (is_some (layer_place d t)) 4 (place_of t 1) (ap is_some (path_layer l w ps within)))
      (ap (λ (b : Bool). cond b (number_refusals m t) (refused 6 (at_of t) ∷ [])) many
      ∙ both_none (extent_refusal m t 2) (flat_map (word_refusal m) (numbers_in t))
      (unless_none (is_some (extent_at m t 2)) 2 (place_of t 2) (ap is_some (path_width l w ps exact small))) numbers)

  -- ---- a wire
  -- the path of a wire
  wire_path : (l w : ℕ) (ps : List Point)
      → paths_in (group_tree (codes "wire") (path_tree l w ps ∷ [])) ≡ path_tree l w ps ∷ []
  wire_path l w ps = lists_are (codes "path" ∷ []) (codes "wire") (path_tree l w ps ∷ [])
      ∙ here (codes "path" ∷ []) (codes "path") (layer_tree d l ∷ number_tree nm (pos w) ∷ words nm ps) [] refl

  -- a wire is no via
  no_via : (ts : List Tree) → is_headed (codes "via") (group_tree (codes "wire") ts) ≡ false
  no_via ts = headed (codes "via") (codes "wire") ts

  -- what a wire's parts have to be
  pub record IsWire (l w : ℕ) (ps : List Point) : Type 0 where
    pub within : l < length d.layers
    pub exact : IsExact nm (pos w)
    pub small : w ≤ 2 ^ 28
    pub long : 2 ≤ length ps
    pub points : All (IsExactPoint nm) ps

  -- its copper
  pub wire_back : (l w : ℕ) (ps : List Point) → IsWire l w ps
      → metal_of d m (group_tree (codes "wire") (path_tree l w ps ∷ [])) ≡ Wire l w ps
  unfolding metal_of wire_metal
  wire_back l w ps h =
      let t = group_tree (codes "wire") (path_tree l w ps ∷ []) in
      ap (λ (b : Bool). cond b (via_metal d m t) (wire_metal d m t)) (no_via (path_tree l w ps ∷ []))
      ∙ ap (λ (ts : List Tree). option_map_or (path_metal d m) (only ts) no_wire) (wire_path l w ps)
      ∙ path_back l w ps h.within h.exact h.small h.long h.points

  -- without refusals
  pub wire_none : (l w : ℕ) (ps : List Point) → IsWire l w ps
      → metal_refusals d m (group_tree (codes "wire") (path_tree l w ps ∷ [])) ≡ []
  unfolding metal_refusals wire_refusals
  wire_none l w ps h =
      let t = group_tree (codes "wire") (path_tree l w ps ∷ []) in
      ap (λ (b : Bool). cond b (via_refusals d m t) (wire_refusals d m t)) (no_via (path_tree l w ps ∷ []))
      ∙ ap (λ (ts : List Tree). option_map_or (path_refusals d m) (only ts) (refused 6 (at_of t) ∷ []))
      (wire_path l w ps)
      ∙ path_none l w ps h.within h.exact h.small h.long h.points

  -- ---- a via
  abbrev the_via : ℕ → Point → Tree
  the_via k at = group_tree (codes "via") (padstack_tree d k ∷ point_trees nm at)

  -- its words
  via_words : (k : ℕ) (at : Point) → words_of (the_via k at)
      ≡ word_tree (codes "via") ∷ padstack_tree d k ∷ point_trees nm at
  via_words k at = words_are (codes "via") (padstack_tree d k ∷ point_trees nm at)
      ∙ ap (λ (ts : List Tree). word_tree (codes "via") ∷ ts)
      (word_first (option_map_or (λ (s : Padstack). s.name) (slice_get d.padstacks k) []) (point_trees nm at)
      ∙ ap (λ (ts : List Tree). padstack_tree d k ∷ ts) (all_words m nm scaled (at ∷ [])))

  -- what a via's parts have to be
  pub record IsVia (k : ℕ) (at : Point) : Type 0 where
    pub within : k < length d.padstacks
    pub exact : IsExactPoint nm at
    pub near : IsSomeAnd (slice_get d.padstacks k) (IsStackNear at)

  -- its padstack
  via_stack : (k : ℕ) (at : Point) → IsVia k at → padstack_place d (the_via k at) ≡ Some k
  via_stack k at h = ap (λ (name : List ℕ). first_place name (padstack_names d))
      (name_is (codes "via") (option_map_or (λ (s : Padstack). s.name) (slice_get d.padstacks k) [])
      (point_trees nm at))
      ∙ name_at (λ (s : Padstack). s.name) d.padstacks k differ.padstacks h.within

  -- its x
  via_x : (k : ℕ) (at : Point) → IsVia k at → coord_at m (the_via k at) 2 ≡ Some at.x
  via_x k at h = ap (λ (ts : List Tree). option_map_or (word_coord m) (slice_get ts 2) None) (via_words k at)
      ∙ number_back m nm scaled at.x (exact_x nm at h.exact)

  -- its y
  via_y : (k : ℕ) (at : Point) → IsVia k at → coord_at m (the_via k at) 3 ≡ Some at.y
  via_y k at h = ap (λ (ts : List Tree). option_map_or (word_coord m) (slice_get ts 3) None) (via_words k at)
      ∙ number_back m nm scaled at.y (exact_y nm at h.exact)

  -- its place
  via_at : (k : ℕ) (at : Point) → IsVia k at → via_point m (the_via k at) ≡ Some at
  unfolding via_point
  via_at k at h =
      let x = via_x k at h in
      let y = via_y k at h in
      λ i. point_by (x i) (y i)

  -- its copper
  pub via_back : (k : ℕ) (at : Point) → IsVia k at → metal_of d m (the_via k at) ≡ Via k at
  unfolding metal_of via_metal
  via_back k at h =
      let t = the_via k at in
      let stack = via_stack k at h in
      let place = via_at k at h in
      ap (λ (b : Bool). cond b (via_metal d m t) (wire_metal d m t))
      (headed (codes "via") (codes "via") (padstack_tree d k ∷ point_trees nm at))
      ∙ (λ i. Via (place_index (unwrap_or (stack i) 0)) (unwrap_or (place i) origin))
      ∙ ap (λ (n : ℕ). Via n at)
      (let e : min k (2 ^ 32 - 1) ≡ k = omega (arith, h.within, few.few_padstacks) in e)

  -- its vertices are within the limit
  via_near : (k : ℕ) (at : Point) → IsVia k at
      → is_via_past (padstack_at d (padstack_place d (the_via k at))) (via_point m (the_via k at)) ≡ false
  unfolding is_via_past
  via_near k at h =
      let stack = via_stack k at h in
      let place = via_at k at h in
      (λ i. is_via_past (padstack_at d (stack i)) (place i)) ∙ stack_near at (slice_get d.padstacks k) h.near

  -- without refusals
  pub via_none : (k : ℕ) (at : Point) → IsVia k at → metal_refusals d m (the_via k at) ≡ []
  unfolding metal_refusals via_refusals
  via_none k at h =
      let t = the_via k at in
      let past = refused_unless (not (is_via_past (padstack_at d (padstack_place d t)) (via_point m t))) 2 (at_of t) in
      ap (λ (b : Bool). cond b (via_refusals d m t) (wire_refusals d m t))
      (headed (codes "via") (codes "via") (padstack_tree d k ∷ point_trees nm at))
      ∙ both_none (refused_unless (is_some (padstack_place d t)) 5 (place_of t 1))
      (coord_refusal m t 2 ++ (coord_refusal m t 3 ++ past))
      (unless_none (is_some (padstack_place d t)) 5 (place_of t 1) (ap is_some (via_stack k at h)))
      (both_none (coord_refusal m t 2) (coord_refusal m t 3 ++ past)
      (unless_none (is_some (coord_at m t 2)) 2 (place_of t 2) (ap is_some (via_x k at h)))
      (both_none (coord_refusal m t 3) past
      (unless_none (is_some (coord_at m t 3)) 2 (place_of t 3) (ap is_some (via_y k at h)))
      (unless_none (not (is_via_past (padstack_at d (padstack_place d t)) (via_point m t))) 2 (at_of t)
      (ap not (via_near k at h)))))
