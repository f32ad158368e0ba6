-- The board of a session: its ids count up, and it serves the design.
use Rattle.std.proofs.Common.{◌≡◌, inl, inr, ℕ, zero, suc, ◌+◌, ◌<◌, ◌≤◌, ◌^◌, Bool, true, false, cond, List, [], ◌∷◌}
use Rattle.std.proofs.Common.{◌++◌, Option, Some, None, refl, sym, ap, ◌∙◌, subst, arith, All, length, get_or}
use Rattle.std.proofs.Common.{map, filter}
use Rattle.std.specs.Prelude.{Contains, if◌then◌else◌, slice_get}
use Rattle.std.specs.Option.{IsSomeAnd}
use Rattle.std.proofs.lemmas.List.{length-map}
use Rattle.std.proofs.lemmas.List.Elements.{All-append, All-cons, All-contains, All-head, All-map, All-nil}
use Rattle.std.proofs.lemmas.List.Elements.{All-tail, All-weaker, Contains-get_or}
use Rattle.std.proofs.lemmas.Option.{same_Some, slice_get-get_or, slice_get_within}
use Rattle.geo_kernel.specs.declared.point.Point.{Point}
use Rattle.geo_kernel.specs.declared.spine.Spine.{Spine}
use Rattle.geo_kernel.specs.declared.spine.Spine.TheVariants.{Chain, Area}
use Rattle.geo_kernel.specs.Spine.{IsWellFormed, IsSpineWithin}
use Rattle.geo_kernel.specs.Moved.{moved, moved_spine}
use Rattle.pcb_model.specs.declared.item.Piece.{Piece}
use Rattle.pcb_model.specs.declared.item.Metal.{Metal}
use Rattle.pcb_model.specs.declared.item.Metal.TheVariants.{Wire, Via, Pad, Ban}
use Rattle.pcb_model.specs.declared.item.Item.{Item}
use Rattle.pcb_model.specs.declared.design.Padstack.{Padstack}
use Rattle.pcb_model.specs.declared.design.Design.{Design}
use Rattle.pcb_model.specs.Bounds.{IsFit}
use Rattle.pcb_model.specs.Pieces.{wire_piece, moved_piece, pieces_in, padstack_pieces, item_of}
use Rattle.pcb_model.specs.Board.{is_fixed}
use Rattle.pcb_model.specs.Copper.{Ascends}
use Rattle.pcb_model.specs.Sound.{IsSound, IsItemOf, IsLayerOf, Serves}
use Rattle.pcb_islands.proofs.Elements.{in_none, in_here, in_later, in_cons}
use Rattle.ses_reader.specs.declared.item.SesItem.{SesItem}
use Rattle.ses_reader.specs.Sound.{IsCopperSound, IsItemSound, IsStackNear}
use Rattle.route_check.specs.Board.{is_same, without, left_of, numbered, board_of}

-- ---- what is left of a session
-- is of the session
in_without : (a : Item) (xs : List SesItem) (x : SesItem) → Contains (without a xs) x → Contains xs x
in_without a [] x h = h
in_without a (y ∷ xs) x h = by (is_same a y) (in_without a xs x) h
  where
    by : (b : Bool) → (Contains (without a xs) x → Contains xs x) → Contains (if b then xs else y ∷ without a xs) x
        → Contains (y ∷ xs) x
    by true f k = in_later y x xs k
    by false f k = elim (in_cons y x (without a xs) k) [
      | inl same ↦ subst (Contains (y ∷ xs)) same (in_here y xs)
      | inr more ↦ in_later y x xs (f more)
    ]

-- also behind several fixed items
pub in_left : (fixed : List Item) (xs : List SesItem) (x : SesItem) → Contains (left_of fixed xs) x → Contains xs x
in_left [] xs x h = h
in_left (a ∷ fixed) xs x h = in_without a xs x (in_left fixed (without a xs) x h)

-- so they are sound as all are
pub left_sound : (d : Design) (xs : List SesItem) → All (IsItemSound d) xs → All (IsItemSound d) (left_of d.fixed xs)
left_sound d xs h = λ i x within.
    let left = left_of d.fixed xs in
    All-contains (IsItemSound d) xs (get_or left i x) h
    (in_left d.fixed xs (get_or left i x) (Contains-get_or left i x within))

-- ---- the session's items on the board
pub record IsNumbered (d : Design) (xs : List SesItem) (a : Item) : Type 0 where
  pub x : SesItem
  pub there : Contains xs x
  pub id : ℕ
  pub is : a ≡ item_of d id (Some x.net) false x.metal

-- each is what its metal makes
pub is_numbered : (d : Design) (id : ℕ) (xs : List SesItem) (a : Item) → Contains (numbered d id xs) a
    → IsNumbered d xs a
is_numbered d id [] a h = absurd (in_none a h)
is_numbered d id (x ∷ xs) a h =
    elim (in_cons (item_of d id (Some x.net) false x.metal) a (numbered d (id + 1) xs) h) [
      | inl same ↦ record { x = x; there = in_here x xs; id = id; is = sym same }
      | inr more ↦ let r = is_numbered d (id + 1) xs a more in
          record { x = r.x; there = in_later x r.x xs r.there; id = r.id; is = r.is }
    ]

-- none is fixed
pub none_fixed : (d : Design) (id : ℕ) (xs : List SesItem) → filter is_fixed (numbered d id xs) ≡ []
none_fixed d id [] = refl
none_fixed d id (x ∷ xs) = none_fixed d (id + 1) xs

-- so those that are fixed are those before them
all_fixed : (fixed rest : List Item) → All (λ (a : Item). a.fixed ≡ true) fixed → filter is_fixed rest ≡ []
    → filter is_fixed (fixed ++ rest) ≡ fixed
all_fixed [] rest h none = none
all_fixed (a ∷ fixed) rest h none =
    ap (λ (b : Bool). cond b (a ∷ filter is_fixed (fixed ++ rest)) (filter is_fixed (fixed ++ rest)))
    (All-head (λ (x : Item). x.fixed ≡ true) a fixed h)
    ∙ ap (λ (is : List Item). a ∷ is)
    (all_fixed fixed rest (All-tail (λ (x : Item). x.fixed ≡ true) a fixed h) none)

-- they are the design's
pub fixed_stay : (d : Design) (xs : List SesItem) → All (λ (a : Item). a.fixed ≡ true) d.fixed
    → filter is_fixed (board_of d xs) ≡ d.fixed
fixed_stay d xs h = all_fixed d.fixed (numbered d (length d.fixed) (left_of d.fixed xs)) h
    (none_fixed d (length d.fixed) (left_of d.fixed xs))

-- ---- ids that count up
abbrev pub CountFrom : ℕ → List Item → Type 0
CountFrom id [] = Unit {0}
CountFrom id (a ∷ items) = (a.id ≡ id) × CountFrom (id + 1) items

-- those of a list and of another one behind it
count_on : (id : ℕ) (xs ys : List Item) → CountFrom id xs → CountFrom (id + length xs) ys → CountFrom id (xs ++ ys)
count_on id [] ys h k = subst (λ (n : ℕ). CountFrom n ys) (let e : id + 0 ≡ id = omega arith in e) k
count_on id (a ∷ xs) ys h k = (
  h.0,
  count_on (id + 1) xs ys h.1
      (subst (λ (n : ℕ). CountFrom n ys)
      (let e : id + length (a ∷ xs) ≡ id + 1 + length xs = omega arith in e) k),
)

-- those of the session's items
numbered_count : (d : Design) (id : ℕ) (xs : List SesItem) → CountFrom id (numbered d id xs)
numbered_count d id [] = tt
numbered_count d id (x ∷ xs) = (refl, numbered_count d (id + 1) xs)

-- those of items whose ids are their places
fixed_count : (id : ℕ) (items : List Item) → ((i : ℕ) (a : Item) → slice_get items i ≡ Some a → a.id ≡ id + i)
    → CountFrom id items
fixed_count id [] h = tt
fixed_count id (a ∷ items) h = (
  h 0 a refl ∙ (let e : id + 0 ≡ id = omega arith in e),
  fixed_count (id + 1) items (λ i b at. h (suc i) b at ∙ (let e : id + suc i ≡ id + 1 + i = omega arith in e)),
)

-- the item at a place has the place's id
pub count_at : (id : ℕ) (items : List Item) → CountFrom id items → (i : ℕ) (x : Item) → i < length items
    → (get_or items i x).id ≡ id + i
count_at id [] h i x within = absurd (omega (arith, within))
count_at id (a ∷ items) h zero x within = h.0 ∙ (let e : id ≡ id + 0 = omega arith in e)
count_at id (a ∷ items) h (suc i) x within =
    count_at (id + 1) items h.1 i x (omega (arith, within)) ∙ (let e : id + 1 + i ≡ id + suc i = omega arith in e)

module _ (d : Design) (sound : IsSound d) where
  -- the design's fixed items are fixed
  fixed_there : All (λ (a : Item). a.fixed ≡ true) d.fixed
  fixed_there = λ i x within. (sound.fixed i (get_or d.fixed i x) (slice_get-get_or d.fixed i x within)).fixed

  -- the ids of a board count up from 0
  pub board_counts : (xs : List SesItem) → CountFrom 0 (board_of d xs)
  board_counts xs = count_on 0 d.fixed (numbered d (length d.fixed) (left_of d.fixed xs))
      (fixed_count 0 d.fixed (λ i a at.
      (sound.fixed i a at).numbered ∙ (let e : i ≡ 0 + i = omega arith in e)))
      (subst (λ (n : ℕ). CountFrom n (numbered d (length d.fixed) (left_of d.fixed xs)))
      (let e : length d.fixed ≡ 0 + length d.fixed = omega arith in e)
      (numbered_count d (length d.fixed) (left_of d.fixed xs)))

  -- so they ascend
  pub board_rises : (xs : List SesItem) → Ascends (board_of d xs)
  board_rises xs = λ i j x less within.
      let first = count_at 0 (board_of d xs) (board_counts xs) i x (omega (arith, less, within)) in
      let second = count_at 0 (board_of d xs) (board_counts xs) j x within in
      omega (arith, less, first, second)

  -- ---- items that fit the design
  -- a moved spine is as well formed
  still_formed : (by : Point) (s : Spine) → IsWellFormed s → IsWellFormed (moved_spine by s)
  still_formed by (Chain ps) h = let e = length-map ps (moved by) in omega (arith, h, e)
  still_formed by (Area loops) h =
      let e = length-map loops (map (moved by)) in (
        let k = h.0 in omega (arith, k, e),
        All-map (λ ps. 3 ≤ length ps) (map (moved by)) loops
            (All-weaker (λ ps. 3 ≤ length ps) (λ ps. 3 ≤ length (map (moved by) ps))
            (λ ps k. let f = length-map ps (moved by) in omega (arith, k, f)) loops h.1),
      )

  -- pieces at a place near which they stay
  moved_fit : (at : Point) (ps : List Piece) → All IsFit ps
      → All (λ (c : Piece). IsSpineWithin (2 ^ 29) (moved_spine at c.spine)) ps → All IsFit (map (moved_piece at) ps)
  moved_fit at [] fit near = All-nil IsFit
  moved_fit at (p ∷ ps) fit near =
      let h = All-head IsFit p ps fit in
      All-cons IsFit (moved_piece at p) (map (moved_piece at) ps)
      (record {
        well_formed = still_formed at p.spine h.well_formed;
        within = All-head (λ (c : Piece). IsSpineWithin (2 ^ 29) (moved_spine at c.spine)) p ps near;
        width_within = h.width_within;
      })
      (moved_fit at ps (All-tail IsFit p ps fit)
      (All-tail (λ (c : Piece). IsSpineWithin (2 ^ 29) (moved_spine at c.spine)) p ps near))

  -- a padstack of the design, with what is known of it
  record IsStack (padstack : ℕ) (at : Point) : Type 0 where
    there : padstack < length d.padstacks
    fit : All IsFit (map (moved_piece at) (padstack_pieces d padstack))
    layers : All (IsLayerOf d) (padstack_pieces d padstack)

  -- that of a via of a session
  stack_of : (padstack : ℕ) (at : Point) → IsSomeAnd (slice_get d.padstacks padstack) (IsStackNear at)
      → IsStack padstack at
  stack_of padstack at h = by (slice_get d.padstacks padstack) refl h
    where
      by : (o : Option Padstack) → slice_get d.padstacks padstack ≡ o → IsSomeAnd o (IsStackNear at)
          → IsStack padstack at
      by None e near = absurd near
      by (Some s) e near =
          let within : padstack < length d.padstacks = slice_get_within d.padstacks padstack s e in
          let own : get_or d.padstacks padstack s ≡ s =
          same_Some (get_or d.padstacks padstack s) s (sym (slice_get-get_or d.padstacks padstack s within) ∙ e) in
          let pieces : s.pieces ≡ padstack_pieces d padstack = ap pieces_in (sym e) in
          record {
            there = within;
            fit = subst (λ (ps : List Piece). All IsFit (map (moved_piece at) ps)) pieces
                (moved_fit at s.pieces
                (subst (λ (t : Padstack). All IsFit t.pieces) own (sound.fits.padstacks_fit padstack s within)) near);
            layers = subst (All (IsLayerOf d)) pieces
                (subst (λ (t : Padstack). All (IsLayerOf d) t.pieces) own (sound.padstack_layers padstack s within));
          }

  -- an item of a session
  pub item_fits : (id : ℕ) (x : SesItem) → IsItemSound d x → IsItemOf d (item_of d id (Some x.net) false x.metal)
  item_fits id x h = by x.metal h.copper
    where
      by : (m : Metal) → IsCopperSound d m → IsItemOf d (item_of d id (Some x.net) false m)
      by (Wire layer width chain) c = record {
        fits = record {
          pieces_fit = All-cons IsFit (wire_piece layer width chain) []
              (record {
                well_formed = (let some = c.2 in omega (arith, some));
                within = c.3;
                width_within = c.1;
              }) (All-nil IsFit);
        };
        metal_fits = ((let some = c.2 in omega (arith, some)), c.3, c.1);
        metal_in_range = c.0;
        layers_in_range = All-cons (IsLayerOf d) (wire_piece layer width chain) [] c.0 (All-nil (IsLayerOf d));
        net_in_range = h.net_in_range;
      }
      by (Via padstack at) c =
          let stack = stack_of padstack at c.1 in
          record {
            fits = record { pieces_fit = stack.fit };
            metal_fits = c.0;
            metal_in_range = stack.there;
            layers_in_range = All-map (IsLayerOf d) (moved_piece at) (padstack_pieces d padstack) stack.layers;
            net_in_range = h.net_in_range;
          }
      by (Pad pin) c = absurd c
      by (Ban wires vias) c = absurd c

  -- so the board serves the design
  pub board_serves : (xs : List SesItem) → All (IsItemSound d) xs → Serves (board_of d xs) d
  board_serves xs h = record {
    design_fits = sound.fits;
    fixed_there = fixed_stay d xs fixed_there;
    items_fit = All-append (IsItemOf d) d.fixed (numbered d (length d.fixed) (left_of d.fixed xs))
        (λ i x within. (sound.fixed i (get_or d.fixed i x) (slice_get-get_or d.fixed i x within)).item)
        (all_fit (length d.fixed) (left_of d.fixed xs)
        (λ x there. All-contains (IsItemSound d) xs x h (in_left d.fixed xs x there)));
  }
    where
      all_fit : (id : ℕ) (ys : List SesItem) → ((x : SesItem) → Contains ys x → IsItemSound d x)
          → All (IsItemOf d) (numbered d id ys)
      all_fit id [] f = All-nil (IsItemOf d)
      all_fit id (y ∷ ys) f =
          All-cons (IsItemOf d) (item_of d id (Some y.net) false y.metal) (numbered d (id + 1) ys)
          (item_fits id y (f y (in_here y ys)))
          (all_fit (id + 1) ys (λ x there. f x (in_later y x ys there)))
