-- The padstacks of sound sections: their names, their pieces, and those that may be vias.
use Rattle.std.proofs.Common.{◌≡◌, ◌≢◌, ◌<◌, ◌≤◌, ◌+◌, ◌∙◌, ap, sym, subst, ℕ, zero, suc, Bool, true, false, List, []}
use Rattle.std.proofs.Common.{◌∷◌, Option, Some, None, length, map, refl, arith}
use Rattle.std.specs.Prelude.{All, AllPairs, filter, slice_get}
use Rattle.std.specs.List.{range_with_len}
use Rattle.std.specs.Option.{IsSomeAnd, option_map_or}
use Rattle.std.proofs.lemmas.List.Elements.{All-cons, All-filter, All-head, All-map, All-nil, All-tail, All-weaker}
use Rattle.std.proofs.lemmas.List.Elements.{filter_passes}
use Rattle.std.proofs.lemmas.Option.{same_Some}
use Rattle.pcb_model.specs.declared.item.Piece.{Piece}
use Rattle.pcb_model.specs.declared.design.Padstack.{Padstack}
use Rattle.pcb_model.specs.Bounds.{IsFit}
use Rattle.pcb_model.specs.Sound.{IsPrintable, IsUsable}
use Rattle.dsn_shapes.specs.declared.parts.LayerShape.{LayerShape}
use Rattle.dsn_shapes.specs.declared.parts.Stack.{Stack}
use Rattle.dsn_shapes.proofs.Fits.{all_joined, pairs_of_map, pairs_to_map}
use Rattle.dsn_wiring.specs.Layers.{has_layer, layers_below}
use Rattle.dsn_design.specs.Copper.{piece_on, pieces_of, stack_pieces}
use Rattle.dsn_design.specs.Nets.{is_usable_at, usable_of}
use Rattle.dsn_design.specs.Usable.{AreUsable, padstack_of, padstacks_of}

-- ---- layers of pieces
pub range_below : (a n m : ℕ) → a + n ≤ m → All (λ k. k < m) (range_with_len a n)
range_below a zero m h = All-nil (λ k. k < m)
range_below a (suc n) m h =
    All-cons (λ k. k < m) a (range_with_len (a + 1) n) (omega arith) (range_below (a + 1) n m (omega arith))

pub layers_in_range : (n layers : ℕ) → All (λ k. k < n) (layers_below n layers)
unfolding layers_below
layers_in_range n layers =
    All-filter (has_layer layers) (λ k. k < n) (range_with_len 0 n) (range_below 0 n n (omega arith))

pub pieces_in_range : (n : ℕ) (s : LayerShape) → All (λ (p : Piece). p.layer < n) (pieces_of n s)
unfolding pieces_of
pieces_in_range n s =
    All-map (λ (p : Piece). p.layer < n) (piece_on s) (layers_below n s.layers) (layers_in_range n s.layers)

-- the pieces of a board's padstack lie on its layers
pub stack_in_range : (n : ℕ) (s : Stack) → All (λ (p : Piece). p.layer < n) (stack_pieces n s)
unfolding stack_pieces
stack_in_range n s = all_joined (λ (p : Piece). p.layer < n) (pieces_of n) (pieces_in_range n) s.shapes

-- ---- padstacks of a library
-- what holds of each padstack with its pieces
pub each_padstack : (P : Stack → Type 0) (Q : Padstack → Type 0) (n : ℕ)
    → ((b : Bool) (s : Stack) → P s → Q (padstack_of n (b, s))) → (us : List Bool) (ss : List Stack) → All P ss
    → All Q (padstacks_of n us ss)
unfolding padstacks_of
each_padstack P Q n h [] ss a = All-nil Q
each_padstack P Q n h (u ∷ us) [] a = All-nil Q
each_padstack P Q n h (u ∷ us) (s ∷ ss) a =
    All-cons Q (padstack_of n (u, s)) (padstacks_of n us ss) (h u s (All-head P s ss a))
    (each_padstack P Q n h us ss (All-tail P s ss a))

pub padstacks_fit : (n : ℕ) (us : List Bool) (ss : List Stack) → All (λ (s : Stack). All IsFit (stack_pieces n s)) ss
    → All (λ (p : Padstack). All IsFit p.pieces) (padstacks_of n us ss)
padstacks_fit n us ss a =
    each_padstack (λ (s : Stack). All IsFit (stack_pieces n s)) (λ (p : Padstack). All IsFit p.pieces) n (λ b s h. h) us
    ss a

abbrev IsAny : Stack → Type 0
IsAny s = Unit {0}

pub padstacks_in_range : (n : ℕ) (us : List Bool) (ss : List Stack)
    → All (λ (p : Padstack). All (λ (q : Piece). q.layer < n) p.pieces) (padstacks_of n us ss)
padstacks_in_range n us ss =
    each_padstack IsAny (λ (p : Padstack). All (λ (q : Piece). q.layer < n) p.pieces) n (λ b s h. stack_in_range n s) us
    ss (λ k d l. tt)

pub padstacks_printable : (n : ℕ) (us : List Bool) (ss : List Stack) → All (λ (s : Stack). IsPrintable s.name) ss
    → All (λ (p : Padstack). IsPrintable p.name) (padstacks_of n us ss)
padstacks_printable n us ss a =
    each_padstack (λ (s : Stack). IsPrintable s.name) (λ (p : Padstack). IsPrintable p.name) n (λ b s h. h) us ss a

pub padstacks_few : (n : ℕ) (us : List Bool) (ss : List Stack) → length (padstacks_of n us ss) ≤ length ss
unfolding padstacks_of
padstacks_few n [] ss = omega arith
padstacks_few n (u ∷ us) [] = omega arith
padstacks_few n (u ∷ us) (s ∷ ss) = omega (arith, padstacks_few n us ss)

abbrev stack_name : Stack → List ℕ
stack_name s = s.name

abbrev padstack_name : Padstack → List ℕ
padstack_name p = p.name

same_names : (n : ℕ) (us : List Bool) (ss : List Stack) → AreUsable n us ss → map padstack_name (padstacks_of n us ss)
    ≡ map stack_name ss
unfolding padstacks_of
same_names n [] [] h = refl
same_names n [] (s ∷ ss) h = absurd h
same_names n (u ∷ us) [] h = absurd h
same_names n (u ∷ us) (s ∷ ss) h = ap (λ ns. s.name ∷ ns) (same_names n us ss h.1)

pub padstacks_differ : (n : ℕ) (us : List Bool) (ss : List Stack) → AreUsable n us ss
    → AllPairs (λ (a b : Stack). a.name ≢ b.name) ss
    → AllPairs (λ (a b : Padstack). a.name ≢ b.name) (padstacks_of n us ss)
padstacks_differ n us ss h differ =
    pairs_of_map (λ (a b : List ℕ). a ≢ b) padstack_name (padstacks_of n us ss)
    (subst (AllPairs (λ (a b : List ℕ). a ≢ b)) (sym (same_names n us ss h))
    (pairs_to_map (λ (a b : List ℕ). a ≢ b) stack_name ss differ))

-- ---- vias
usable_at : (n : ℕ) (us : List Bool) (ss : List Stack) (v : ℕ) (p : Padstack) → AreUsable n us ss
    → slice_get (padstacks_of n us ss) v ≡ Some p → p.usable ≡ true → IsUsable p.pieces
unfolding padstacks_of
usable_at n [] ss v p h e u = absurd (cc)
usable_at n (b ∷ us) [] v p h e u = absurd h
usable_at n (b ∷ us) (s ∷ ss) zero p h e u = let same : padstack_of n (b, s) ≡ p =
    same_Some (padstack_of n (b, s)) p e in
    subst (λ (q : Padstack). IsUsable q.pieces) same (h.0.0 (ap (λ (q : Padstack). q.usable) same ∙ u))
usable_at n (b ∷ us) (s ∷ ss) (suc v) p h e u = usable_at n us ss v p h.1 e u

via_usable : (stacks : List Padstack) (v : ℕ) (o : Option Padstack) → slice_get stacks v ≡ o
    → ((p : Padstack) → slice_get stacks v ≡ Some p → p.usable ≡ true → IsUsable p.pieces)
    → option_map_or (λ (s : Padstack). s.usable) o false ≡ true → IsSomeAnd o (λ (s : Padstack). IsUsable s.pieces)
via_usable stacks v None e h u = absurd (cc)
via_usable stacks v (Some p) e h u = h p e u

-- the vias of a net are usable padstacks
pub vias_usable : (n : ℕ) (us : List Bool) (ss : List Stack) (vias : List ℕ) → AreUsable n us ss
    → All (λ v. IsSomeAnd (slice_get (padstacks_of n us ss) v) (λ (s : Padstack). IsUsable s.pieces))
    (usable_of (padstacks_of n us ss) vias)
unfolding usable_of
vias_usable n us ss vias h =
    let stacks = padstacks_of n us ss in
    All-weaker (λ v. is_usable_at stacks v ≡ true)
    (λ v. IsSomeAnd (slice_get stacks v) (λ (s : Padstack). IsUsable s.pieces))
    (λ v e. via_usable stacks v (slice_get stacks v) refl (λ p f u. usable_at n us ss v p h f u) e)
    (filter (is_usable_at stacks) vias) (filter_passes (is_usable_at stacks) vias)
