-- Stretches have one list of nodes, and nodes one list of moves that lead out.
use Rattle.std.proofs.Common.{◌≡◌, ◌∙◌, inl, inr, ℕ, suc, List, [], ◌∷◌, ap, arith, length, refl, subst, sym}
use Rattle.std.specs.Prelude.{Contains}
use Rattle.std.proofs.lemmas.List.Elements.{All-contains}
use Rattle.std.proofs.lemmas.Map.Keys.{sorted_from_strictly_increasing}
use Rattle.pcb_islands.proofs.Elements.{in_cons, in_here, in_later, in_none}
use Rattle.pcb_islands.proofs.Numbers.{one_list}
use Rattle.pcb_model.specs.declared.design.Design.{Design}
use Rattle.route_lattice.specs.Mesh.{Mesh}
use Rattle.route_lattice.specs.Ways.{way, way_count}
use Rattle.cut_certificate.specs.declared.cut.Block.{Block}
use Rattle.cut_certificate.specs.declared.cut.Blocker.{Blocker}
use Rattle.cut_certificate.specs.Border.{AreBlocks, AreInOrder, IsBefore, IsBlock, IsListed}
use Rattle.cut_check.specs.declared.stretch.Stretch.{Stretch}
use Rattle.cut_check.specs.Stretches.{AreNodesOf}
use Rattle.cut_check.specs.Sizes.{IsOutCount}

pub nodes_one : (m : Mesh) (runs : List Stretch) (xs ys : List ℕ) → AreNodesOf m runs xs → AreNodesOf m runs ys
    → xs ≡ ys
nodes_one m runs xs ys a b =
    one_list xs ys (sorted_from_strictly_increasing xs a.ascends) (sorted_from_strictly_increasing ys b.ascends)
    (λ v h. b.all v (a.only v h)) (λ v h. a.all v (b.only v h))

-- ---- blocks
-- a block of the list is of this move
record HasKey (bs : List Block) (node index : ℕ) : Type 0 where
  block : Block
  there : Contains bs block
  node_is : block.node ≡ node
  index_is : block.index ≡ index

to_key : (bs : List Block) (node index : ℕ) → IsListed bs node index → HasKey bs node index
to_key bs node index l = record { block = l.1; there = (l.0, l.2, l.3); node_is = l.4.0; index_is = l.4.1 }

later_key : (b : Block) (bs : List Block) (node index : ℕ) → HasKey bs node index → HasKey (b ∷ bs) node index
later_key b bs node index k = record {
  block = k.block;
  there = in_later b k.block bs k.there;
  node_is = k.node_is;
  index_is = k.index_is;
}

-- no block is before one of its own move
not_before : (a b : Block) → IsBefore a b → a.node ≡ b.node → a.index ≡ b.index → ⊥
not_before a b before n i = elim before [
  | inl less ↦ omega (arith, less, n)
  | inr less ↦ let lt = less.1 in omega (arith, lt, i)
]

-- nor are two before one another
no_turn : (a b c e : Block) → IsBefore a b → b.node ≡ c.node → b.index ≡ c.index → IsBefore c e → e.node ≡ a.node
    → e.index ≡ a.index → ⊥
no_turn a b c e first n i second m j = elim first [
  | inl less ↦ elim second [
    | inl more ↦ omega (arith, less, more, n, m)
    | inr more ↦ let same = more.0 in omega (arith, less, same, n, m)
  ]
  | inr less ↦ let one = less.0 in let lt = less.1 in elim second [
    | inl more ↦ omega (arith, one, more, n, m)
    | inr more ↦ let two = more.1 in omega (arith, lt, two, i, j)
  ]
]

head_before : (x b : Block) (xs : List Block) → AreInOrder (x ∷ xs) → Contains xs b → IsBefore x b
head_before x b xs up h = subst (IsBefore x) h.2 (up 0 (suc h.0) b (omega arith) (let low = h.1 in omega (arith, low)))

tail_order : (x : Block) (xs : List Block) → AreInOrder (x ∷ xs) → AreInOrder xs
tail_order x xs up i j d less within = up (suc i) (suc j) d (omega (arith, less)) (omega (arith, within))

-- the first blocks are of one move
heads : (x y : Block) (xs ys : List Block) → AreInOrder (x ∷ xs) → AreInOrder (y ∷ ys) → HasKey (y ∷ ys) x.node x.index
    → HasKey (x ∷ xs) y.node y.index → (x.node ≡ y.node) × (x.index ≡ y.index)
heads x y xs ys ux uy k l = elim (in_cons y k.block ys k.there) [
  | inl same ↦ (
    sym k.node_is ∙ sym (ap (λ (b : Block). b.node) same),
    sym k.index_is ∙ sym (ap (λ (b : Block). b.index) same),
  )
  | inr more ↦ elim (in_cons x l.block xs l.there) [
    | inl same ↦ (
      ap (λ (b : Block). b.node) same ∙ l.node_is,
      ap (λ (b : Block). b.index) same ∙ l.index_is,
    )
    | inr other ↦ absurd (no_turn y k.block x l.block (head_before y k.block ys uy more) k.node_is k.index_is
        (head_before x l.block xs ux other) l.node_is l.index_is)
  ]
]

-- a move of the rest isn't that of the first
tail_key : (x y : Block) (xs ys : List Block) (node index : ℕ) → AreInOrder (x ∷ xs) → x.node ≡ y.node
    → x.index ≡ y.index → HasKey xs node index → HasKey (y ∷ ys) node index → HasKey ys node index
tail_key x y xs ys node index ux n i k l = elim (in_cons y l.block ys l.there) [
  | inl same ↦ absurd (not_before x k.block (head_before x k.block xs ux k.there)
      (n ∙ ap (λ (b : Block). b.node) same ∙ l.node_is ∙ sym k.node_is)
      (i ∙ ap (λ (b : Block). b.index) same ∙ l.index_is ∙ sym k.index_is))
  | inr more ↦ record { block = l.block; there = more; node_is = l.node_is; index_is = l.index_is }
]

as_many : (xs ys : List Block) → AreInOrder xs → AreInOrder ys
    → ((v i : ℕ) → HasKey xs v i → HasKey ys v i) → ((v i : ℕ) → HasKey ys v i → HasKey xs v i)
    → length xs ≡ length ys
as_many [] [] ux uy f g = refl
as_many [] (y ∷ ys) ux uy f g =
    let k = g y.node y.index (record { block = y; there = in_here y ys; node_is = refl; index_is = refl }) in
    absurd (in_none k.block k.there)
as_many (x ∷ xs) [] ux uy f g =
    let k = f x.node x.index (record { block = x; there = in_here x xs; node_is = refl; index_is = refl }) in
    absurd (in_none k.block k.there)
as_many (x ∷ xs) (y ∷ ys) ux uy f g =
    let same = heads x y xs ys ux uy
    (f x.node x.index (record { block = x; there = in_here x xs; node_is = refl; index_is = refl }))
    (g y.node y.index (record { block = y; there = in_here y ys; node_is = refl; index_is = refl })) in
    ap suc (as_many xs ys (tail_order x xs ux) (tail_order y ys uy)
    (λ v i k. tail_key x y xs ys v i ux same.0 same.1 k (f v i (later_key x xs v i k)))
    (λ v i k. tail_key y x ys xs v i uy (sym same.0) (sym same.1) k (g v i (later_key y ys v i k))))

module _ (d : Design) (m : Mesh) (net : ℕ) (nodes : List ℕ) where
  -- a move of the one list is of the other
  over : (xs ys : List Block) (v i : ℕ)
      → AreBlocks (way d m net) (way_count d m net) (λ (v i : ℕ) (by : Blocker). Unit {0}) nodes xs
      → AreBlocks (way d m net) (way_count d m net) (λ (v i : ℕ) (by : Blocker). Unit {0}) nodes ys
      → HasKey xs v i → HasKey ys v i
  over xs ys v i a b k =
      let is = All-contains
      (IsBlock (way d m net) (way_count d m net) (λ (v i : ℕ) (by : Blocker). Unit {0}) nodes) xs k.block a.only
      k.there in
      let l = to_key ys k.block.node k.block.index
      (b.complete k.block.node k.block.index is.node_in is.in_range is.leads_out) in
      record {
        block = l.block;
        there = l.there;
        node_is = l.node_is ∙ k.node_is;
        index_is = l.index_is ∙ k.index_is;
      }

  pub counts_one : (a b : ℕ) → IsOutCount d m net nodes a → IsOutCount d m net nodes b → a ≡ b
  counts_one a b p q =
      sym p.count_is
      ∙ as_many p.moves q.moves p.all.in_order q.all.in_order (λ v i k. over p.moves q.moves v i p.all q.all k)
      (λ v i k. over q.moves p.moves v i q.all p.all k)
      ∙ q.count_is
