-- Painting goes on from place to place, and leaves what is clear of the item as it is.
use Rattle.std.proofs.Common.{◌≡◌, ◌≢◌, IsTrue, ◌↔◌, ℕ, ◌+◌, ◌*◌, ◌/◌, ◌%◌, ◌<◌, ◌≤◌, Bool, true, false, ltb-true, List}
use Rattle.std.proofs.Common.{length, set, refl, sym, ap, ◌∙◌, subst, arith, ◌⊎◌, inl, inr, get_or-set_same}
use Rattle.std.proofs.Common.{get_or-set_other}
use Rattle.std.specs.Prelude.{nat_lt, not, slice_index}
use Rattle.std.proofs.lemmas.Bool.{ltb-false}
use Rattle.std.proofs.lemmas.Nat.{mul-add-lt, div-mul-add, mod-mul-add}
use Rattle.std.proofs.lemmas.List.{length-set}
use Rattle.std.proofs.Math.Nat.{mul-le-mul_right}
use Rattle.pcb_model.specs.declared.item.Item.{Item}
use Rattle.pcb_model.specs.declared.design.Design.{Design}
use Rattle.route_lattice.specs.Mesh.{Mesh}
use Rattle.route_lattice.specs.Ways.{vias_of, way_count}
use Rattle.route_lattice.specs.Legal.{probe_at}
use Rattle.move_maps.specs.Maps.{place_at}
use Rattle.move_maps.specs.declared.brush.Stroke.{Stroke}
use Rattle.move_maps.specs.Paint.{IsClearAt, turned, IsRepainted, Paints}

-- ---- places and nodes
-- a place from a node's first place on is of that node or a later one
pub from_node : (f a v i : ℕ) → i < a → f * a ≤ v * a + i → f ≤ v
from_node f a v i h l = split (nat_lt v f) refl
  where
    split : (t : Bool) → nat_lt v f ≡ t → f ≤ v
    split true e = let k = mul-add-lt v a i f (ltb-true v f e) h in absurd (omega (arith, k, l))
    split false e = ltb-false v f e

-- a place below a node's first place is of an earlier node
pub to_node : (t a v i : ℕ) → v * a + i < t * a → v < t
to_node t a v i l = split (nat_lt v t) refl
  where
    split : (b : Bool) → nat_lt v t ≡ b → v < t
    split true e = ltb-true v t e
    split false e = let k = mul-le-mul_right a (ltb-false v t e) in absurd (omega (arith, k, l))

-- a place is that of one node and one index
pub same_place : (a v w i j : ℕ) → i < a → j < a → w * a + j ≡ v * a + i → (w ≡ v) × (j ≡ i)
same_place a v w i j hi hj e = (
  sym (div-mul-add w a j hj) ∙ ap (λ n. n / a) e ∙ div-mul-add v a i hi,
  sym (mod-mul-add w a j hj) ∙ ap (λ n. n % a) e ∙ mod-mul-add v a i hi,
)

module _ (stroke : Stroke) (d : Design) (m : Mesh) (g : ℕ) (b : Item) where
  -- painted between two places
  abbrev Painted : ℕ → ℕ → List ℕ → List ℕ → Type 0
  Painted f t xs ys = Paints stroke d m g b f t xs ys

  -- no place
  pub none : (f : ℕ) (xs : List ℕ) → Painted f f xs xs
  none f xs = record { size = refl; painted = λ v i h l u. absurd (omega (arith, l, u)); kept = λ k h. refl }

  -- what is clear of the item stays as it is
  pub off : (f t : ℕ) (xs : List ℕ)
      → ((v i : ℕ) → i < way_count d m g → f ≤ place_at d m g v i → place_at d m g v i < t
      → IsClearAt d g b (probe_at d m g v i)) → Painted f t xs xs
  off f t xs h = record { size = refl; painted = λ v i k l u. inl (h v i k l u, refl); kept = λ k h. refl }

  -- the first moves of a node, where they are clear
  pub firsts_off : (v first : ℕ) (xs : List ℕ) → first ≤ way_count d m g
      → ((i : ℕ) → i < first → IsClearAt d g b (probe_at d m g v i))
      → Painted (v * way_count d m g) (v * way_count d m g + first) xs xs
  firsts_off v first xs few h = off (v * way_count d m g) (v * way_count d m g + first) xs (λ w i k l u.
      let a = way_count d m g in
      let e = meet v w (from_node v a w i k l) (to_node (v + 1) a w i (over v w a i first few u)) in
      subst (λ n. IsClearAt d g b (probe_at d m g n i)) e
      (h i (rest (v * a) i first (subst (λ n. n * a + i < v * a + first) (sym e) u))))
    where
      meet : (x y : ℕ) → x ≤ y → y < x + 1 → x ≡ y
      meet x y l u = omega (arith, l, u)

      over : (v w a i first : ℕ) → first ≤ a → w * a + i < v * a + first → w * a + i < (v + 1) * a
      over v w a i first few u = omega (arith, few, u)

      rest : (n i first : ℕ) → n + i < n + first → i < first
      rest n i first u = omega (arith, u)

  -- one part, and the next
  pub go_on : (f t u : ℕ) (xs ys zs : List ℕ) → f ≤ t → t ≤ u → Painted f t xs ys → Painted t u ys zs
      → Painted f u xs zs
  go_on f t u xs ys zs hf ht p q = record {
    size = q.size ∙ p.size;
    painted = λ v i k l h. at v i k l h (nat_lt (place_at d m g v i) t) refl;
    kept = λ k h. same k h;
  }
    where
      at : (v i : ℕ) → i < way_count d m g → f ≤ place_at d m g v i → place_at d m g v i < u → (s : Bool)
          → nat_lt (place_at d m g v i) t ≡ s
          → IsRepainted stroke d g b (probe_at d m g v i) (slice_index xs (place_at d m g v i))
          (slice_index zs (place_at d m g v i))
      at v i k l h true e =
          let R : ℕ → Type 0 = λ n. IsRepainted stroke d g b (probe_at d m g v i)
          (slice_index xs (place_at d m g v i)) n in
          let low = ltb-true (place_at d m g v i) t e in
          subst R (sym (q.kept (place_at d m g v i) (inl low))) (p.painted v i k l low)
      at v i k l h false e =
          let R : ℕ → Type 0 = λ n. IsRepainted stroke d g b (probe_at d m g v i) n
          (slice_index zs (place_at d m g v i)) in
          let high = ltb-false (place_at d m g v i) t e in
          subst R (p.kept (place_at d m g v i) (inr high)) (q.painted v i k high h)

      same : (k : ℕ) → k < f ⊎ u ≤ k → slice_index zs k ≡ slice_index xs k
      same k (inl l) = q.kept k (inl (omega (arith, l, hf))) ∙ p.kept k (inl l)
      same k (inr l) = q.kept k (inr l) ∙ p.kept k (inr (omega (arith, l, ht)))

  -- the same ends, written otherwise
  pub at_ends : (f h t u : ℕ) (xs ys : List ℕ) → f ≡ h → t ≡ u → Painted f t xs ys → Painted h u xs ys
  at_ends f h t u xs ys e k p = subst (λ n. Painted h n xs ys) k (subst (λ n. Painted n t xs ys) e p)

  -- a node whose moves are all clear
  pub node_off : (v : ℕ) (xs : List ℕ)
      → ((i : ℕ) → i < way_count d m g → IsClearAt d g b (probe_at d m g v i))
      → Painted (v * way_count d m g) ((v + 1) * way_count d m g) xs xs
  node_off v xs h =
      let a = way_count d m g in
      at_ends (v * a) (v * a) (v * a + a) ((v + 1) * a) xs xs refl (last v a) (firsts_off v a xs (all a) h)
    where
      all : (a : ℕ) → a ≤ a
      all a = omega arith

      last : (v a : ℕ) → v * a + a ≡ (v + 1) * a
      last v a = omega arith

  -- nothing is painted at first
  pub begins : (f t : ℕ) (xs : List ℕ) → t ≡ f → Painted f t xs xs
  begins f t xs e = at_ends f f f t xs xs refl (sym e) (none f xs)

  -- painted on from place to place
  pub goes_on : (f t u v : ℕ) (xs ys zs : List ℕ) → f ≤ t → t ≤ u → u ≡ v → Painted f t xs ys → Painted t u ys zs
      → Painted f v xs zs
  goes_on f t u v xs ys zs hf ht e p q = at_ends f f u v xs zs refl e (go_on f t u xs ys zs hf ht p q)

  -- one place, whose move is clear of the item
  pub one_clear : (v i : ℕ) (xs : List ℕ) → i < way_count d m g → IsClearAt d g b (probe_at d m g v i)
      → Painted (place_at d m g v i) (place_at d m g v i + 1) xs xs
  one_clear v i xs h c = off (place_at d m g v i) (place_at d m g v i + 1) xs (λ w j k l u.
      let s = same_place (way_count d m g) v w i j h k (meet (place_at d m g v i) (place_at d m g w j) l u) in
      subst (λ n. IsClearAt d g b (probe_at d m g n j)) (sym s.0)
      (subst (λ n. IsClearAt d g b (probe_at d m g v n)) (sym s.1) c))
    where
      meet : (x y : ℕ) → x ≤ y → y < x + 1 → y ≡ x
      meet x y l u = omega (arith, l, u)

  -- one place that has the top
  pub one_top : (v i p : ℕ) (xs : List ℕ) → p ≡ place_at d m g v i → i < way_count d m g → slice_index xs p ≡ 255
      → Painted (place_at d m g v i) (place_at d m g v i + 1) xs xs
  one_top v i p xs ep h e = record {
    size = refl;
    painted = λ w j k l u.
        let s = same_place (way_count d m g) v w i j h k (meet (place_at d m g v i) (place_at d m g w j) l u) in
        let q : p ≡ place_at d m g w j = ep
        ∙ (ap (λ n. place_at d m g n i) (sym s.0) ∙ ap (λ n. place_at d m g w n) (sym s.1)) in
        let t : slice_index xs (place_at d m g w j) ≡ 255 = subst (λ n. slice_index xs n ≡ 255) q e in
        inr (inr (t, t));
    kept = λ k h. refl;
  }
    where
      meet : (x y : ℕ) → x ≤ y → y < x + 1 → y ≡ x
      meet x y l u = omega (arith, l, u)

  -- one place, whose move isn't
  pub one_shut : (v i : ℕ) (xs : List ℕ) → i < way_count d m g → place_at d m g v i < length xs
      → ¬ (IsClearAt d g b (probe_at d m g v i))
      → Painted (place_at d m g v i) (place_at d m g v i + 1) xs
      (set xs (place_at d m g v i) (turned stroke (slice_index xs (place_at d m g v i))))
  one_shut v i xs h within c =
      let q = place_at d m g v i in
      let n = turned stroke (slice_index xs q) in record {
        size = length-set xs q n;
        painted = λ w j k l u.
            let s = same_place (way_count d m g) v w i j h k (meet q (place_at d m g w j) l u) in
            subst (λ x. IsRepainted stroke d g b (probe_at d m g x j) (slice_index xs (place_at d m g x j))
            (slice_index (set xs q n) (place_at d m g x j))) (sym s.0)
            (subst (λ x. IsRepainted stroke d g b (probe_at d m g v x) (slice_index xs (place_at d m g v x))
            (slice_index (set xs q n) (place_at d m g v x))) (sym s.1)
            (inr (inl (c, get_or-set_same xs q n 0 within))));
        kept = λ k l. get_or-set_other xs q k n 0 (apart k q l);
      }
    where
      meet : (x y : ℕ) → x ≤ y → y < x + 1 → y ≡ x
      meet x y l u = omega (arith, l, u)

      apart : (k q : ℕ) → k < q ⊎ q + 1 ≤ k → k ≢ q
      apart k q (inl l) = λ e. omega (arith, l, e)
      apart k q (inr l) = λ e. omega (arith, l, e)

  -- the same, where the place and the count are computed
  pub shut_at : (v i p n : ℕ) (xs ys : List ℕ) → p ≡ place_at d m g v i → i < way_count d m g → p < length xs
      → ¬ (IsClearAt d g b (probe_at d m g v i))
      → n ≡ turned stroke (slice_index xs p) → ys ≡ set xs p n
      → Painted (place_at d m g v i) (place_at d m g v i + 1) xs ys
  shut_at v i p n xs ys e h within c en ey =
      let q = place_at d m g v i in
      let is : ys ≡ set xs q (turned stroke (slice_index xs q)) =
      subst (λ k. ys ≡ set xs k (turned stroke (slice_index xs k))) e (subst (λ k. ys ≡ set xs p k) en ey) in
      subst (λ (zs : List ℕ). Painted q (q + 1) xs zs) (sym is)
      (one_shut v i xs h (subst (λ k. k < length xs) e within) c)

-- the place of a move is in the table
pub place_within : (n a v i k : ℕ) → v < n → i < a → k ≡ n * a → v * a + i < k
place_within n a v i k hv hi e = let l = mul-add-lt v a i n hv hi in omega (arith, l, e)

-- a step's index is one of the node's
pub step_index : (d : Design) (m : Mesh) (g i : ℕ) → i < 4 → i < way_count d m g
step_index d m g i h = over i (length (vias_of d g) * length m.layers) h
  where
    over : (i k : ℕ) → i < 4 → i < 4 + k
    over i k h = omega (arith, h)

-- a test isn't both
pub not_both : (t : Bool) → t ≡ true → t ≡ false → ⊥
not_both true e k = cc
not_both false e k = cc

-- what a failed test denies
pub not_clear : (t : Bool) (P : Type 0) → IsTrue t ↔ P → t ≡ false → ¬ P
not_clear t P h e = λ p. not_both t (h.1 p) e

-- a negation that holds
pub not_true : (t : Bool) → not t ≡ true → t ≡ false
not_true true e = cc
not_true false e = refl
