-- Where a move of a net leads, one leads back.
use Rattle.std.proofs.Common.{◌≡◌, ℕ, zero, suc, ◌<◌, ◌≤◌, ◌+◌, ◌-◌, ◌*◌, ◌/◌, ◌%◌, List, length, Some, None}
use Rattle.std.proofs.Common.{Bool, true, false, not, ◌&&◌, cond, arith, refl, sym, ap, ap₂, ◌∙◌, subst, ltb-true}
use Rattle.std.proofs.Common.{le-ltb}
use Rattle.std.proofs.Common.{inl, inr, ◌==◌}
use Rattle.std.specs.Prelude.{nat_lt, slice_index}
use Rattle.std.proofs.lemmas.Bool.{cases_lt}
use Rattle.std.proofs.lemmas.Bool.Decides.{nat_tests}
use Rattle.std.proofs.Common.{slice_index_or, pos}
use Rattle.std.proofs.lemmas.Nat.{mod-mul-add, div-mul-add, mul-add-lt, mod_below, div_below}
use Rattle.geo_kernel.specs.declared.point.Point.{Point}
use Rattle.pcb_model.specs.declared.item.Piece.{Piece}
use Rattle.pcb_model.specs.declared.design.Design.{Design}
use Rattle.pcb_model.specs.Pieces.{padstack_pieces}
use Rattle.route_lattice.specs.declared.moves.Move.{Move}
use Rattle.route_lattice.specs.declared.moves.Move.TheVariants.{Step, Via}
use Rattle.route_lattice.specs.Mesh.{Mesh, node_count, node_at, column, row, level, point_of, layer_of}
use Rattle.route_lattice.specs.Ways.{step_at, has_copper, can_join, vias_of, via_at, way, way_count}
use Rattle.route_lattice.specs.Near.{are_near_at}
use Rattle.route_lattice.proofs.Places.{back, right, left, above, below, level_below}
use Rattle.route_lattice.proofs.Steps.{no, mod_le, column_there, row_there, below_there}
use Rattle.route_lattice.proofs.Steps.{right_step, left_step, above_step, below_step}
use Rattle.route_lattice.proofs.Numbered.{way_steps}

-- a choice that gives something took its first branch
taken : (b : Bool) (x w : Move × ℕ) → cond b (Some x) None ≡ Some w → (b ≡ true) × (x ≡ w)
taken true x w e = (refl, inner x w e)
  where
    inner : (x w : Move × ℕ) → Some x ≡ Some w → x ≡ w
    inner x w e = cc
taken false x w e = cc

-- the places of a node by its places
column_at : (m : Mesh) (l j i : ℕ) → i < length m.xs → column m (node_at m l j i) ≡ i
column_at m l j i h = mod-mul-add (l * length m.ys + j) (length m.xs) i h

row_at : (m : Mesh) (l j i : ℕ) → j < length m.ys → i < length m.xs → row m (node_at m l j i) ≡ j
row_at m l j i k h = ap (λ n. n % length m.ys) (div-mul-add (l * length m.ys + j) (length m.xs) i h)
    ∙ mod-mul-add l (length m.ys) j k

level_at : (m : Mesh) (l j i : ℕ) → j < length m.ys → i < length m.xs → level m (node_at m l j i) ≡ l
level_at m l j i k h = ap (λ n. n / length m.ys) (div-mul-add (l * length m.ys + j) (length m.xs) i h)
    ∙ div-mul-add l (length m.ys) j k

-- a move of a net at a node leads to the other one
pub record HasWayTo (d : Design) (m : Mesh) (net node to : ℕ) : Type 0 where
  pub index : ℕ
  pub move : Move
  pub listed : index < way_count d m net
  pub leads : way d m net node index ≡ Some (move, to)

-- a step to it
record HasStepTo (m : Mesh) (node to : ℕ) : Type 0 where
  index : ℕ
  move : Move
  listed : index < 4
  leads : step_at m node index ≡ Some (move, to)

module _ (m : Mesh) (v : ℕ) (there : v < node_count m) where
  W : ℕ
  W = length m.xs

  H : ℕ
  H = length m.ys

  abbrev c : ℕ
  c = column m v

  abbrev r : ℕ
  r = row m v

  abbrev l : ℕ
  l = level m v

  c_there : column m v < length m.xs
  c_there = column_there m v (length m.xs) (length m.ys) refl refl there

  r_there : row m v < length m.ys
  r_there = row_there m v (length m.xs) (length m.ys) refl refl there

  -- a step to greater x is undone by one to lesser x
  undo_right : column m v + 1 < length m.xs → HasStepTo m (v + 1) v
  undo_right k =
      let e : column m (v + 1) ≡ column m v + 1 =
      ap (λ n. column m n) (sym (right (length m.xs) (length m.ys) v))
      ∙ column_at m (level m v) (row m v) (column m v + 1) k in
      let s = left_step m (v + 1) (length m.xs) (length m.ys) 1 refl refl refl (omega (arith, e)) in record {
        index = 1;
        move = Step 1;
        listed = omega arith;
        leads = sym s ∙ ap (λ n. Some (Step 1, n)) (omega arith);
      }

  undo_left : 0 < column m v → HasStepTo m (v - 1) v
  undo_left k =
      let h : column m v - 1 < length m.xs = omega (arith, c_there) in
      let e : column m (v - 1) ≡ column m v - 1 =
      ap (λ n. column m n) (sym (left (length m.xs) (length m.ys) v k))
      ∙ column_at m (level m v) (row m v) (column m v - 1) h in
      let some : 0 < v = omega (arith, k, mod_le v (length m.xs)) in
      let s = right_step m (v - 1) (length m.xs) (length m.ys) 0 refl refl refl (omega (arith, e, k, c_there)) in
      record {
        index = 0;
        move = Step 0;
        listed = omega arith;
        leads = sym s ∙ ap (λ n. Some (Step 0, n)) (omega (arith, some));
      }

  undo_above : row m v + 1 < length m.ys → HasStepTo m (v + length m.xs) v
  undo_above k =
      let e : row m (v + length m.xs) ≡ row m v + 1 =
      ap (λ n. row m n) (sym (above (length m.xs) (length m.ys) v))
      ∙ row_at m (level m v) (row m v + 1) (column m v) k c_there in
      let s = below_step m (v + length m.xs) (length m.xs) (length m.ys) 3 refl refl refl (omega (arith, e)) in record {
        index = 3;
        move = Step 3;
        listed = omega arith;
        leads = sym s ∙ ap (λ n. Some (Step 3, n)) (omega arith);
      }

  undo_below : 0 < row m v → HasStepTo m (v - length m.xs) v
  undo_below k =
      let h : row m v - 1 < length m.ys = omega (arith, r_there) in
      let e : row m (v - length m.xs) ≡ row m v - 1 =
      ap (λ n. row m n) (sym (below (length m.xs) (length m.ys) v k))
      ∙ row_at m (level m v) (row m v - 1) (column m v) h c_there in
      let some : length m.xs ≤ v = below_there m v (length m.xs) (length m.ys) refl refl there k in
      let s = above_step m (v - length m.xs) (length m.xs) (length m.ys) 2 refl refl refl (omega (arith, e, k, r_there))
      in record {
        index = 2;
        move = Step 2;
        listed = omega arith;
        leads = sym s ∙ ap (λ n. Some (Step 2, n)) (omega (arith, some));
      }

  -- each step is undone by one
  undone : (i : ℕ) (w : Move × ℕ) → i < 4 → step_at m v i ≡ Some w → HasStepTo m w.1 v
  undone zero w h e =
      let t = taken (nat_lt (column m v + 1) (length m.xs))
      (Step 0, node_at m (level m v) (row m v) (column m v + 1)) w e in
      let to : v + 1 ≡ w.1 = sym (right (length m.xs) (length m.ys) v) ∙ ap (λ (y : Move × ℕ). y.1) t.1 in
      subst (λ n. HasStepTo m n v) to (undo_right (ltb-true (column m v + 1) (length m.xs) t.0))
  undone (suc zero) w h e =
      let t = taken (nat_lt 0 (column m v)) (Step 1, node_at m (level m v) (row m v) (column m v - 1)) w e in
      let k = ltb-true 0 (column m v) t.0 in
      let to : v - 1 ≡ w.1 = sym (left (length m.xs) (length m.ys) v k) ∙ ap (λ (y : Move × ℕ). y.1) t.1 in
      subst (λ n. HasStepTo m n v) to (undo_left k)
  undone (suc (suc zero)) w h e =
      let t = taken (nat_lt (row m v + 1) (length m.ys))
      (Step 2, node_at m (level m v) (row m v + 1) (column m v)) w e in
      let to : v + length m.xs ≡ w.1 = sym (above (length m.xs) (length m.ys) v) ∙ ap (λ (y : Move × ℕ). y.1) t.1 in
      subst (λ n. HasStepTo m n v) to (undo_above (ltb-true (row m v + 1) (length m.ys) t.0))
  undone (suc (suc (suc zero))) w h e =
      let t = taken (nat_lt 0 (row m v)) (Step 3, node_at m (level m v) (row m v - 1) (column m v)) w e in
      let k = ltb-true 0 (row m v) t.0 in
      let to : v - length m.xs ≡ w.1 = sym (below (length m.xs) (length m.ys) v k) ∙ ap (λ (y : Move × ℕ). y.1) t.1 in
      subst (λ n. HasStepTo m n v) to (undo_below k)
  undone (suc (suc (suc (suc i)))) w h e = absurd (omega (arith, h))

-- ---- vias
-- a padstack joins two layers both ways
flip : (x a b n : Bool) → x && (a && (b && n)) ≡ true → x && (b && (a && n)) ≡ true
flip true true true n h = h
flip true true false n h = h
flip true false true n h = h
flip true false false n h = h
flip false a b n h = h

equal_either : (a b : ℕ) → (a == b) ≡ (b == a)
equal_either a b = grind (arith, nat_tests)

joins_back : (ps : List Piece) (at : Point) (from to : ℕ) → can_join ps at from to ≡ true
    → can_join ps at to from ≡ true
joins_back ps at from to h =
    flip (not (to == from)) (has_copper ps from) (has_copper ps to) (are_near_at at ps)
    (subst (λ (x : Bool). not x && (has_copper ps from && (has_copper ps to && are_near_at at ps)) ≡ true)
    (equal_either from to) h)

module _ (d : Design) (m : Mesh) (v p t : ℕ) (there : v < node_count m) (below : t < length m.layers) where
  abbrev to : ℕ
  to = node_at m t (row m v) (column m v)

  to_column : column m to ≡ column m v
  to_column = column_at m t (row m v) (column m v) (c_there m v there)

  to_row : row m to ≡ row m v
  to_row = row_at m t (row m v) (column m v) (r_there m v there) (c_there m v there)

  to_level : level m to ≡ t
  to_level = level_at m t (row m v) (column m v) (r_there m v there) (c_there m v there)

  to_point : point_of m to ≡ point_of m v
  to_point = ap₂ (λ i j. the_point m i j) to_column to_row
    where
      the_point : Mesh → ℕ → ℕ → Point
      the_point m i j = record { x = slice_index_or m.xs i (pos 0); y = slice_index_or m.ys j (pos 0) }

  -- the via back
  back_via : can_join (padstack_pieces d p) (point_of m v) (layer_of m v) (slice_index m.layers t) ≡ true
      → via_at d m to p (level m v) ≡ Some (Via p (layer_of m v), v)
  back_via j =
      let ps = padstack_pieces d p in
      let there' : can_join ps (point_of m to) (layer_of m to) (layer_of m v) ≡ true =
      subst (λ (q : Point). can_join ps q (layer_of m to) (layer_of m v) ≡ true) (sym to_point)
      (subst (λ n. can_join ps (point_of m v) (slice_index m.layers n) (layer_of m v) ≡ true) (sym to_level)
      (joins_back ps (point_of m v) (layer_of m v) (slice_index m.layers t) j)) in
      let home : node_at m (level m v) (row m to) (column m to) ≡ v =
      ap₂ (λ j i. node_at m (level m v) j i) to_row to_column ∙ back (length m.xs) (length m.ys) v in
      first (can_join ps (point_of m to) (layer_of m to) (layer_of m v))
      (Via p (layer_of m v), node_at m (level m v) (row m to) (column m to)) there'
      ∙ ap (λ n. Some (Via p (layer_of m v), n)) home
    where
      first : (b : Bool) (x : Move × ℕ) → b ≡ true → cond b (Some x) None ≡ Some x
      first true x e = refl
      first false x e = cc

-- the index of the via back
module _ (d : Design) (m : Mesh) (net v i : ℕ) (there : v < node_count m) (big : 4 ≤ i)
    (i_there : i < way_count d m net) where
  abbrev L : ℕ
  L = length m.layers

  abbrev q : ℕ
  q = (i - 4) / length m.layers

  some_layers : 0 < length m.layers
  some_layers =
      let k = level_below (length m.xs) (length m.ys) (length m.layers) v there in omega (arith, k)

  way_is : (u j : ℕ) → 4 ≤ j → way d m net u j
      ≡ via_at d m u (slice_index (vias_of d net) ((j - 4) / length m.layers)) ((j - 4) % length m.layers)
  way_is u j k =
      no (nat_lt j 4) (step_at m u j)
      (via_at d m u (slice_index (vias_of d net) ((j - 4) / length m.layers)) ((j - 4) % length m.layers))
      (via_at d m u (slice_index (vias_of d net) ((j - 4) / length m.layers)) ((j - 4) % length m.layers))
      (le-ltb j 4 k) refl

  via_undone : (w : Move × ℕ) → way d m net v i ≡ Some w → HasWayTo d m net w.1 v
  via_undone w e =
      let n = length m.layers in
      let q = (i - 4) / n in
      let t = (i - 4) % n in
      let p = slice_index (vias_of d net) q in
      let lv = level_below (length m.xs) (length m.ys) n v there in
      let below : t < n = mod_below (i - 4) n some_layers in
      let inside : i - 4 < length (vias_of d net) * n = omega (arith, i_there, big) in
      let q_there : q < length (vias_of d net) = div_below (i - 4) n (length (vias_of d net)) some_layers inside in
      let k = taken (can_join (padstack_pieces d p) (point_of m v) (layer_of m v) (slice_index m.layers t))
      (Via p (slice_index m.layers t), node_at m t (row m v) (column m v)) w (sym (way_is v i big) ∙ e) in
      let to_is : node_at m t (row m v) (column m v) ≡ w.1 = ap (λ (y : Move × ℕ). y.1) k.1 in
      let b = back_via d m v p t there below k.0 in
      let j = 4 + (q * n + level m v) in
      let less : j - 4 ≡ q * n + level m v = omega arith in
      let jq : (j - 4) / n ≡ q = ap (λ x. x / n) less ∙ div-mul-add q n (level m v) lv in
      let jt : (j - 4) % n ≡ level m v = ap (λ x. x % n) less ∙ mod-mul-add q n (level m v) lv in
      let few = mul-add-lt q n (level m v) (length (vias_of d net)) q_there lv in
      subst (λ u. HasWayTo d m net u v) to_is (record {
        index = j;
        move = Via p (layer_of m v);
        listed = omega (arith, few);
        leads = way_is (node_at m t (row m v) (column m v)) j (omega arith)
            ∙ ap₂ (λ a c. via_at d m (node_at m t (row m v) (column m v)) (slice_index (vias_of d net) a) c) jq jt ∙ b;
      })

-- ---- all moves
module _ (d : Design) (m : Mesh) (net v i : ℕ) (there : v < node_count m) (i_there : i < way_count d m net) where
  step_way : (to : ℕ) → HasStepTo m to v → HasWayTo d m net to v
  step_way to s = record {
    index = s.index;
    move = s.move;
    listed = let k = s.listed in omega (arith, k);
    leads = sym (way_steps d m net to s.index s.listed) ∙ s.leads;
  }

  pub way_undone : (w : Move × ℕ) → way d m net v i ≡ Some w → HasWayTo d m net w.1 v
  way_undone w e = elim (cases_lt i 4) [
    | inl lt ↦ step_way w.1 (undone m v there i w lt (way_steps d m net v i lt ∙ e))
    | inr ge ↦ via_undone d m net v i there ge i_there w e
  ]
