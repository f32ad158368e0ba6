use Rattle.std.proofs.Common.{◌≡◌, ℕ, ◌<◌, Bool, true, false, not, cond, List, length, get_or, Some, None}
use Rattle.std.proofs.Common.{◌==◌, ◌&&◌, true≢false, sym, refl, ap, ap₂, subst, arith, ◌∙◌}
use Rattle.std.proofs.lemmas.Bool.Decides.{nat_tests}
use Rattle.pcb_model.specs.declared.item.Piece.{Piece}
use Rattle.geo_kernel.specs.declared.point.Point.{Point}
use Rattle.pcb_model.specs.Pieces.{padstack_pieces}
use Rattle.route_lattice.specs.declared.moves.Move.TheVariants.{Via}
use Rattle.route_lattice.specs.Mesh.{point_of, layer_of}
use Rattle.route_lattice.specs.Ways.{can_join}
use Rattle.route_lattice.proofs.mesh.Lattice.via.Goals as goal

pub bounds-as_slice-level : goal.bounds-as_slice-level
bounds-as_slice-level c =
    subst (λ (ls : List ℕ). c.args.level < length ls) (sym (c.as_slice.ensures ∙ c.layers.ensures)) c.requires.level

-- what a test that passes gives
chosen : {X : Type 0} (b : Bool) (x y : X) → b ≡ true → x ≡ y → Some x ≡ cond b (Some y) None
chosen true x y b_is e = ap Some e
chosen false x y b_is e = absurd (true≢false (sym b_is))

-- what one that fails gives
left_out : {X : Type 0} (b : Bool) (y : X) → b ≡ false → None ≡ cond b (Some y) None
left_out true y b_is = absurd (true≢false b_is)
left_out false y b_is = refl

-- a test of equal numbers passes
same_number : (m n : ℕ) → m ≡ n → (m == n) ≡ true
same_number m n e = grind (arith, nat_tests)

-- no padstack joins a layer to itself
none_to_itself : (ps : List Piece) (at : Point) (from to : ℕ) → from ≡ to → can_join ps at from to ≡ false
none_to_itself ps at from to e = by (from == to) _ (same_number from to e)
  where
    by : (b rest : Bool) → b ≡ true → not b && rest ≡ false
    by true rest h = refl
    by false rest h = absurd (true≢false (sym h))

-- the same test of the same values
joins_is : (r : Bool) (ps qs : List Piece) (at by : Point) (from start to end : ℕ) → r ≡ can_join ps at from to
    → ps ≡ qs → at ≡ by → from ≡ start → to ≡ end → r ≡ can_join qs by start end
joins_is r ps qs at by from start to end is e f g h =
    is ∙ ap₂ (λ ks p. can_join ks p from to) e f ∙ ap₂ (λ m n. can_join qs by m n) g h

pub returns-then-from-layer : goal.returns-then-from-layer
returns-then-from-layer c =
    let m = c.args.self.now in
    let to = ap (λ (ls : List ℕ). get_or ls c.args.level 0) (c.as_slice.ensures ∙ c.layers.ensures) in
    left_out _ _
    (none_to_itself (padstack_pieces c.args.d.now c.args.padstack) (point_of m c.args.node) (layer_of m c.args.node)
    (get_or m.layers c.args.level 0) (sym c.layer-from.ensures ∙ c.if-from-layer.true ∙ to))

pub returns-then-can_join : goal.returns-then-can_join
returns-then-can_join c =
    let m = c.args.self.now in
    let to = ap (λ (ls : List ℕ). get_or ls c.args.level 0) (c.as_slice.ensures ∙ c.layers.ensures) in
    chosen _ _ _
    (sym
    (joins_is _ _ _ _ _ _ _ _ _ c.can_join.ensures c.padstack_pieces-pieces.ensures c.point.ensures
    c.layer-from.ensures to) ∙ c.if-can_join.true)
    (ap₂ (λ (t n : ℕ). (Via c.args.padstack t, n)) to c.node_on.ensures)

pub returns-else-can_join : goal.returns-else-can_join
returns-else-can_join c =
    let to = ap (λ (ls : List ℕ). get_or ls c.args.level 0) (c.as_slice.ensures ∙ c.layers.ensures) in
    left_out _ _
    (sym
    (joins_is _ _ _ _ _ _ _ _ _ c.can_join.ensures c.padstack_pieces-pieces.ensures c.point.ensures
    c.layer-from.ensures to) ∙ c.if-can_join.false)
