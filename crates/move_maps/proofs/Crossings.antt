-- What a table says of crossings, row by row.
use Rattle.std.proofs.Common.{◌≡◌, ℕ, ◌+◌, ◌*◌, ◌<◌, ◌≤◌, Bool, true, false, ltb-true, List, [], ◌∷◌, ◌++◌}
use Rattle.std.proofs.Common.{length, refl, sym, ap, ◌∙◌, subst, arith, slice_index_or}
use Rattle.std.specs.Prelude.{nat_lt}
use Rattle.std.proofs.lemmas.Bool.{ltb-false}
use Rattle.std.proofs.lemmas.List.{length-append, get_or_append_left}
use Rattle.pcb_model.specs.declared.design.Design.{Design}
use Rattle.pcb_model.specs.Board.{IsInsideEach}
use Rattle.route_lattice.specs.Mesh.{Mesh}
use Rattle.move_maps.specs.Starts.{crossing, AreInner}
use Rattle.move_maps.proofs.Painting.{same_place}

-- what stands behind a list
front : (xs : List Bool) (x : ℕ) (b : Bool) → length xs ≡ x → slice_index_or (xs ++ b ∷ []) x false ≡ b
front xs x b e = ap (λ k. slice_index_or (xs ++ b ∷ []) k false) (sym e) ∙ last xs b
  where
    last : (xs : List Bool) (b : Bool) → slice_index_or (xs ++ b ∷ []) (length xs) false ≡ b
    last [] b = refl
    last (x ∷ xs) b = last xs b

-- what a table says of crossings, and of the next one
pub inner_next : (d : Design) (m : Mesh) (j i t : ℕ) (b : Bool) (xs ys : List Bool) → i < length m.xs
    → t ≡ j * length m.xs + i + 1 → AreInner d m (j * length m.xs + i) xs
    → (b ≡ true → IsInsideEach d.bounds (crossing m j i)) → ys ≡ xs ++ b ∷ [] → AreInner d m t ys
inner_next d m j i t b xs ys hi et f told e = record {
  size = ap length e ∙ length-append xs (b ∷ []) ∙ (ap (λ x. x + 1) f.size ∙ sym et);
  each = λ k h l u y. at k h l u y (nat_lt (k * length m.xs + h) (j * length m.xs + i)) refl;
}
  where
    meet : (x y t : ℕ) → t ≡ x + 1 → y < t → x ≤ y → y ≡ x
    meet x y t e l h = omega (arith, e, l, h)

    below : (x y k : ℕ) → k ≡ y → x < y → x < k
    below x y k e l = omega (arith, e, l)

    at : (k h : ℕ) → h < length m.xs → k * length m.xs + h < t
        → slice_index_or ys (k * length m.xs + h) false ≡ true → (s : Bool)
        → nat_lt (k * length m.xs + h) (j * length m.xs + i) ≡ s → IsInsideEach d.bounds (crossing m k h)
    at k h l u y true s =
        let low = ltb-true (k * length m.xs + h) (j * length m.xs + i) s in
        let same : slice_index_or ys (k * length m.xs + h) false ≡ slice_index_or xs (k * length m.xs + h) false =
        ap (λ (zs : List Bool). slice_index_or zs (k * length m.xs + h) false) e
        ∙ get_or_append_left xs (b ∷ []) false (k * length m.xs + h)
        (below (k * length m.xs + h) (j * length m.xs + i) (length xs) f.size low) in
        f.each k h l low (sym same ∙ y)
    at k h l u y false s =
        let high = ltb-false (k * length m.xs + h) (j * length m.xs + i) s in
        let p = meet (j * length m.xs + i) (k * length m.xs + h) t et u high in
        let q = same_place (length m.xs) j k i h hi l p in
        let val : slice_index_or ys (k * length m.xs + h) false ≡ b =
        ap (λ (zs : List Bool). slice_index_or zs (k * length m.xs + h) false) e
        ∙ front xs (k * length m.xs + h) b (f.size ∙ sym p) in
        subst (λ x. IsInsideEach d.bounds (crossing m x h)) (sym q.0)
        (subst (λ x. IsInsideEach d.bounds (crossing m j x)) (sym q.1) (told (sym val ∙ y)))
