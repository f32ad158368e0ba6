use Rattle.std.proofs.Common.{◌≡◌, ℕ, ◌+◌, ◌*◌, ◌<◌, ◌≤◌, ◌^◌, true, false, length, refl, sym, subst, arith}
use Rattle.std.specs.Prelude.{slice_index_or}
use Rattle.std.proofs.lemmas.Nat.{mul-add-lt}
use Rattle.route_lattice.proofs.Steps.{size}
use Rattle.move_maps.proofs.start.is_plain.Goals as goal

-- the place of a crossing, for the count w of x lines
place_below : (j i w m n : ℕ) → w ≡ n → j < m → i < n → j * w + i < m * n
place_below j i w m n ew hj hi =
    subst (λ x. j * x + i < m * n) (sym ew) (let k = mul-add-lt j n i m hj hi in omega (arith, k))

-- the place of a line's first crossing is small
row_small : (j i w m n : ℕ) → w ≡ n → j < m → i < n → m * n ≤ 2 ^ 24 → j * w < 2 ^ 24
row_small j i w m n ew hj hi few = let k = place_below j i w m n ew hj hi in omega (arith, k, few)

-- and so is each crossing's
place_small : (j i w m n : ℕ) → w ≡ n → j < m → i < n → m * n ≤ 2 ^ 24 → j * w + i < 2 ^ 24
place_small j i w m n ew hj hi few = let k = place_below j i w m n ew hj hi in omega (arith, k, few)

pub is_amid-requires : goal.is_amid-requires
is_amid-requires g c =
    subst (λ n. c.args.row < n) (sym (size _ _ _ c.len-height.ensures c.ys.ensures)) c.requires.row

pub is_amid-requires-2 : goal.is_amid-requires-2
is_amid-requires-2 g c =
    subst (λ n. c.args.column < n) (sym (size _ _ _ c.len-width.ensures c.xs.ensures)) c.requires.column

pub overflow_mul-result : goal.overflow_mul-result
overflow_mul-result g c =
    let m = c.args.moves.now.lat.now in
    let k = row_small c.args.row c.args.column c.len-width.result (length m.ys) (length m.xs)
    (size _ _ _ c.len-width.ensures c.xs.ensures) c.requires.row c.requires.column c.requires.small in
    omega (arith, k)

pub overflow_add-result : goal.overflow_add-result
overflow_add-result g c =
    let m = c.args.moves.now.lat.now in
    let k = place_small c.args.row c.args.column c.len-width.result (length m.ys) (length m.xs)
    (size _ _ _ c.len-width.ensures c.xs.ensures) c.requires.row c.requires.column c.requires.small in
    omega (arith, k)

pub bounds-inner-row : goal.bounds-inner-row
bounds-inner-row g c =
    let m = c.args.moves.now.lat.now in
    subst (λ n. c.args.row * c.len-width.result + c.args.column < n) (sym c.requires.inner.size)
    (place_below c.args.row c.args.column c.len-width.result (length m.ys) (length m.xs)
    (size _ _ _ c.len-width.ensures c.xs.ensures) c.requires.row c.requires.column)

pub returns : goal.returns
returns g c = λ told.
    let m = c.args.moves.now.lat.now in let j = c.args.row in let i = c.args.column in
    let width = size _ _ _ c.len-width.ensures c.xs.ensures in
    let height = size _ _ _ c.len-height.ensures c.ys.ensures in
    let across = c.is_amid-2.ensures in let up = c.is_amid.ensures in
    record {
      left = across.low c.if-not-is_amid-2.false;
      right = subst (λ n. i + 1 < n) width (across.high c.if-not-is_amid-2.false);
      bottom = up.low c.if-not-is_amid.false;
      top = subst (λ n. j + 1 < n) height (up.high c.if-not-is_amid.false);
      inside = c.requires.inner.each j i c.requires.column
          (place_below j i (length m.xs) (length m.ys) (length m.xs) refl c.requires.row c.requires.column)
          (subst (λ n. slice_index_or c.args.inner.now (j * n + i) false ≡ true) width told);
    }
