-- How many entries of tiles a search looks at, at most.
use Rattle.std.proofs.Common.{get_or, ℕ, ℤ, ◌-◌, ◌*◌, ◌<◌, ◌≤◌, ◌^◌, suc}
use Rattle.std.proofs.Common.{List}
use Rattle.std.proofs.Common.{length, arith}
use Rattle.std.specs.Prelude.{unsigned_abs}
use Rattle.std.specs.List.{sum_by, count_by}
use Rattle.std.proofs.Math.Nat.{mul-le-mul_right}
use Rattle.std.proofs.lemmas.Int.{ints}
use Rattle.std.proofs.lemmas.List.Sums.{sum_by-le, count_by-le-length}
use Rattle.std.proofs.lemmas.List.FromFn.{length-range_with_len}
use Rattle.geo_kernel.specs.declared.point.Rect4.{Rect4}
use Rattle.pcb_model.specs.declared.item.Item.{Item}
use Rattle.pcb_tiles.specs.Tiling.{tile_of, IsArea, has_entry, columns_of, rows_of, block_of}
use Rattle.pcb_tiles.specs.Tiling.{entries_in}
use Rattle.pcb_tiles.proofs.Tilings.{block_in}

tile_small : (z : ℤ) → unsigned_abs z ≤ 536870912 → tile_of z < 2047
tile_small z h = omega (arith, ints)

few_columns : (area box : Rect4) (by : ℕ) → IsArea area → length (columns_of (block_of area box by)) ≤ 2048
few_columns area box by h =
    let b = block_of area box by in
    let i = block_in area box by h in
    let t = tile_small area.x1 h.within.x1_within in
    let l = i.columns_within in
    let n = length-range_with_len b.first_column (suc b.last_column - b.first_column) in
    omega (arith, t, l, n)

few_rows : (area box : Rect4) (by : ℕ) → IsArea area → length (rows_of (block_of area box by)) ≤ 2048
few_rows area box by h =
    let b = block_of area box by in
    let i = block_in area box by h in
    let t = tile_small area.y1 h.within.y1_within in
    let l = i.rows_within in
    let n = length-range_with_len b.first_row (suc b.last_row - b.first_row) in
    omega (arith, t, l, n)

in_row : (area : Rect4) (items : List Item) (columns : List ℕ) (row : ℕ) → length columns ≤ 2048
    → sum_by (λ column. count_by (has_entry area row column) items) columns ≤ 2048 * length items
in_row area items columns row few =
    let all = sum_by-le (λ column. count_by (has_entry area row column) items) (length items) columns
    (λ k d within. count_by-le-length (has_entry area row (get_or columns k d)) items) in
    let wide = mul-le-mul_right (length items) few in
    omega (arith, all, wide)

-- an item has an entry in each of at most 2^22 tiles
pub few_entries : (area box : Rect4) (items : List Item) (by : ℕ) → IsArea area
    → entries_in area items (block_of area box by) ≤ 2 ^ 22 * length items
few_entries area box items by h =
    let columns = columns_of (block_of area box by) in
    let rows = rows_of (block_of area box by) in
    let all = sum_by-le (λ row. sum_by (λ column. count_by (has_entry area row column) items) columns)
    (2048 * length items) rows
    (λ k d within. in_row area items columns (get_or rows k d) (few_columns area box by h)) in
    let tall = mul-le-mul_right (2048 * length items) (few_rows area box by h) in
    omega (arith, all, tall)
