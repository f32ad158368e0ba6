-- Stretches as a report tells them, and as they were kept.
use Rattle.std.proofs.Common.{◌≡◌, ◌∙◌, ◌-◌, ◌^◌, ◌<◌, ◌≤◌, ℕ, ap, arith, length, min, refl, sym}
use Rattle.route_lattice.specs.Mesh.{Mesh, node_at, node_count}
use Rattle.route_lattice.proofs.Rooms.{node_fits}
use Rattle.cut_check.specs.declared.stretch.Stretch.{Stretch}
use Rattle.cut_check.specs.Stretches as kept
use Rattle.report_form.specs.Form.{RunTold, value}
use Rattle.report_form.specs.Reading.{run_kept}
use Rattle.route_check.specs.Judged.{IsOfRun}
use Rattle.route_check.specs.inner.Kept.{stretch_of}

-- a number that is small when it was capped was kept
same_small : (n most : ℕ) → min n most < most → min n most ≡ n
same_small n most low = omega (arith, low)

-- and a small one is kept
kept_small : (n most : ℕ) → n < most → min n most ≡ n
kept_small n most low = omega (arith, low)

-- the stretch of a run that was kept
abbrev pub laid : RunTold → Stretch
laid r = stretch_of (run_kept r)

module _ (m : Mesh) (few : node_count m ≤ 2 ^ 24) (levels : length m.layers ≤ 2 ^ 24) where
  -- where the lattice has a node, its rows and its columns are few
  sides : (l j i : ℕ) → l < length m.layers → j < length m.ys → i < length m.xs
      → (length m.xs ≤ 2 ^ 24) × (length m.ys ≤ 2 ^ 24)
  sides l j i level row column =
      let w = node_fits m (length m.xs) (length m.ys) 0 0 (length m.xs - 1) refl refl few (omega (arith, level))
      (omega (arith, row)) (omega (arith, column)) in
      let h = node_fits m (length m.xs) (length m.ys) 0 (length m.ys - 1) 0 refl refl few (omega (arith, level))
      (omega (arith, row)) (omega (arith, column)) in
      (omega (arith, w.0), omega (arith, h.1))

  pub to_kept : (r : RunTold) (node : ℕ) → IsOfRun m r node → kept.IsOfStretch m (laid r) node
  to_kept r node o =
      let up = o.to in
      let from = o.from in
      let last = o.there in
      let s = sides (value r.level) (value r.row) (value r.last) o.level_there o.row_there o.there in
      let le = o.level_there in
      let ro = o.row_there in
      let level = kept_small (value r.level) (2 ^ 32 - 1) (omega (arith, le, levels)) in
      let row = kept_small (value r.row) (2 ^ 32 - 1) (omega (arith, ro, s.1)) in
      let end_ = kept_small (value r.last) (2 ^ 32 - 1) (omega (arith, last, s.0)) in
      let first = kept_small (value r.first) (2 ^ 32 - 1) (omega (arith, from, up, last, s.0)) in
      record {
        level_there = omega (arith, level, le);
        row_there = omega (arith, row, ro);
        column = o.column;
        from = omega (arith, first, from);
        to = omega (arith, end_, up);
        there = omega (arith, end_, last);
        is = o.is
            ∙ ap (λ (l : ℕ). node_at m l (value r.row) o.column) (sym level)
            ∙ ap (λ (j : ℕ). node_at m (min (value r.level) (2 ^ 32 - 1)) j o.column) (sym row);
      }

  pub to_told : (r : RunTold) (node : ℕ) → kept.IsOfStretch m (laid r) node → IsOfRun m r node
  to_told r node o =
      let up = o.to in
      let from = o.from in
      let last = o.there in
      let s = sides (laid r).level (laid r).row (laid r).last o.level_there o.row_there o.there in
      let le = o.level_there in
      let ro = o.row_there in
      let level = same_small (value r.level) (2 ^ 32 - 1) (omega (arith, le, levels)) in
      let row = same_small (value r.row) (2 ^ 32 - 1) (omega (arith, ro, s.1)) in
      let end_ = same_small (value r.last) (2 ^ 32 - 1) (omega (arith, last, s.0)) in
      let first = same_small (value r.first) (2 ^ 32 - 1) (omega (arith, from, up, last, s.0)) in
      record {
        level_there = omega (arith, level, le);
        row_there = omega (arith, row, ro);
        column = o.column;
        from = omega (arith, first, from);
        to = omega (arith, end_, up);
        there = omega (arith, end_, last);
        is = o.is
            ∙ ap (λ (l : ℕ). node_at m l (min (value r.row) (2 ^ 32 - 1)) o.column) level
            ∙ ap (λ (j : ℕ). node_at m (value r.level) j o.column) row;
      }
