use Rattle.std.proofs.Common.{sym, subst, ap, pos}
use Rattle.std.specs.Prelude.{◌+ℤ◌, ◌-ℤ◌}
use Rattle.std.proofs.lemmas.Int.{to_z-of_z}
use mir.Syntax.{w64}
use Rattle.pcb_tiles.specs.Tiling.{IsBlockIn}
use Rattle.pcb_tiles.proofs.Tilings.{block_is, block_in, fits_same, place_same}
use Rattle.pcb_tiles.proofs.block.block_around.Goals as goal

pub returns-clause-of : goal.returns-clause-of
returns-clause-of c = record {
  is =
      block_is c.args.area c.args.bounds c.args.by c.place_before-column.result c.max.result
      c.place_before-row.result c.max-2.result c.place_after.result c.place_after-2.result
      (place_same _ _ _ c.args.area.x0 c.args.area.x1 (c.args.bounds.x0 -ℤ pos c.args.by) _
      c.place_before-column.ensures (to_z-of_z w64 c.args.area.x0 (fits_same _ c.requires.area.within.x0_within))
      (to_z-of_z w64 c.args.area.x1 (fits_same _ c.requires.area.within.x1_within))
      (ap (λ t. t -ℤ pos c.args.by)
      (to_z-of_z w64 c.args.bounds.x0 (fits_same _ c.requires.bounds_within.x0_within))))
      (place_same _ _ _ c.args.area.y0 c.args.area.y1 (c.args.bounds.y0 -ℤ pos c.args.by) _
      c.place_before-row.ensures (to_z-of_z w64 c.args.area.y0 (fits_same _ c.requires.area.within.y0_within))
      (to_z-of_z w64 c.args.area.y1 (fits_same _ c.requires.area.within.y1_within))
      (ap (λ t. t -ℤ pos c.args.by)
      (to_z-of_z w64 c.args.bounds.y0 (fits_same _ c.requires.bounds_within.y0_within))))
      (place_same _ _ _ c.args.area.x0 c.args.area.x1 (c.args.bounds.x1 +ℤ pos c.args.by) _
      c.place_after.ensures (to_z-of_z w64 c.args.area.x0 (fits_same _ c.requires.area.within.x0_within))
      (to_z-of_z w64 c.args.area.x1 (fits_same _ c.requires.area.within.x1_within))
      (ap (λ t. t +ℤ pos c.args.by)
      (to_z-of_z w64 c.args.bounds.x1 (fits_same _ c.requires.bounds_within.x1_within))))
      (place_same _ _ _ c.args.area.y0 c.args.area.y1 (c.args.bounds.y1 +ℤ pos c.args.by) _
      c.place_after-2.ensures (to_z-of_z w64 c.args.area.y0 (fits_same _ c.requires.area.within.y0_within))
      (to_z-of_z w64 c.args.area.y1 (fits_same _ c.requires.area.within.y1_within))
      (ap (λ t. t +ℤ pos c.args.by)
      (to_z-of_z w64 c.args.bounds.y1 (fits_same _ c.requires.bounds_within.y1_within))))
      c.max.ensures c.max-2.ensures;
}

pub returns-clause-within : goal.returns-clause-within
returns-clause-within c =
    subst (IsBlockIn c.args.area)
    (sym (block_is c.args.area c.args.bounds c.args.by c.place_before-column.result c.max.result
    c.place_before-row.result c.max-2.result c.place_after.result c.place_after-2.result
    (place_same _ _ _ c.args.area.x0 c.args.area.x1 (c.args.bounds.x0 -ℤ pos c.args.by) _
    c.place_before-column.ensures (to_z-of_z w64 c.args.area.x0 (fits_same _ c.requires.area.within.x0_within))
    (to_z-of_z w64 c.args.area.x1 (fits_same _ c.requires.area.within.x1_within))
    (ap (λ t. t -ℤ pos c.args.by)
    (to_z-of_z w64 c.args.bounds.x0 (fits_same _ c.requires.bounds_within.x0_within))))
    (place_same _ _ _ c.args.area.y0 c.args.area.y1 (c.args.bounds.y0 -ℤ pos c.args.by) _
    c.place_before-row.ensures (to_z-of_z w64 c.args.area.y0 (fits_same _ c.requires.area.within.y0_within))
    (to_z-of_z w64 c.args.area.y1 (fits_same _ c.requires.area.within.y1_within))
    (ap (λ t. t -ℤ pos c.args.by)
    (to_z-of_z w64 c.args.bounds.y0 (fits_same _ c.requires.bounds_within.y0_within))))
    (place_same _ _ _ c.args.area.x0 c.args.area.x1 (c.args.bounds.x1 +ℤ pos c.args.by) _
    c.place_after.ensures (to_z-of_z w64 c.args.area.x0 (fits_same _ c.requires.area.within.x0_within))
    (to_z-of_z w64 c.args.area.x1 (fits_same _ c.requires.area.within.x1_within))
    (ap (λ t. t +ℤ pos c.args.by)
    (to_z-of_z w64 c.args.bounds.x1 (fits_same _ c.requires.bounds_within.x1_within))))
    (place_same _ _ _ c.args.area.y0 c.args.area.y1 (c.args.bounds.y1 +ℤ pos c.args.by) _
    c.place_after-2.ensures (to_z-of_z w64 c.args.area.y0 (fits_same _ c.requires.area.within.y0_within))
    (to_z-of_z w64 c.args.area.y1 (fits_same _ c.requires.area.within.y1_within))
    (ap (λ t. t +ℤ pos c.args.by)
    (to_z-of_z w64 c.args.bounds.y1 (fits_same _ c.requires.bounds_within.y1_within))))
    c.max.ensures c.max-2.ensures))
    (block_in c.args.area c.args.bounds c.args.by c.requires.area)
