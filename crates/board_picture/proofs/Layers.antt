-- The groups of layers, from the last one up.
use Rattle.std.proofs.Common.{◌≡◌, ℕ, zero, suc, ◌-◌, ◌<◌, List, ◌++◌, ap, arith}
use Rattle.pcb_model.specs.declared.item.Item.{Item}
use Rattle.pcb_model.specs.declared.design.Design.{Design}
use Rattle.board_picture.specs.Picture.{layer_group, layer_groups}

-- the layer below so many comes first
pub layers_next : (d : Design) (items : List Item) (n : ℕ) → 0 < n
    → layer_groups d items n ≡ layer_group d items (n - 1) ++ layer_groups d items (n - 1)
layers_next d items zero some = absurd (omega (arith, some))
layers_next d items (suc n) some =
    let one : n ≡ suc n - 1 = omega arith in
    ap (λ (k : ℕ). layer_group d items k ++ layer_groups d items k) one
