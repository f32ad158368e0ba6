-- The fixed items of a sound design as copper.
use Rattle.std.proofs.Common.{◌≡◌, ℕ, ◌<◌, refl, sym, ap, subst, Bool, true, List, [], ◌∷◌, All, length, get_or}
use Rattle.std.proofs.Common.{cond, arith}
use Prim.Native.Nat.{suc}
use Rattle.std.specs.Prelude.{filter}
use Rattle.std.proofs.lemmas.Option.{slice_get-get_or}
use Rattle.pcb_model.specs.declared.item.Item.{Item}
use Rattle.pcb_model.specs.declared.design.Design.{Design}
use Rattle.pcb_model.specs.Board.{is_fixed}
use Rattle.pcb_model.specs.Sound.{IsSound, IsFixedSound, Serves}

-- a fixed item of a sound design
pub fixed_at : (d : Design) → IsSound d → (k : ℕ) (x : Item) → k < length d.fixed
    → IsFixedSound d k (get_or d.fixed k x)
fixed_at d sound k x within = sound.fixed k (get_or d.fixed k x) (slice_get-get_or d.fixed k x within)

-- an item of the design
abbrev IsFixed : Item → Type 0
IsFixed a = a.fixed ≡ true

-- items that are all fixed
kept : (xs : List Item) → All IsFixed xs → filter is_fixed xs ≡ xs
kept [] fixed = refl
kept (x ∷ xs) fixed =
    subst (λ (b : Bool). cond b (x ∷ filter is_fixed xs) (filter is_fixed xs) ≡ x ∷ xs)
    (sym (fixed 0 x (omega arith)))
    (ap (λ rest. x ∷ rest) (kept xs (λ k d within. fixed (suc k) d (omega arith))))

-- the fixed items serve the design
pub fixed_serve : (d : Design) → IsSound d → Serves d.fixed d
fixed_serve d sound = record {
  design_fits = sound.fits;
  fixed_there = kept d.fixed (λ k x within. (fixed_at d sound k x within).fixed);
  items_fit = λ k x within. (fixed_at d sound k x within).item;
}
