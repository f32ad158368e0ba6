-- The frame of a design, filled with its items.
use Rattle.std.proofs.Common.{◌≡◌, ◌∙◌, ap, sym, subst, ℕ, List, [], refl}
use Rattle.pcb_model.specs.declared.item.Item.{Item}
use Rattle.pcb_model.specs.declared.design.Design.{Design}
use Rattle.pcb_model.specs.declared.design.FreeWire.{FreeWire}
use Rattle.pcb_model.specs.declared.design.Padstack.{Padstack}
use Rattle.dsn_design.specs.declared.parts.Parts.{Parts}
use Rattle.dsn_design.specs.Counts.{IsCountedOf, bare_with, connected, counted_items, counted_with, labelled, outlined}
use Rattle.dsn_design.specs.Counts.{populated}
use Rattle.dsn_design.specs.Items.{free_wiring}
use Rattle.dsn_design.specs.Made.{ArePadstacksOf, design_with}
use Rattle.dsn_design.specs.Pins.{layer_count}
use Rattle.dsn_design.specs.Usable.{AreUsable, padstacks_of, usables}

pub frame_stacks : (p : Parts) (stacks : List Padstack) (fixed : List Item) (free : List FreeWire)
    → (counted_with p stacks fixed free).padstacks ≡ stacks
unfolding design_with
frame_stacks p stacks fixed free = refl

filled : (p : Parts) (stacks : List Padstack) (fixed : List Item) (free : List FreeWire)
    → fixed ≡ counted_items p stacks → free ≡ free_wiring p.wiring.wires → ArePadstacksOf p stacks
    → IsCountedOf p (counted_with p stacks fixed free)
unfolding design_with
filled p stacks fixed free f g h = record {
  padstacks = h;
  design = ap (λ (items : List Item). counted_with p stacks items free) f
      ∙ ap (λ (wires : List FreeWire). counted_with p stacks (counted_items p stacks) wires) g;
}

refilled : (p : Parts) (stacks : List Padstack) (fixed : List Item) (free : List FreeWire)
    → IsCountedOf p (counted_with p stacks fixed free)
    → IsCountedOf p (record (counted_with p stacks [] free) { fixed = fixed })
unfolding design_with
refilled p stacks fixed free h = h

pub made : (p : Parts) (n : ℕ) (stacks : List Padstack) (free : List FreeWire) (frame d : Design) → n ≡ layer_count p
    → stacks ≡ padstacks_of n (usables stacks) p.library.stacks → AreUsable n (usables stacks) p.library.stacks
    → free ≡ free_wiring p.wiring.wires → frame ≡ counted_with p stacks [] free
    → d ≡ record frame { fixed = counted_items p frame.padstacks } → IsCountedOf p d
made p n stacks free frame d m a u g e is =
    let fixed = counted_items p frame.padstacks in
    let f : fixed ≡ counted_items p stacks =
    ap (counted_items p) (ap (λ (x : Design). x.padstacks) e ∙ frame_stacks p stacks [] free) in
    let h : ArePadstacksOf p stacks = record {
      are = subst (λ k. stacks ≡ padstacks_of k (usables stacks) p.library.stacks) m a;
      usable = subst (λ k. AreUsable k (usables stacks) p.library.stacks) m u;
    } in
    let full : IsCountedOf p (record frame { fixed = fixed }) =
    subst (λ (x : Design). IsCountedOf p (record x { fixed = fixed })) (sym e)
    (refilled p stacks fixed free (filled p stacks fixed free f g h)) in
    subst (IsCountedOf p) (sym is) full

-- filled part by part, the bare design is the frame
pub framed : (p : Parts) (stacks : List Padstack) (free : List FreeWire) (a b c d : Design)
    → a ≡ bare_with p stacks free → b ≡ outlined p.structure (labelled p.head a) → c ≡ populated p b → d ≡ connected p c
    → d ≡ counted_with p stacks [] free
unfolding design_with
framed p stacks free a b c d is_bare is_outlined is_populated is_connected =
    is_connected ∙ ap (connected p) (is_populated ∙ ap (populated p) (is_outlined
    ∙ ap (λ (x : Design). outlined p.structure (labelled p.head x)) is_bare))
