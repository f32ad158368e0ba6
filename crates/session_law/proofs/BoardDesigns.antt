-- The wiring of a design that was read.
use Rattle.std.proofs.Common.{◌∙◌, ℕ, List, [], ◌∷◌, ap, get_or, subst, sym}
use Rattle.std.specs.Prelude.{◌+◌, All, filter}
use Rattle.std.proofs.lemmas.List.Elements.{All-cons, All-filter, All-head, All-map, All-nil, All-tail, All-weaker}
use Rattle.pcb_model.specs.declared.item.Item.{Item}
use Rattle.pcb_model.specs.declared.design.Design.{Design}
use Rattle.pcb_model.specs.declared.design.FreeWire.{FreeWire}
use Rattle.dsn_shapes.specs.declared.parts.BanShape.{BanShape}
use Rattle.dsn_shapes.specs.declared.parts.LayerShape.{LayerShape}
use Rattle.dsn_shapes.specs.declared.parts.ReadWire.{ReadWire}
use Rattle.dsn_shapes.specs.declared.parts.Wiring.{Wiring}
use Rattle.dsn_design.specs.declared.parts.Parts.{Parts}
use Rattle.dsn_design.specs.Items.{ban_item, edge_item, free_wire, free_wiring, is_free, numbered_from, pad_item}
use Rattle.dsn_design.specs.Items.{placed_ban, wiring_item, with_id}
use Rattle.dsn_design.specs.Made.{IsDesignOf, design_with}
use Rattle.dsn_design.specs.Pins.{layer_count}
use Rattle.dsn_design.specs.Reading.{ArePartsOf, HasDesign}
use Rattle.dsn_design.proofs.FixedItems.{fixed_all, unnumbered}
use Rattle.dsn_design.proofs.FixedSound.{fixed_are}
use Rattle.dsn_design.proofs.Laid.{same_pieces}
use Rattle.dsn_tree.specs.declared.tree.Tree.{Tree}
use Rattle.session_law.specs.Back.{HasTwoPoints, IsReadable}
use Rattle.session_law.specs.Wired.{HasWiring}
use Rattle.session_law.proofs.BoardWires.{wires_long}

-- wires that were read have long points or more
abbrev AreLong : List ReadWire → Type 0
AreLong ws = All (λ (w : ReadWire). HasTwoPoints w.metal) ws

-- those of the parts of a tree
parts_long : (pcb : Tree) (p : Parts) → ArePartsOf pcb p → AreLong p.wiring.wires
parts_long pcb p are = subst (λ (w : Wiring). AreLong w.wires) (sym are.wiring.1)
    (wires_long p.head.scale.nm p.structure p.library p.placing p.network pcb are.wiring.0)

module _ (d : Design) where
  -- ---- fixed items
  -- edges are no copper
  edge_readable : (n : ℕ) (s : LayerShape) → IsReadable d (edge_item n s)
  unfolding edge_item
  edge_readable n s = record { points = tt; pieces = λ f c. cc }

  -- nor are keepouts
  ban_readable : (n : ℕ) (b : BanShape) → IsReadable d (ban_item n b)
  unfolding ban_item
  ban_readable n b = record { points = tt; pieces = λ f c. cc }

  -- fixed wiring has the pieces of its metal
  wiring_readable : (w : ReadWire) → HasTwoPoints w.metal → IsReadable d (wiring_item d.padstacks w)
  unfolding wiring_item
  wiring_readable w h = record { points = h; pieces = λ f c. sym (same_pieces d w.metal) }

  -- numbers make no difference
  numbered_readable : (id : ℕ) (items : List Item) → All (IsReadable d) items
      → All (IsReadable d) (numbered_from id items)
  numbered_readable id [] h = All-nil (IsReadable d)
  numbered_readable id (a ∷ items) h =
      let one = All-head (IsReadable d) a items h in
      All-cons (IsReadable d) (with_id id a) (numbered_from (id + 1) items)
      (record { points = one.points; pieces = one.pieces })
      (numbered_readable (id + 1) items (All-tail (IsReadable d) a items h))

  -- all fixed items before they are numbered
  parts_readable : (p : Parts) → AreLong p.wiring.wires → All (IsReadable d) (unnumbered p d.padstacks)
  unfolding placed_ban pad_item
  parts_readable p long = fixed_all (IsReadable d) p d.padstacks
      (λ k s within. edge_readable (layer_count p) (get_or p.structure.bounds k s))
      (λ k b within. ban_readable (layer_count p) (get_or p.structure.bans k b))
      (record {
        bans = λ place k b within. record { points = tt; pieces = λ f c. cc };
        pads = λ number place pin i shape within. record { points = tt; pieces = λ f c. cc };
      })
      (All-weaker (λ (w : ReadWire). HasTwoPoints w.metal) (λ (w : ReadWire). IsReadable d (wiring_item d.padstacks w))
      wiring_readable p.wiring.wires long)

  -- ---- a design of parts
  -- its fixed items
  fixed_readable : (p : Parts) → IsDesignOf p d → AreLong p.wiring.wires → All (IsReadable d) d.fixed
  fixed_readable p is long = subst (All (IsReadable d))
      (sym (ap (λ (x : Design). x.fixed) is.design ∙ fixed_are p d.padstacks))
      (numbered_readable 0 (unnumbered p d.padstacks) (parts_readable p long))

  -- its free wiring
  free_long : (p : Parts) → IsDesignOf p d → AreLong p.wiring.wires
      → All (λ (f : FreeWire). HasTwoPoints f.metal) d.free
  unfolding design_with free_wiring
  free_long p is long = subst (λ (x : Design). All (λ (f : FreeWire). HasTwoPoints f.metal) x.free) (sym is.design)
      (All-map (λ (f : FreeWire). HasTwoPoints f.metal) free_wire (filter is_free p.wiring.wires)
      (All-filter is_free (λ (w : ReadWire). HasTwoPoints w.metal) p.wiring.wires long))

-- a design that was read
pub wiring_of_read : (text : List ℕ) (d : Design) → HasDesign text d → HasWiring d
wiring_of_read text d h =
    let long = parts_long h.pcb h.parts h.are_parts in
    record {
      fixed = fixed_readable d h.parts h.design long;
      free = free_long d h.parts h.design long;
    }
