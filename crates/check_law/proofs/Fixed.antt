-- Fixed copper of a design that was read has the kind of its metal.
use Rattle.std.proofs.Common.{◌≡◌, ◌∙◌, ℕ, List, [], ◌∷◌, ap, get_or, refl, subst, sym, true}
use Rattle.std.specs.Prelude.{◌+◌, All}
use Rattle.std.proofs.lemmas.List.Elements.{All-cons, All-head, All-nil, All-tail}
use Rattle.pcb_model.specs.declared.item.Item.{Item}
use Rattle.pcb_model.specs.declared.design.Design.{Design}
use Rattle.pcb_model.specs.declared.design.Padstack.{Padstack}
use Rattle.pcb_model.specs.Pieces.{kind_of}
use Rattle.dsn_shapes.specs.declared.parts.BanShape.{BanShape}
use Rattle.dsn_shapes.specs.declared.parts.LayerShape.{LayerShape}
use Rattle.dsn_shapes.specs.declared.parts.ReadWire.{ReadWire}
use Rattle.dsn_design.specs.declared.parts.Parts.{Parts}
use Rattle.dsn_design.specs.Items.{ban_item, edge_item, numbered_from, pad_item, placed_ban, wiring_item, with_id}
use Rattle.dsn_design.specs.Pins.{layer_count}
use Rattle.dsn_design.specs.Reading.{HasDesign}
use Rattle.dsn_design.proofs.FixedItems.{fixed_all, unnumbered}
use Rattle.dsn_design.proofs.FixedSound.{fixed_are}
use Rattle.session_law.specs.Told.{is_copper}

-- an item that is copper has its kind
pub record HasKind (a : Item) : Type 0 where
  pub kind : is_copper a.metal ≡ true → a.kind ≡ kind_of a.metal

-- ---- item by item
-- edges are no copper
edge_kind : (n : ℕ) (s : LayerShape) → HasKind (edge_item n s)
unfolding edge_item
edge_kind n s = record { kind = λ c. cc }

-- nor are keepouts
ban_kind : (n : ℕ) (b : BanShape) → HasKind (ban_item n b)
unfolding ban_item
ban_kind n b = record { kind = λ c. cc }

-- fixed wiring has it
wiring_kind : (stacks : List Padstack) (w : ReadWire) → HasKind (wiring_item stacks w)
unfolding wiring_item
wiring_kind stacks w = record { kind = λ c. refl }

-- numbers make no difference
numbered_kind : (id : ℕ) (items : List Item) → All HasKind items → All HasKind (numbered_from id items)
numbered_kind id [] h = All-nil HasKind
numbered_kind id (a ∷ items) h =
    All-cons HasKind (with_id id a) (numbered_from (id + 1) items)
    (record { kind = (All-head HasKind a items h).kind })
    (numbered_kind (id + 1) items (All-tail HasKind a items h))

-- all fixed items before they are numbered
parts_kind : (p : Parts) (stacks : List Padstack) → All HasKind (unnumbered p stacks)
unfolding placed_ban pad_item
parts_kind p stacks = fixed_all HasKind p stacks
    (λ k s within. edge_kind (layer_count p) (get_or p.structure.bounds k s))
    (λ k b within. ban_kind (layer_count p) (get_or p.structure.bans k b))
    (record {
      bans = λ place k b within. record { kind = λ c. cc };
      pads = λ place q pin number i below. record { kind = λ c. cc };
    })
    (λ k w within. wiring_kind stacks (get_or p.wiring.wires k w))

-- ---- a design that was read
pub fixed_kinds : (text : List ℕ) (d : Design) → HasDesign text d → All HasKind d.fixed
fixed_kinds text d h = subst (All HasKind)
    (sym (ap (λ (x : Design). x.fixed) h.design.design ∙ fixed_are h.parts d.padstacks))
    (numbered_kind 0 (unnumbered h.parts d.padstacks) (parts_kind h.parts d.padstacks))
