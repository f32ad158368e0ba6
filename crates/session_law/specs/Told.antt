-- When two boards have the same routed copper, up to ids and the direction of chains.
use Rattle.std.specs.Prelude.{◌≡◌, ◌⊎◌, ◌<◌, ℕ, Bool, true, false, not, ◌&&◌, List, length, map, filter, reverse, All}
use Rattle.std.specs.List.{list_all, AllZip}
use Rattle.pcb_model.specs.declared.item.Item.{Item}
use Rattle.pcb_model.specs.declared.item.Metal.{Metal}
use Rattle.pcb_model.specs.declared.item.Metal.TheVariants.{Wire, Via, Pad, Ban}
use Rattle.pcb_model.specs.declared.design.Design.{Design}
use Rattle.pcb_model.specs.Board.{IsRouted}
use Rattle.pcb_model.specs.Scale.{is_whole, is_whole_point, scale_of}
use Rattle.pcb_model.specs.Sound.{IsItemOf}
use Rattle.ses_writer.specs.Session.{is_of_net}

-- ---- the copper of nets
-- a wire or a via
abbrev pub is_copper : Metal → Bool
is_copper (Wire layer width chain) = true
is_copper (Via padstack at) = true
is_copper (Pad pin) = false
is_copper (Ban wires vias) = false

-- of the net and not fixed
abbrev pub is_routed_of : ℕ → Item → Bool
is_routed_of net a = is_of_net net a && not a.fixed

-- the wires and vias among them, in the order of the items
abbrev pub routed_copper : ℕ → List Item → List Metal
routed_copper net items = filter is_copper (map (λ (a : Item). a.metal) (filter (is_routed_of net) items))

-- a wire whose chain begins at the other end; a via as it is
abbrev pub backwards : Metal → Metal
backwards (Wire layer width chain) = Wire layer width (reverse chain)
backwards m = m

-- the same, or wires that differ in the direction of their chains alone
abbrev pub AreAlike : Metal → Metal → Type 0
AreAlike m n = (m ≡ n) ⊎ (m ≡ backwards n)

-- of each net of the design as many wires and vias, in one order and alike one by one
pub record HaveSameCopper (d : Design) (first second : List Item) : Type 0 where
  pub each : (net : ℕ) → net < length d.nets → AllZip AreAlike (routed_copper net first) (routed_copper net second)

-- ---- on scale
-- a wire's width and points, or a via's place, are whole in units of so many nm
abbrev pub is_whole_copper : ℕ → Metal → Bool
is_whole_copper nm (Wire layer width chain) = is_whole nm width && list_all (is_whole_point nm) chain
is_whole_copper nm (Via padstack at) = is_whole_point nm at
is_whole_copper nm (Pad pin) = true
is_whole_copper nm (Ban wires vias) = true

-- so is the copper of each routed item
abbrev pub IsOnScale : ℕ → List Item → Type 0
IsOnScale nm items = All (λ (a : Item). IsRouted a → is_whole_copper nm a.metal ≡ true) items

-- routed items of the design, on the scale of its session
pub record AreRoutedOf (d : Design) (items : List Item) : Type 0 where
  pub routed : All IsRouted items
  pub items_fit : All (IsItemOf d) items
  pub on_scale : IsOnScale (scale_of d).nm items
