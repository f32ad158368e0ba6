-- The copper on which stubs are sought, and what comes to it.
use Rattle.std.specs.Prelude.{◌≡◌, ℕ, ◌+◌, ◌<◌, ◌≤◌, ◌^◌, Bool, true, false, List, [], ◌∷◌, ◌++◌, length, map, All}
use Rattle.std.specs.Prelude.{Some, slice_get}
use Rattle.pcb_model.specs.declared.item.Item.{Item}
use Rattle.pcb_model.specs.declared.item.Metal.{Metal}
use Rattle.pcb_model.specs.declared.design.Design.{Design}
use Rattle.pcb_model.specs.Bounds.{HasClearancesWithin}
use Rattle.pcb_model.specs.Sound.{IsCopper, IsFixedSound}
use Rattle.pcb_islands.specs.declared.net.Island.{Island}
use Rattle.plane_joins.specs.Stubs.{BeginsWith, HoldsRib, IsServed, IsStub, RibGround, TriesPin, TriesPins}
use Rattle.plane_joins.specs.Stubs.{laid_from, loose, with_items}
use Rattle.plane_stubs.specs.declared.held.Held.{Held}
use Rattle.plane_stubs.specs.inner.Sites.{SiteOf}

-- the tiles hold the design's fixed items, and behind them what was added, as routed items
pub record IsHeld (s : SiteOf) (h : Held) : Type 0 where
  pub held : h.tiles.items ≡ s.d.fixed ++ map loose h.added
  pub reach : HasClearancesWithin h.tiles.reach s.d
  pub each : (i : ℕ) (a : Item) → slice_get (s.d.fixed ++ h.added) i ≡ Some a → IsFixedSound s.d i a
  pub copper : All (λ (a : Item). IsCopper a.metal) h.added
  pub past_ribs : s.last ≤ length h.tiles.items

-- what the rest of the metals are laid as from here, all of them are from the first copper
pub record LeadsLaid (d : Design) (net : ℕ) (first : List Item) (all : List Metal) (items : List Item)
    (rest : List Metal) : Type 0 where
  pub same : items ++ laid_from d net (length items) rest ≡ first ++ laid_from d net (length first) all

-- the island at this place begins with the pin
pub record IsBeginning (found : List Island) (pin place : ℕ) : Type 0 where
  pub island : Island
  pub there : slice_get found place ≡ Some island
  pub begins : BeginsWith pin island

-- the island is served, or gets a stub
abbrev pub TriesIsland : RibGround → Island → List Item → Bool → Type 0
TriesIsland g s after false = IsServed g s × (after ≡ g.items)
TriesIsland g s after true = ¬ (HoldsRib g s) × (metals : List Metal) × IsStub g s metals
    × (after ≡ g.items ++ laid_from g.d s.net (length g.items) metals)

-- a pin is tried, and the copper is as before where no stub came
pub record HasTriedPin (g : RibGround) (net pin : ℕ) (after : List Item) (laid : Bool) : Type 0 where
  pub tries : TriesPin g net pin after
  pub none : laid ≡ false → after ≡ g.items

-- what the rest of the pins take from here, all of them take from the first copper
pub record LeadsPins (g : RibGround) (net : ℕ) (all : List ℕ) (items : List Item) (rest : List ℕ) : Type 0 where
  pub on : (after : List Item) → TriesPins (with_items g items) net rest after → TriesPins g net all after
