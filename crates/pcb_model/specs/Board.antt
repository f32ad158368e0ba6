-- Legal boards, and items that are joined.
use Rattle.std.specs.Prelude.{◌≡◌, ℕ, ◌≤◌, ◌<◌, Bool, false, List, [], ◌∷◌, Option, Some, length, filter, All, AllPairs}
use Rattle.std.specs.Prelude.{Any, Contains, slice_get, ◌⊎◌}
use Rattle.std.specs.Option.{IsSomeAnd, IfSome}
use Rattle.geo_kernel.specs.declared.point.Point.{Point}
use Rattle.geo_kernel.specs.Spine.{outline, BeginInside, IsInside}
use Rattle.pcb_model.specs.declared.item.Piece.{Piece}
use Rattle.pcb_model.specs.declared.item.Metal.{Metal}
use Rattle.pcb_model.specs.declared.item.Metal.TheVariants.{Wire, Via, Pad, Ban}
use Rattle.pcb_model.specs.declared.item.Item.{Item}
use Rattle.pcb_model.specs.declared.design.BoardLayer.{BoardLayer}
use Rattle.pcb_model.specs.declared.design.Net.{Net}
use Rattle.pcb_model.specs.declared.design.Design.{Design}
use Rattle.pcb_model.specs.Pieces.{item_of}
use Rattle.pcb_model.specs.Rules.{width_for}
use Rattle.pcb_model.specs.Pairs.{Agrees, AreTouching}

-- ---- inside
-- the point is inside every boundary
pub record IsInsideEach (bounds : List (List (List Point))) (p : Point) : Type 0 where
  pub each : All (IsInside p) bounds

-- the first vertex of the spine is inside every boundary
pub record BeginsInEach (bounds : List (List (List Point))) (p : Piece) : Type 0 where
  pub each : All (BeginInside (outline p.spine)) bounds

-- so is that of each piece
pub record AreInside (bounds : List (List (List Point))) (ps : List Piece) : Type 0 where
  pub each : All (BeginsInEach bounds) ps

-- ---- laid as the net wants it
abbrev pub IsSignal : Design → ℕ → Type 0
IsSignal d layer = IsSomeAnd (slice_get d.layers layer) (λ (l : BoardLayer). l.power ≡ false)

-- the net's list of vias has the padstack
abbrev pub IsListed : Design → ℕ → ℕ → Type 0
IsListed d net padstack = IsSomeAnd (slice_get d.nets net) (λ (n : Net). Any (λ v. v ≡ padstack) n.vias)

-- a wire lies on a signal layer and is at least as wide as its net; a via's padstack is in its net's list
abbrev pub IsMetalLaid : Design → Option ℕ → Metal → Type 0
IsMetalLaid d net (Wire layer width chain) = IsSignal d layer × IfSome net (λ n. width_for d n ≤ width)
IsMetalLaid d net (Via padstack at) = IfSome net (λ n. IsListed d n padstack)
IsMetalLaid d net (Pad pin) = Unit {0}
IsMetalLaid d net (Ban wires vias) = Unit {0}

abbrev pub IsLaid : Design → Item → Type 0
IsLaid d a = IsMetalLaid d a.net a.metal

-- ---- made of metal
-- the item is what its metal makes of a net of the design
pub record IsMade (d : Design) (a : Item) : Type 0 where
  pub net : ℕ
  pub net_there : net < length d.nets
  pub made : a ≡ item_of d a.id (Some net) false a.metal

-- ---- legal boards
abbrev pub is_fixed : Item → Bool
is_fixed a = a.fixed

abbrev pub IsRouted : Item → Type 0
IsRouted a = a.fixed ≡ false

-- each pair with a routed item agrees; routed items are inside, laid as their nets want and made of their metal;
-- the fixed items are the design's
pub record IsLegal (d : Design) (items : List Item) : Type 0 where
  pub agree : AllPairs (λ (a b : Item). IsRouted a ⊎ IsRouted b → Agrees d a b) items
  pub inside : All (λ (a : Item). IsRouted a → AreInside d.bounds a.pieces) items
  pub laid : All (λ (a : Item). IsRouted a → IsLaid d a) items
  pub made : All (λ (a : Item). IsRouted a → IsMade d a) items
  pub fixed_stay : filter is_fixed items ≡ d.fixed

-- ---- joined items
-- from a each item touches the next, and the last is b
abbrev pub LeadsTo : Item → List Item → Item → Type 0
LeadsTo a [] b = a ≡ b
LeadsTo a (c ∷ chain) b = AreTouching a c × LeadsTo c chain b

-- a chain of items of the list leads from a to b; no item leads from a to itself
pub record AreJoined (items : List Item) (a b : Item) : Type 0 where
  pub chain : List Item
  pub there : All (Contains items) chain
  pub leads : LeadsTo a chain b
