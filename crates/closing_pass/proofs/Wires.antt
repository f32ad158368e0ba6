-- A wire with another chain, in the place of a wire of the board.
use Rattle.std.proofs.Common.{◌≡◌, ℕ, ◌+◌, ◌<◌, ◌≤◌, ◌^◌, List, length, Option, Some, refl, sym, subst, arith, All}
use Rattle.std.specs.Prelude.{IfSome}
use Rattle.std.proofs.lemmas.List.Elements.{All-contains}
use Rattle.geo_kernel.specs.declared.point.Point.{Point}
use Rattle.geo_kernel.specs.Plane.{IsWithin}
use Rattle.pcb_model.specs.declared.item.Metal.{Metal}
use Rattle.pcb_model.specs.declared.item.Metal.TheVariants as metal
use Rattle.pcb_model.specs.declared.item.Item.{Item}
use Rattle.pcb_model.specs.Bounds.{IsMetalFit}
use Rattle.pcb_model.specs.Sound.{IsItemOf, IsNetOf}
use Rattle.shove.specs.Shoves.{IsWire, chain_of}
use Rattle.shove.proofs.Shoving.{chain_within, enough_points}
use Rattle.board_offers.specs.Items.{reshaped, with_chain}
use Rattle.board_offers.proofs.Fitting.{reshaped_fits}
use Rattle.least_offer.proofs.Replacing.{wire_same, wire_within}
use Rattle.pcb_board.specs.Keeping.{IsBoard}
use Rattle.pcb_board.proofs.Standing.{serves_now}
use Rattle.closing_pass.specs.inner.Rooms.{CanReplaceId, MakesRoom}
use Rattle.closing_pass.specs.inner.Tries.{IsShoveTo, IsShutIsland, IsTriedItem, ShutIslandOf}

-- what has a run is a wire
pub long_wire : (mt : Metal) (r : ℕ) → r + 1 < length (chain_of mt) → IsWire mt
long_wire (metal.Wire layer width chain) r long = tt
long_wire (metal.Via padstack at) r long = absurd (omega (arith, long))
long_wire (metal.Pad pin) r long = absurd (omega (arith, long))
long_wire (metal.Ban wires vias) r long = absurd (omega (arith, long))

chain_fit : (mt : Metal) (chain : List Point) → IsWire mt → IsMetalFit mt → 2 ≤ length chain
    → All (IsWithin (2 ^ 29)) chain → IsMetalFit (with_chain chain mt)
chain_fit (metal.Wire layer width points) chain wire fit some within = (omega (arith, some), within, fit.2)
chain_fit (metal.Via padstack at) chain wire fit some within = absurd wire
chain_fit (metal.Pad pin) chain wire fit some within = absurd wire
chain_fit (metal.Ban wires vias) chain wire fit some within = absurd wire

module _ (s : ShutIslandOf) (inv : IsShutIsland s.lat s.via_cost s.board s.island s.others s.cut)
    (kept : IsBoard s.board)
    (x : Item) (tried : IsTriedItem s x) where
  pub item_of_board : IsItemOf s.board.design x
  item_of_board =
      All-contains (IsItemOf s.board.design) s.board.items x (serves_now s.board kept).items_fit tried.there

  module _ (chain : List Point) (to : IsShoveTo s x chain) where
    some : 2 ≤ length chain
    some = enough_points s.lat (chain_of x.metal) to.r to.up chain to.shove.shoved

    within : All (IsWithin (2 ^ 29)) chain
    within = chain_within s.board.design s.lat (chain_of x.metal) to.r to.up chain inv.can.fits
        (wire_within x.metal item_of_board.metal_fits) to.shove.shoved

    pub moved_fit : IsMetalFit (with_chain chain x.metal)
    moved_fit = chain_fit x.metal chain to.wire item_of_board.metal_fits some within

    pub makes_moved : (moved : Item) → moved ≡ reshaped s.board.design x.id chain x
        → MakesRoom s.board x.id (Some moved)
    makes_moved moved is = record {
      item = x;
      there = tried.there;
      routed = tried.routed;
      id_is = refl;
      moved_fits = subst (CanReplaceId s.board.design x.id) (sym is) (record {
        id_is = refl;
        fits = reshaped_fits s.board.design x.id tried.other.own chain x kept.sound item_of_board tried.other.own_is
            (subst (λ (q : Option ℕ). IfSome q (IsNetOf s.board.design)) tried.other.own_is
            item_of_board.net_in_range) (wire_same x.metal to.wire) some within;
        routed = refl;
      });
    }
