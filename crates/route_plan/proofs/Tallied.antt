-- What a map of a group says is so for each net of the group.
use Rattle.std.proofs.Common.{◌≡◌, ℕ, ◌<◌, List, Option, Some, None, inl, inr, sym, subst}
use Rattle.std.specs.Prelude.{slice_index}
use Rattle.pcb_model.specs.declared.item.Item.{Item}
use Rattle.pcb_model.specs.declared.item.Probe.{Probe}
use Rattle.pcb_model.specs.declared.design.Design.{Design}
use Rattle.pcb_model.specs.Pieces.{pieces_of, metal_of, kind_of}
use Rattle.pcb_model.specs.Pairs.{PiecesKeep}
use Rattle.route_lattice.specs.Mesh.{Mesh, node_count}
use Rattle.route_lattice.specs.Ways.{way_count}
use Rattle.route_lattice.specs.Legal.{probe_at}
use Rattle.move_maps.specs.declared.map.GroupMap.{GroupMap}
use Rattle.move_maps.specs.Groups.{AreAlike}
use Rattle.move_maps.specs.Clear.{IsClearOf}
use Rattle.move_maps.specs.Maps.{IsTally, IsMapOf, place_at}
use Rattle.move_maps.proofs.Alike.{same_clearance, same_probe, same_way_count}
use Rattle.move_maps.proofs.Grouping.{back, through}
use Rattle.route_plan.proofs.Missing.{missed_alike}

-- what is clear of an item for one net of a group is so for another
clear_alike : (d : Design) (g h : ℕ) → AreAlike d g h → (p : Probe) (b : Item) → IsClearOf d g p b
    → IsClearOf d h p b
clear_alike d g h alike p b c = record {
  keep = λ compared. subst (λ k. PiecesKeep k (pieces_of d (metal_of p)) b.pieces)
      (same_clearance d g h (kind_of (metal_of p)) b.net b.kind alike) (c.keep compared);
  stay_off = λ off via own. c.stay_off off via (record {
    smd = own.smd;
    net = own.net;
    net_is = own.net_is;
    alike = through d g h own.net alike own.alike;
  });
}

-- so is a tally
tally_alike : (d : Design) (g h : ℕ) (items : List Item) (o : Option Probe) (n : ℕ) → AreAlike d g h
    → IsTally d g items o n → IsTally d h items o n
tally_alike d g h items None n alike t = t
tally_alike d g h items (Some p) n alike (inl top) = inl top
tally_alike d g h items (Some p) n alike (inr (few, (k, o, misses, out, e))) = inr (
  few,
  (
    k,
    o,
    missed_alike (IsClearOf d g p) (IsClearOf d h p) items k (clear_alike d g h alike p)
        (clear_alike d h g (back d g h alike) p) misses,
    out,
    e,
  ),
)

-- what a map counts is a tally for the first net of the group
pub tally_at : (d : Design) (m : Mesh) (items : List Item) (map : GroupMap) (net v i n : ℕ) → IsMapOf d m items map
    → AreAlike d map.first net → v < node_count m → i < way_count d m net
    → n ≡ slice_index map.counts (place_at d m map.first v i)
    → IsTally d map.first items (probe_at d m map.first v i) n
tally_at d m items map net v i n h k hv hi e =
    subst (IsTally d map.first items (probe_at d m map.first v i)) (sym e)
    (h.tallies v i hv (subst (λ x. i < x) (sym (same_way_count d m map.first net k)) hi))

-- and so it is for the first net of another map of the group
pub other_tally : (d : Design) (m : Mesh) (items : List Item) (g h net v i n : ℕ) → AreAlike d g net
    → AreAlike d h net → IsTally d g items (probe_at d m g v i) n → IsTally d h items (probe_at d m h v i) n
other_tally d m items g h net v i n a b tally =
    let alike = through d g net h a (back d h net b) in
    subst (λ (o : Option Probe). IsTally d h items o n) (same_probe d m g h v i alike)
    (tally_alike d g h items (probe_at d m g v i) n alike tally)
