-- The refusal that counts is one of the table.
use Rattle.std.proofs.Common.{ℕ, List}
use Rattle.dsn_tree.specs.declared.tree.Tree.{Tree}
use Rattle.dsn_shapes.specs.declared.refusal.Refusal.{Refusal}
use Rattle.dsn_shapes.specs.Tabled.{IsTabled}
use Rattle.dsn_shapes.proofs.Tabled.{least_tabled}
use Rattle.dsn_structure.specs.Header.{head_refusals}
use Rattle.dsn_structure.specs.Layout.{structure_refusals}
use Rattle.dsn_structure.proofs.Tabled.{head_tabled, structure_tabled}
use Rattle.dsn_library.specs.Whole.{library_refusals}
use Rattle.dsn_library.proofs.Tabled.{library_tabled}
use Rattle.dsn_placement.specs.Placing.{placement_refusals}
use Rattle.dsn_placement.proofs.Tabled.{placement_tabled}
use Rattle.dsn_network.specs.Whole.{network_refusals}
use Rattle.dsn_network.proofs.Tabled.{network_tabled}
use Rattle.dsn_wiring.specs.Whole.{wiring_refusals}
use Rattle.dsn_wiring.proofs.Tabled.{wiring_tabled}
use Rattle.dsn_design.specs.Reading.{FirstRefusal, HasRefusal, in_head, in_structure, in_library, in_placement}
use Rattle.dsn_design.specs.Reading.{in_network, in_wiring}

pub first_tabled : (pcb : Tree) (r : Refusal) → FirstRefusal pcb r → IsTabled r
first_tabled pcb r (in_head a) = least_tabled (head_refusals pcb) r (head_tabled pcb) a
first_tabled pcb r (in_structure h a b) =
    least_tabled (structure_refusals h.scale.nm pcb) r (structure_tabled h.scale.nm pcb) b
first_tabled pcb r (in_library h st a b c) =
    least_tabled (library_refusals h.scale.nm st.layers pcb) r (library_tabled h.scale.nm st.layers pcb) c
first_tabled pcb r (in_placement h st lib a b c d) =
    least_tabled (placement_refusals h.scale.nm st lib pcb) r (placement_tabled h.scale.nm st lib pcb) d
first_tabled pcb r (in_network h st lib placing a b c d e) =
    least_tabled (network_refusals h.scale.nm lib placing pcb) r (network_tabled h.scale.nm lib placing pcb) e
first_tabled pcb r (in_wiring h st lib placing net a b c d e w) =
    least_tabled (wiring_refusals h.scale.nm st lib placing net pcb) r (wiring_tabled h.scale.nm st lib placing net pcb)
    w

-- a text is refused by one of the table
pub refusal_tabled : (text : List ℕ) (r : Refusal) → HasRefusal text r → IsTabled r
refusal_tabled text r h = first_tabled h.pcb r h.first
