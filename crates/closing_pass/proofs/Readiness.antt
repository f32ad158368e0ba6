-- What the searches of the pass share stays ready while the board grows.
use Rattle.std.proofs.Common.{◌≡◌, ℕ, sym, subst}
use Rattle.pcb_model.specs.declared.design.Design.{Design}
use Rattle.route_lattice.specs.Mesh.{Mesh}
use Rattle.pcb_board.specs.Boards.{BoardOf}
use Rattle.route_plan.proofs.Mapping.{still_mapped}
use Rattle.closing_pass.specs.declared.join.SearchState.{SearchState}
use Rattle.closing_pass.specs.Closing.{CanClose, JoinsBy}
use Rattle.closing_pass.specs.inner.Steps.{AreReady}

-- on the same board
pub ready_same : (m : Mesh) (via_cost : ℕ) (b c : BoardOf) (state : SearchState) → c ≡ b → AreReady m via_cost b state
    → AreReady m via_cost c state
ready_same m via_cost b c state same h = subst (λ (x : BoardOf). AreReady m via_cost x state) (sym same) h

-- after joins
pub ready_on : (m : Mesh) (via_cost : ℕ) (b c : BoardOf) (state : SearchState) → JoinsBy 16 m via_cost b c
    → AreReady m via_cost b state → AreReady m via_cost c state
ready_on m via_cost b c state joins h = record {
  can = subst (λ (d : Design). CanClose m via_cost d) (sym joins.design_stays) h.can;
  size = h.size;
  mapped = still_mapped m b c state.mapped (record {
    design_stays = joins.design_stays;
    start_stays = joins.start_stays;
    cap_stays = joins.cap_stays;
    entries = joins.entries;
    history_is = joins.history_is;
  }) h.mapped;
}
