use Rattle.std.proofs.Common.{ap, sym, ◌∙◌, List}
use Rattle.std.specs.Prelude.{slice_index_or}
use Rattle.pcb_model.specs.declared.design.Net.{Net}
use Rattle.route_lattice.specs.Ways.{vias_of}
use Rattle.move_maps.specs.Settings.{GroupOf}
use Rattle.move_maps.proofs.Covering.{vias_at}
use Rattle.move_maps.proofs.group.Group.vias.Goals as goal

pub returns : goal.returns
returns c =
    let t = c.self.inside in
    let n = c.index-as_slice-self.result in
    c.as_slice-2.ensures ∙ (ap (λ (ns : List Net). (slice_index_or ns t.first n).vias) c.as_slice.ensures
    ∙ (sym (vias_at t.d.now.nets t.first n c.self.invariant.can_move.net_there)
    ∙ ap (λ (s : GroupOf). vias_of s.d s.first) c.self.view_is))
