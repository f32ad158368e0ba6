use Rattle.std.proofs.Common.{refl, ◌∙◌}
use Rattle.pcb_board.specs.declared.board.Board.TheInside.{Inside}
use Rattle.pcb_board.proofs.Opening.{copied_view, copied_indexed}
use Rattle.pcb_board.proofs.board.Board.copy.Goals as goal

pub invariant_of-result : goal.invariant_of-result
invariant_of-result c =
    let copied : Inside = record {
      alloc = c.self.inside.alloc;
      design = c.in_ok-design.design;
      cap = c.self.inside.cap;
      history = c.in-Ok.lists.history;
      workers = c.self.inside.workers;
      given = c.in-Ok.lists.given;
      started = c.self.inside.started;
      changed = c.in-Ok.lists.changed;
      tiles = c.in_ok-design.tiles;
    } in
    copied_indexed c.self.inside copied c.in_ok-design.ensures.design refl
    (c.in-Ok.ensures.history ∙ c.as_slice.ensures) refl
    (c.in-Ok.ensures.given ∙ c.as_slice-2.ensures.value) refl
    (c.in-Ok.ensures.changed ∙ c.as_slice-3.ensures.value) c.in_ok-design.ensures.tiles
    c.self.invariant

pub returns-in-Ok : goal.returns-in-Ok
returns-in-Ok c =
    let copied : Inside = record {
      alloc = c.self.inside.alloc;
      design = c.in_ok-design.design;
      cap = c.self.inside.cap;
      history = c.in-Ok.lists.history;
      workers = c.self.inside.workers;
      given = c.in-Ok.lists.given;
      started = c.self.inside.started;
      changed = c.in-Ok.lists.changed;
      tiles = c.in_ok-design.tiles;
    } in
    copied_view c.self.inside copied c.in_ok-design.ensures.design refl
    (c.in-Ok.ensures.history ∙ c.as_slice.ensures) refl
    (c.in-Ok.ensures.given ∙ c.as_slice-2.ensures.value) refl
    (c.in-Ok.ensures.changed ∙ c.as_slice-3.ensures.value) c.in_ok-design.ensures.tiles
    ∙ c.self.view_is
