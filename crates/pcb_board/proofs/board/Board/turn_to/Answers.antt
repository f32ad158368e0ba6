use Rattle.std.proofs.Common.{◌≡◌, ◌+◌, ◌++◌, ◌∷◌, [], ℕ, length, refl, sym, ◌∙◌, ap, subst}
use Rattle.std.specs.List.{filter}
use Rattle.pcb_model.specs.declared.item.Item.{Item}
use Rattle.pcb_model.specs.declared.design.Design.{Design}
use Rattle.pcb_model.specs.declared.design.Design.{Design}
use Rattle.pcb_tiles.specs.Spread.{Spread}
use Rattle.pcb_board.specs.Snaps.{AreTilesOf}
use Rattle.board_offers.specs.Given.{AreGiven}
use Rattle.pcb_board.specs.declared.answer.Entry.TheVariants.{Back}
use Rattle.pcb_board.specs.declared.board.Board.TheInside.{Inside}
use Rattle.pcb_board.specs.inner.Turning.{AreTurned, is_marked}
use Rattle.pcb_model.specs.Sound.{IsSound}
use Rattle.pcb_board.proofs.Opening.{copied_view, copied_indexed}
use Rattle.pcb_board.proofs.Returning.{IsReturned, err_any, returned_view, returned_indexed}
use Rattle.pcb_board.proofs.board.Board.turn_to.Goals as goal

pub marked_tiles-requires-clause-given : goal.marked_tiles-requires-clause-given
marked_tiles-requires-clause-given c =
    subst (λ (d : Design). AreGiven d c.as_slice-2.result.now) (sym c.get.ensures)
    (subst (AreGiven c.self.inside.design) (sym c.self.invariant.indexed.items_are ∙ sym c.as_slice-2.ensures.value)
    c.self.invariant.board.given_are)

abbrev after_parts : goal.After-put_tiles → Inside
after_parts c = record {
  alloc = c.self.inside.alloc;
  design = c.self.inside.design;
  cap = c.self.inside.cap;
  history = c.push_back.new.history;
  workers = c.self.inside.workers;
  given = c.self.inside.given;
  started = c.self.inside.started;
  changed = c.renew_turned.new.changed;
  tiles = c.put_tiles.new.place;
}

history_is : (c : goal.After-put_tiles) → c.push_back.new.history ≡ c.self.inside.history ++ Back c.args.to ∷ []
history_is c = c.in-Ok.ensures.ok

items_are : (c : goal.After-put_tiles)
    → c.put_tiles.new.place.items ≡ filter (λ (a : Item). is_marked c.args.marks.now a.id)
    c.self.inside.given.items
items_are c =
    ap (λ (t : Spread). t.items) c.put_tiles.ensures ∙ c.in_ok-tiles.ensures.items
    ∙ ap (filter (λ (a : Item). is_marked c.args.marks.now a.id)) c.as_slice-2.ensures.value

changed_is : (c : goal.After-put_tiles)
    → AreTurned c.self.inside.tiles.items c.args.marks.now (length c.self.inside.history + 1)
    (length c.self.inside.changed.items) c.self.inside.changed.items c.renew_turned.new.changed.items
changed_is c =
    let entries : length c.as_slice.result.now ≡ length c.self.inside.history = ap length c.as_slice.ensures in
    subst (λ (n : ℕ). AreTurned c.self.inside.tiles.items c.args.marks.now (n + 1)
    (length c.self.inside.changed.items) c.self.inside.changed.items c.renew_turned.new.changed.items) entries
    c.renew_turned.ensures

parts : (c : goal.After-put_tiles) → IsReturned c.self.inside (after_parts c) c.args.to c.args.marks.now
parts c = record {
  design_is = refl;
  cap_is = refl;
  started_is = refl;
  history_is = history_is c;
  given_is = refl;
  items_are = items_are c;
  spread = subst (λ (t : Spread). AreTilesOf c.self.inside.design t.area t.reach) (sym c.put_tiles.ensures)
      (subst (λ (d : Design). AreTilesOf d c.in_ok-tiles.tiles.area c.in_ok-tiles.tiles.reach) c.get.ensures
      c.in_ok-tiles.ensures.spread);
  changed_is = changed_is c;
  workers_are = refl;
}

pub invariant_of-self : goal.invariant_of-self
invariant_of-self c =
    returned_indexed c.self.inside (after_parts c) c.args.self.now c.args.to c.args.marks.now c.self.view_is
    c.self.invariant c.requires.to c.requires.long c.requires.marks (parts c)

pub returns-in-Ok-clause-ok : goal.returns-in-Ok-clause-ok
returns-in-Ok-clause-ok c =
    returned_view c.self.inside (after_parts c) c.args.self.now c.args.to c.args.marks.now c.self.view_is
    c.self.invariant c.requires.to c.requires.long c.requires.marks (parts c)

abbrev unpushed : goal.After-drop → Inside
unpushed c = record {
  alloc = c.self.inside.alloc;
  design = c.self.inside.design;
  cap = c.self.inside.cap;
  history = c.push_back.new.history;
  workers = c.self.inside.workers;
  given = c.self.inside.given;
  started = c.self.inside.started;
  changed = c.self.inside.changed;
  tiles = c.self.inside.tiles;
}

pub invariant_of-self-in-Err : goal.invariant_of-self-in-Err
invariant_of-self-in-Err c =
    copied_indexed c.self.inside (unpushed c) refl refl c.in-Err.ensures.err refl refl refl refl refl c.self.invariant

pub returns-in_err-tiles-clause-err : goal.returns-in_err-tiles-clause-err
returns-in_err-tiles-clause-err c = err_any _ refl

pub returns-in-Err-clause-err : goal.returns-in-Err-clause-err
returns-in-Err-clause-err c =
    copied_view c.self.inside (unpushed c) refl refl c.in-Err.ensures.err refl refl refl refl refl ∙ c.self.view_is

pub marked_tiles-requires-clause-sound : goal.marked_tiles-requires-clause-sound
marked_tiles-requires-clause-sound c = subst IsSound (sym c.get.ensures) c.self.invariant.board.sound
