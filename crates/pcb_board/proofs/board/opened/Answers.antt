use Rattle.std.proofs.Common.{refl, rules, arith}
use Rattle.pcb_board.specs.declared.board.Board.TheInside.{Inside}
use Rattle.pcb_board.proofs.Opening.{IsOpened, opened_view, opened_indexed, starts}
use Rattle.pcb_board.proofs.board.opened.Goals as goal

abbrev opened : goal.After-new → Inside
opened c = record {
  alloc = c.args.alloc;
  design = c.args.design;
  cap = c.args.cap;
  history = c.new.result;
  workers = 0;
  given = c.args.loaded.given;
  started = c.len-started.result;
  changed = c.args.changed;
  tiles = c.args.loaded.tiles;
}

parts : (c : goal.After-new) → IsOpened (opened c) c.args.design c.args.cap c.args.loaded
parts c = record {
  design_is = refl;
  cap_is = refl;
  history_is = c.new.ensures;
  given_is = refl;
  started_is = search rules;
  all = c.requires.size;
  unchanged = λ x k less. c.requires.zeros x k (let e = c.requires.size in omega (arith, less, e));
  workers_are = refl;
  tiles_are = refl;
}

pub invariant_of-board : goal.invariant_of-board
invariant_of-board c =
    let r = c.requires in
    opened_indexed (opened c) c.args.design c.args.cap c.args.loaded r.sound r.cap r.loaded (parts c)

pub returns : goal.returns
returns c =
    let n = opened c in
    let d = c.args.design in
    let l = c.args.loaded in
    let cap = c.args.cap in
    let r = c.requires in
    record {
      start = l.given.items;
      starts = starts n d cap l r.sound r.cap r.loaded (parts c);
      board_is = opened_view n d cap l r.sound r.cap r.loaded (parts c);
    }
