use Rattle.std.proofs.Common.{◌≡◌, ◌∙◌, ℕ, Bool, List, Option, None, Some, ap, subst, sym}
use Rattle.std.proofs.lemmas.Result.{IfOk-weaker}
use Rattle.pcb_model.specs.declared.item.Item.{Item}
use Rattle.pcb_model.specs.declared.design.Design.{Design}
use Rattle.pcb_model.specs.Sound.{IsItemOf, IsSound}
use Rattle.route_lattice.specs.Mesh.{Mesh}
use Rattle.route_lattice.specs.Fits.{FitsDesign}
use Rattle.pcb_tiles.specs.Spread.{ServesSpread}
use Rattle.shove.specs.Shoves.{Shoves}
use Rattle.shove.specs.declared.run.Reshape.{Reshape}
use Rattle.pcb_board.specs.Keeping.{IsBoard}
use Rattle.closing_pass.specs.inner.Tries.{AnswersBy, IsShutIsland, MovesRunTo, MovesTo, ShutIslandOf}
use Rattle.closing_pass.proofs.Answered.{run_answers, run_none}
use Rattle.closing_pass.proofs.Wires.{item_of_board, long_wire}
use Rattle.closing_pass.proofs.moves.ShutIsland.try_run.Goals as goal

pub shove_at-requires-clause-sound : goal.shove_at-requires-clause-sound
shove_at-requires-clause-sound c = subst IsSound (sym c.design-d.ensures) c.keeps.ensures.sound

pub shove_at-requires-clause-fits : goal.shove_at-requires-clause-fits
shove_at-requires-clause-fits c = subst (λ (d : Design). FitsDesign d c.self.inside.closer.lat.now)
    (sym c.design-d.ensures) c.self.invariant.can.fits

pub shove_at-requires-clause-serves : goal.shove_at-requires-clause-serves
shove_at-requires-clause-serves c =
    subst (λ (d : Design). ServesSpread c.items-tiles.result.now d) (sym c.design-d.ensures)
    c.items-tiles.ensures.serves

pub shove_at-requires-clause-item : goal.shove_at-requires-clause-item
shove_at-requires-clause-item c =
    let s = c.args.self.now in
    let inv = subst (λ (t : ShutIslandOf). IsShutIsland t.lat t.via_cost t.board t.island t.others t.cut) c.self.view_is
    c.self.invariant in
    let kept = subst (λ (t : ShutIslandOf). IsBoard t.board) c.self.view_is c.keeps.ensures in
    subst (λ (d : Design). IsItemOf d c.args.item.now)
    (sym (c.design-d.ensures ∙ ap (λ (t : ShutIslandOf). t.board.design) c.self.view_is))
    (item_of_board s inv kept c.args.item.now c.requires.item)

pub shove_at-requires-clause-wire : goal.shove_at-requires-clause-wire
shove_at-requires-clause-wire c = long_wire c.args.item.now.metal c.args.run c.requires.run

pub shove_at-requires-clause-run : goal.shove_at-requires-clause-run
shove_at-requires-clause-run c = c.requires.run

-- what was found, on the board
found_there : (s : ShutIslandOf) (lat : Mesh) (d : Design) (items : List Item) (x : Item) (run : ℕ) (up : Bool)
    (o q : Option Reshape) → lat ≡ s.lat → d ≡ s.board.design → items ≡ s.board.items → o ≡ q
    → Shoves d lat items x run up o → Shoves s.board.design s.lat s.board.items x run up q
found_there s lat d items x run up o q lat_is d_is items_is is h =
    subst (λ (y : Design × Mesh × List Item × Option Reshape). Shoves y.0 y.1 y.2 x run up y.3)
    (λ i. (d_is i, lat_is i, items_is i, is i)) h

pub returns-in_default-clause-answers : goal.returns-in_default-clause-answers
returns-in_default-clause-answers c =
    let s = c.args.self.now in
    let inv = subst (λ (t : ShutIslandOf). IsShutIsland t.lat t.via_cost t.board t.island t.others t.cut) c.self.view_is
    c.self.invariant in
    let kept = subst (λ (t : ShutIslandOf). IsBoard t.board) c.self.view_is c.keeps.ensures in
    run_none s inv kept c.args.item.now c.requires.item c.args.run c.args.up
    (found_there s _ _ _ c.args.item.now c.args.run c.args.up c.in_ok-chain.field-0 None
    (ap (λ (t : ShutIslandOf). t.lat) c.self.view_is)
    (c.design-d.ensures ∙ ap (λ (t : ShutIslandOf). t.board.design) c.self.view_is)
    (c.items-tiles.ensures.items ∙ ap (λ (t : ShutIslandOf). t.board.items) c.self.view_is) c.in_default.is
    c.in_ok-chain.ensures)

pub returns-in_default-clause-ready : goal.returns-in_default-clause-ready
returns-in_default-clause-ready c = c.requires.ready

pub try_chain-requires-clause-ready : goal.try_chain-requires-clause-ready
try_chain-requires-clause-ready c = c.requires.ready

pub try_chain-requires-clause-item : goal.try_chain-requires-clause-item
try_chain-requires-clause-item c = c.requires.item

pub try_chain-requires-clause-shove : goal.try_chain-requires-clause-shove
try_chain-requires-clause-shove c =
    let s = c.args.self.now in
    record {
      wire = long_wire c.args.item.now.metal c.args.run c.requires.run;
      r = c.args.run;
      up = c.args.up;
      shove = found_there s _ _ _ c.args.item.now c.args.run c.args.up c.in_ok-chain.field-0 (Some c.in-Some.field-0)
          (ap (λ (t : ShutIslandOf). t.lat) c.self.view_is)
          (c.design-d.ensures ∙ ap (λ (t : ShutIslandOf). t.board.design) c.self.view_is)
          (c.items-tiles.ensures.items ∙ ap (λ (t : ShutIslandOf). t.board.items) c.self.view_is) c.in-Some.is
          c.in_ok-chain.ensures;
    }

pub returns-clause-answers : goal.returns-clause-answers
returns-clause-answers c =
    let s = c.args.self.now in
    let x = c.args.item.now in
    let inv = subst (λ (t : ShutIslandOf). IsShutIsland t.lat t.via_cost t.board t.island t.others t.cut) c.self.view_is
    c.self.invariant in
    let kept = subst (λ (t : ShutIslandOf). IsBoard t.board) c.self.view_is c.keeps.ensures in
    IfOk-weaker c.try_chain.result (AnswersBy s x.id (λ o. MovesTo x.id c.in-Some.field-0.chain o))
    (AnswersBy s x.id (MovesRunTo s x c.args.run c.args.up))
    (λ r h. run_answers s inv kept x c.requires.item c.in-Some.field-0.chain c.args.run c.args.up
    (found_there s _ _ _ x c.args.run c.args.up c.in_ok-chain.field-0 (Some c.in-Some.field-0)
    (ap (λ (t : ShutIslandOf). t.lat) c.self.view_is)
    (c.design-d.ensures ∙ ap (λ (t : ShutIslandOf). t.board.design) c.self.view_is)
    (c.items-tiles.ensures.items ∙ ap (λ (t : ShutIslandOf). t.board.items) c.self.view_is) c.in-Some.is
    c.in_ok-chain.ensures) r h) c.try_chain.ensures.answers

pub returns-clause-ready : goal.returns-clause-ready
returns-clause-ready c = c.try_chain.ensures.ready
