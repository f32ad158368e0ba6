use Rattle.std.proofs.Common.{◌≡◌, ℕ, arith, ap, ◌∙◌}
use Rattle.pcb_tiles.specs.Tiling.{probed_block, entries_in}
use Rattle.pcb_tiles.proofs.Nearness.{is_blocked, is_unblocked, probed_is}
use Rattle.pcb_tiles.proofs.Ranges.{on_true, on_false}
use Rattle.pcb_tiles.proofs.tiles.TilesCopper.is_blocked.Goals as goal

pub returns-clause-yes : goal.returns-clause-yes
returns-clause-yes g c =
    on_true c.seek_any.result (is_blocked c.args.d.now c.args.net c.args.p.now c.args.self.now.items)
    c.seek_any.ensures.yes

pub returns-clause-no : goal.returns-clause-no
returns-clause-no g c =
    on_false c.seek_any.result
    (is_unblocked c.args.self.now.area c.known_reach-reach.result c.of_probe-e.result c.block_around-b.result
    c.args.d.now c.args.net
    c.args.p.now
    c.args.self.now.items c.block_around-b.ensures.of (omega arith) c.block_around-b.ensures.area
    (rw c.known_reach-reach.ensures.is c.requires.serves.reaches)
    c.of_probe-e.ensures.has c.block_around-b.ensures.fit)
    c.seek_any.ensures.no

pub returns-clause-cost : goal.returns-clause-cost
returns-clause-cost g c =
    let b : c.block_around-b.result ≡ probed_block c.args.self.now.area c.args.self.now.reach c.args.d.now
    c.args.p.now =
    probed_is c.args.self.now.area c.known_reach-reach.result c.of_probe-e.result c.block_around-b.result c.args.d.now
    c.args.p.now
    c.block_around-b.ensures.of (omega arith) c.of_probe-e.ensures.least
    ∙ ap (λ (r : ℕ). probed_block c.args.self.now.area r c.args.d.now c.args.p.now) c.known_reach-reach.ensures.is in
    let n = ap (entries_in c.args.self.now.area c.args.self.now.items) b in
    omega (arith, n, c.seek_any.ensures.cost)

pub seek_any-requires-clause-ready : goal.seek_any-requires-clause-ready
seek_any-requires-clause-ready g c = (
  record {
    design_fits = c.requires.serves.serves.design_fits;
    reaches = rw c.known_reach-reach.ensures.is c.requires.serves.reaches;
    reach_within = c.known_reach-reach.ensures.within;
    extent_is = c.of_probe-e.ensures.has;
  },
  c.requires.p_fits,
)
