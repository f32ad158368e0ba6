use Rattle.std.proofs.Common.{◌≡◌, ℕ, arith, ap, ◌∙◌}
use Rattle.pcb_tiles.specs.Tiling.{probed_block, entries_in}
use Rattle.pcb_tiles.proofs.Nearness.{block_finds, probed_is}
use Rattle.pcb_tiles.proofs.tiles.TilesCopper.next_block.Goals as goal

pub returns-clause-finds : goal.returns-clause-finds
returns-clause-finds g c =
    block_finds c.args.self.now.area c.known_reach-reach.result c.of_probe-e.result c.block_around-b.result
    c.args.d.now c.args.net
    c.args.p.now
    c.args.self.now.items c.args.from c.seek.result c.block_around-b.ensures.of
    (omega arith) c.block_around-b.ensures.area
    (rw c.known_reach-reach.ensures.is c.requires.serves.reaches) c.of_probe-e.ensures.has
    c.block_around-b.ensures.fit c.seek.ensures.so

pub returns-clause-cost : goal.returns-clause-cost
returns-clause-cost g c =
    let b : c.block_around-b.result ≡ probed_block c.args.self.now.area c.args.self.now.reach c.args.d.now
    c.args.p.now =
    probed_is c.args.self.now.area c.known_reach-reach.result c.of_probe-e.result c.block_around-b.result c.args.d.now
    c.args.p.now
    c.block_around-b.ensures.of (omega arith) c.of_probe-e.ensures.least
    ∙ ap (λ (r : ℕ). probed_block c.args.self.now.area r c.args.d.now c.args.p.now) c.known_reach-reach.ensures.is in
    let n = ap (entries_in c.args.self.now.area c.args.self.now.items) b in
    omega (arith, n, c.seek.ensures.cost)

pub seek-requires-clause-ready : goal.seek-requires-clause-ready
seek-requires-clause-ready g c = (
  record {
    design_fits = c.requires.serves.serves.design_fits;
    reaches = rw c.known_reach-reach.ensures.is c.requires.serves.reaches;
    reach_within = c.known_reach-reach.ensures.within;
    extent_is = c.of_probe-e.ensures.has;
  },
  c.requires.p_fits,
)
