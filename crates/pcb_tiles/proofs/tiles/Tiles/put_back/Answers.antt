use Rattle.std.proofs.Common.{sym, refl, subst}
use Rattle.pcb_tiles.specs.Spread.{Spread, Gains}
use Rattle.pcb_tiles.proofs.Changes.{gains_item}
use Rattle.pcb_tiles.proofs.tiles.Tiles.put_back.Goals as goal

pub returns-in-Ok-clause-ok : goal.returns-in-Ok-clause-ok
returns-in-Ok-clause-ok c =
    let F : Spread → Type 0 = λ t. Gains c.args.self.now c.args.item t in
    subst F (sym c.in-Ok.ensures.more) (record {
      same_area = refl;
      same_reach = refl;
      items =
          gains_item c.args.item c.args.self.now.items c.with.ensures.ascends c.requires.absent;
    })
