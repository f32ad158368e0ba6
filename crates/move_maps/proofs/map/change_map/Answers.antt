use Rattle.std.proofs.Common.{List, All, refl, sym, subst}
use Rattle.pcb_model.specs.declared.item.Item.{Item}
use Rattle.pcb_model.specs.Sound.{IsItemOf}
use Rattle.copper_change.specs.Changes.{IsChange}
use Rattle.move_maps.specs.Paint.{AreTallied}
use Rattle.move_maps.specs.Settings.{GroupOf, IsTable}
use Rattle.move_maps.proofs.Following.{map_changed}
use Rattle.move_maps.proofs.map.change_map.Goals as goal

pub of-group-requires : goal.of-group-requires
of-group-requires g c = c.requires.sized.net

pub change-requires-clause-gone : goal.change-requires-clause-gone
change-requires-clause-gone g c =
    subst (λ (s : GroupOf). All (IsItemOf s.d) c.args.gone.now) (sym c.of-group.ensures) c.requires.gone

pub change-requires-clause-come : goal.change-requires-clause-come
change-requires-clause-come g c =
    subst (λ (s : GroupOf). All (IsItemOf s.d) c.args.come.now) (sym c.of-group.ensures) c.requires.come

pub change-requires-clause-size : goal.change-requires-clause-size
change-requires-clause-size g c =
    subst (λ (s : GroupOf). IsTable s c.args.map.now.counts) (sym c.of-group.ensures) c.requires.sized.size

pub returns : goal.returns
returns g c =
    let xs = c.args.map.now.counts in let ys = c.change.new.counts in
    let made = subst (λ (s : GroupOf). (old new : List Item) → IsChange old c.args.gone.now c.args.come.now new
    → AreTallied s.d s.lat s.first old xs → AreTallied s.d s.lat s.first new ys) c.of-group.ensures
    c.change.ensures.changes in
    record {
      first = refl;
      changes = λ old new h k. map_changed _ _ old new _ _ refl c.change.ensures.size (made old
          new h) k;
    }
