use Rattle.std.proofs.Common.{sym, ap, ◌∙◌, refl, subst}
use Rattle.pcb_model.specs.declared.item.Item.{Item}
use Rattle.pcb_model.specs.Bounds.{IsItemFit}
use Rattle.std.specs.Prelude.{Contains}
use Rattle.std.proofs.lemmas.List.Elements.{All-contains}
use Rattle.pcb_tiles.specs.Spread.{Spread, Loses}
use Rattle.pcb_tiles.proofs.Changes.{only_one, loses_item}
use Rattle.pcb_tiles.proofs.tiles.Tiles.less.Goals as goal

pub without-requires-clause-only : goal.without-requires-clause-only
without-requires-clause-only c =
    let F : Item → Type 0 = λ x. Contains c.args.self.now.items x in
    only_one c.in_ok-item-in-Some.item c.args.self.now.items c.held.ensures.ascends
    (subst F (sym c.in_ok-item-in-Some.ensures) c.in-Some.ensures.found.0)

pub without-requires-clause-fits : goal.without-requires-clause-fits
without-requires-clause-fits c =
    let F : Item → Type 0 = λ x. Contains c.args.self.now.items x in
    All-contains IsItemFit c.args.self.now.items c.in_ok-item-in-Some.item c.held.ensures.fit
    (subst F (sym c.in_ok-item-in-Some.ensures) c.in-Some.ensures.found.0)

pub returns-in_ok-rest-in-Some : goal.returns-in_ok-rest-in-Some
returns-in_ok-rest-in-Some c =
    let F : Item → Type 0 = λ x. Contains c.args.self.now.items x in
    let G : Spread → Type 0 = λ t. Loses c.args.self.now c.in_ok-item-in-Some.item t in (
      ap (λ (x : Item). x.id) c.in_ok-item-in-Some.ensures ∙ c.in-Some.ensures.found.1,
      subst G (sym c.in_ok-rest-in-Some.ensures) (record {
        same_area = refl;
        same_reach = refl;
        items =
            loses_item c.in_ok-item-in-Some.item c.args.self.now.items c.held.ensures.ascends
            (subst F (sym c.in_ok-item-in-Some.ensures) c.in-Some.ensures.found.0);
      }),
    )
