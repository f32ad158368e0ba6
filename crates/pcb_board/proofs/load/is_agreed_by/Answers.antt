use Rattle.std.proofs.Common.{◌<◌, true≢false, refl, sym, arith}
use Rattle.std.proofs.lemmas.Option.{same_Some}
use Rattle.std.proofs.lemmas.List.Elements.{All-contains}
use Rattle.pcb_model.specs.declared.item.Item.{Item}
use Rattle.pcb_model.specs.Pairs.{Agrees}
use Rattle.board_offers.proofs.Lists.{all_from}
use Rattle.pcb_board.proofs.load.is_agreed_by.Goals as goal

pub returns-in-Some : goal.returns-in-Some
returns-in-Some g c = (
  λ t. absurd (true≢false (sym t)),
  λ all.
      let h = c.in-Some.ensures.finds in
      absurd (h.holds (All-contains (Agrees c.args.d.now c.args.item.now) c.args.tiles.now.items h.item all h.there)),
)

pub returns : goal.returns
returns g c = (
  λ t. all_from (Agrees c.args.d.now c.args.item.now) c.args.tiles.now.items (λ b there.
      let less = All-contains (λ (a : Item). a.id < c.args.item.now.id) c.args.tiles.now.items b
      c.requires.above there in
      c.in-None.ensures.finds b there
      (omega arith, λ same. omega (arith, less, same_Some c.args.item.now.id b.id same))),
  λ all. refl,
)
