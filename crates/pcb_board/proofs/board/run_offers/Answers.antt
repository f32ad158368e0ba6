use Rattle.std.proofs.Common.{◌≡◌, List, [], ◌∷◌, reverse, ◌∙◌, ap, subst, rules}
use Rattle.std.proofs.lemmas.List.{reverse-append}
use Rattle.board_offers.specs.declared.offer.Offer.{Offer}
use Rattle.pcb_board.specs.Answers.{HasMade}
use Rattle.pcb_board.proofs.Runs.{one_made}
use Rattle.pcb_board.proofs.board.run_offers.Goals as goal

pub loop-offer-preserved : goal.loop-offer-preserved
loop-offer-preserved c =
    let seen : reverse c.loop-offer.left.items ≡ c.in-Some.offer ∷ reverse c.pop.new.self.items =
    ap reverse c.in-Some.ensures.items ∙ reverse-append c.pop.new.self.items (c.in-Some.offer ∷ []) in
    record {
      made = one_made c.args.board.now c.loop-offer.board c.offer.new.self c.args.offers.items
          (reverse c.pop.new.self.items) c.loop-offer.done.items c.push_reserved.new.self.items c.in-Some.offer
          c.in-Ok.answer
          (subst (λ (xs : List Offer). HasMade c.args.board.now c.args.offers.items xs c.loop-offer.done.items
          c.loop-offer.board) seen c.loop-offer.invariant.made)
          c.in-Ok.ensures.ok c.push_reserved.ensures.items;
      room = search (rules, c.loop-offer.invariant.room, c.in-Some.ensures);
    }
