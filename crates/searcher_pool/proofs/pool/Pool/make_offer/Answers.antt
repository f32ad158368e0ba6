use Rattle.std.proofs.Common.{◌∙◌, ◌++◌, ◌∷◌, [], List, ap, refl, subst, sym}
use Rattle.board_turn.specs.declared.event.Action.TheVariants.{NoMemory}
use Rattle.searcher_pool.specs.declared.log.OfferNote.{OfferNote}
use Rattle.searcher_pool.specs.inner.Pools.{PoolOf}
use Rattle.searcher_pool.specs.inner.Working.{Attempts}
use Rattle.searcher_pool.proofs.Steps.{after_noted, offered, quiet}
use Rattle.searcher_pool.proofs.pool.Pool.make_offer.Goals as goal

pub offer-requires : goal.offer-requires
offer-requires g c = c.requires.at_task.ready.knows.turn_is ∙ sym (ap (λ (o : PoolOf). o.turn) c.self.view_is)

pub returns-in_err-reserve-clause-after : goal.returns-in_err-reserve-clause-after
returns-in_err-reserve-clause-after g c = after_noted c.args.worker.now _ refl refl c.reserve.ensures.items refl refl
    refl

pub returns-in-Err-clause-after : goal.returns-in-Err-clause-after
returns-in-Err-clause-after g c = after_noted c.args.worker.now _ refl refl c.reserve.ensures.items refl refl refl

pub returns-in-Ok-offer-clause-ready : goal.returns-in-Ok-offer-clause-ready
returns-in-Ok-offer-clause-ready g c =
    (offered c.args.self.now.pass c.args.self.now.turn c.keeps.ensures.turn c.events_keep.ensures.boards
    c.late_offers_are_fair.ensures c.args.worker.now _ c.args.net c.args.offer c.in-Ok.copy c.in-Ok-offer.answer
    c.in-Ok-offer.ensures.ok.0 c.in-Ok-offer.ensures.ok.1 c.requires.at_task.ready
    (record {
      number = refl;
      size = c.requires.at_task.ready.size;
      drawn = refl;
      seat = refl;
      mapped = refl;
      failed = refl;
    })
    c.requires.plan c.requires.at_task.drawn c.in-Ok.ensures
    (c.push_reserved.ensures.items ∙ ap (λ (xs : List OfferNote). xs ++ record {
      offer = c.in-Ok.copy;
      answer = c.in-Ok-offer.answer;
    } ∷ []) c.reserve.ensures.items) c.in-Ok-offer.ensures.ok.2 c.in-Ok-offer.ensures.ok.3).ready

pub returns-in-Ok-offer-clause-after : goal.returns-in-Ok-offer-clause-after
returns-in-Ok-offer-clause-after g c =
    (offered c.args.self.now.pass c.args.self.now.turn c.keeps.ensures.turn c.events_keep.ensures.boards
    c.late_offers_are_fair.ensures c.args.worker.now _ c.args.net c.args.offer c.in-Ok.copy c.in-Ok-offer.answer
    c.in-Ok-offer.ensures.ok.0 c.in-Ok-offer.ensures.ok.1 c.requires.at_task.ready
    (record {
      number = refl;
      size = c.requires.at_task.ready.size;
      drawn = refl;
      seat = refl;
      mapped = refl;
      failed = refl;
    })
    c.requires.plan c.requires.at_task.drawn c.in-Ok.ensures
    (c.push_reserved.ensures.items ∙ ap (λ (xs : List OfferNote). xs ++ record {
      offer = c.in-Ok.copy;
      answer = c.in-Ok-offer.answer;
    } ∷ []) c.reserve.ensures.items) c.in-Ok-offer.ensures.ok.2 c.in-Ok-offer.ensures.ok.3).after

pub returns-in-Ok-offer-clause-attempt : goal.returns-in-Ok-offer-clause-attempt
returns-in-Ok-offer-clause-attempt g c =
    subst (Attempts c.args.self.now.pass c.args.self.now.turn c.args.worker.now
    (record c.args.worker.now { pass = c.offer.new.pass; notes = c.push_reserved.new.self }) c.args.net)
    (sym c.attempt_of.ensures)
    (offered c.args.self.now.pass c.args.self.now.turn c.keeps.ensures.turn c.events_keep.ensures.boards
    c.late_offers_are_fair.ensures c.args.worker.now
    (record c.args.worker.now { pass = c.offer.new.pass; notes = c.push_reserved.new.self })
    c.args.net c.args.offer c.in-Ok.copy c.in-Ok-offer.answer
    c.in-Ok-offer.ensures.ok.0 c.in-Ok-offer.ensures.ok.1 c.requires.at_task.ready
    (record {
      number = refl;
      size = c.requires.at_task.ready.size;
      drawn = refl;
      seat = refl;
      mapped = refl;
      failed = refl;
    })
    c.requires.plan c.requires.at_task.drawn c.in-Ok.ensures
    (c.push_reserved.ensures.items ∙ ap (λ (xs : List OfferNote). xs ++ record {
      offer = c.in-Ok.copy;
      answer = c.in-Ok-offer.answer;
    } ∷ []) c.reserve.ensures.items) c.in-Ok-offer.ensures.ok.2 c.in-Ok-offer.ensures.ok.3).attempt

pub returns-in-Err-offer-clause-ready : goal.returns-in-Err-offer-clause-ready
returns-in-Err-offer-clause-ready g c =
    (quiet c.args.self.now.pass c.args.self.now.turn c.args.worker.now _ NoMemory c.in-Err-offer.ensures.err.1.0
    c.requires.at_task.ready
    (record {
      number = refl;
      size = c.requires.at_task.ready.size;
      drawn = refl;
      seat = refl;
      mapped = refl;
      failed = refl;
    })
    c.reserve.ensures.items refl refl c.in-Err-offer.ensures.err.1.1).ready

pub returns-in-Err-offer-clause-after : goal.returns-in-Err-offer-clause-after
returns-in-Err-offer-clause-after g c =
    (quiet c.args.self.now.pass c.args.self.now.turn c.args.worker.now _ NoMemory c.in-Err-offer.ensures.err.1.0
    c.requires.at_task.ready
    (record {
      number = refl;
      size = c.requires.at_task.ready.size;
      drawn = refl;
      seat = refl;
      mapped = refl;
      failed = refl;
    })
    c.reserve.ensures.items refl refl c.in-Err-offer.ensures.err.1.1).after
