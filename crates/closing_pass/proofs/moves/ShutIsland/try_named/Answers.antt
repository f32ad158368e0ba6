use Rattle.std.proofs.Common.{◌≡◌, ◌∙◌, ℕ, List, Option, ap, get_or, subst, take}
use Rattle.std.specs.Prelude.{Contains}
use Rattle.std.proofs.lemmas.List.Elements.{Contains-get_or}
use Rattle.pcb_model.specs.declared.item.Item.{Item}
use Rattle.cut_certificate.specs.declared.cut.Cut.{Cut}
use Rattle.pcb_board.specs.Boards.{BoardOf}
use Rattle.closing_pass.specs.Settled.{AreNamed}
use Rattle.closing_pass.specs.inner.Steps.{AreReady}
use Rattle.closing_pass.specs.inner.Trials.{after_trial}
use Rattle.closing_pass.specs.inner.Tries.{AnswersItem, ShutIslandOf}
use Rattle.closing_pass.proofs.Helpless.{named_routed, none_of_all, none_of_more, none_of_none, taken_in}
use Rattle.closing_pass.proofs.moves.ShutIsland.try_named.Goals as goal

pub loop-id-init : goal.loop-id-init
loop-id-init c = record { none = none_of_none c.args.self.now; ready = c.requires.ready }

pub try_item-requires-clause-ready : goal.try_item-requires-clause-ready
try_item-requires-clause-ready c = c.loop-id.invariant.ready

pub try_item-requires-clause-item : goal.try_item-requires-clause-item
try_item-requires-clause-item c =
    let s = c.args.self.now in
    let cut = s.cut in
    let ids = c.in_ok-ids.ids.items in
    let xs = c.deref-id-items.result.now in
    let named = subst (λ (y : List Item × Cut). AreNamed y.0 y.1 ids)
    (λ i. ((c.items.ensures.items ∙ ap (λ (t : ShutIslandOf). t.board.items) c.self.view_is) i, (c.self.view_is i).cut))
    c.in_ok-ids.ensures in
    let list_is : xs ≡ take s.tries ids = c.deref-id-items.ensures.value ∙ c.truncate.ensures.items
    ∙ ap (λ (t : ShutIslandOf). take t.tries ids) c.self.view_is in
    let id = get_or xs c.loop-id.id-index 0 in
    named_routed s cut ids id named (taken_in s.tries ids id (subst (λ (ys : List ℕ). Contains ys id) list_is
    (Contains-get_or xs c.loop-id.id-index 0 c.loop-id-test.true)))

pub returns-in-Some-clause-answers : goal.returns-in-Some-clause-answers
returns-in-Some-clause-answers c =
    subst (λ (r : Option BoardOf). AnswersItem c.args.self.now
    (get_or c.deref-id-items.result.now c.loop-id.id-index 0) r) c.in-Some.is c.in_ok-helped.ensures.answers

pub returns-in-Some-clause-ready : goal.returns-in-Some-clause-ready
returns-in-Some-clause-ready c =
    let s = c.args.self.now in
    subst (λ (r : Option BoardOf). AreReady s.lat s.via_cost (after_trial s.board r) c.try_item.new.state) c.in-Some.is
    c.in_ok-helped.ensures.ready

pub loop-id-preserved : goal.loop-id-preserved
loop-id-preserved c =
    let s = c.args.self.now in
    let xs = c.deref-id-items.result.now in
    record {
      none = none_of_more s xs c.loop-id.id-index c.loop-id-test.true c.loop-id.invariant.none
          (subst (λ (r : Option BoardOf). AnswersItem s (get_or xs c.loop-id.id-index 0) r) c.in_default.is
          c.in_ok-helped.ensures.answers);
      ready = subst (λ (r : Option BoardOf). AreReady s.lat s.via_cost (after_trial s.board r) c.try_item.new.state)
          c.in_default.is c.in_ok-helped.ensures.ready;
    }

pub returns-clause-answers : goal.returns-clause-answers
returns-clause-answers c =
    let s = c.args.self.now in
    let cut = s.cut in
    let ids = c.in_ok-ids.ids.items in
    let xs = c.deref-id-items.result.now in
    let named = subst (λ (y : List Item × Cut). AreNamed y.0 y.1 ids)
    (λ i. ((c.items.ensures.items ∙ ap (λ (t : ShutIslandOf). t.board.items) c.self.view_is) i, (c.self.view_is i).cut))
    c.in_ok-ids.ensures in
    let list_is : xs ≡ take s.tries ids = c.deref-id-items.ensures.value ∙ c.truncate.ensures.items
    ∙ ap (λ (t : ShutIslandOf). take t.tries ids) c.self.view_is in
    record {
      ids = ids;
      named = named;
      settled = none_of_all s xs (take s.tries ids) c.loop-id.id-index c.loop-id-test.false list_is
          c.loop-id.invariant.none;
    }

pub returns-clause-ready : goal.returns-clause-ready
returns-clause-ready c = c.loop-id.invariant.ready
