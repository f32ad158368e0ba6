use Rattle.std.proofs.Common.{◌∙◌, ◌≤◌, List, ap, length, subst, sym}
use Rattle.std.specs.List.{insert}
use Rattle.pcb_islands.specs.declared.net.Island.{Island}
use Rattle.closing_pass.proofs.Helpless.{answers_at, shut_island}
use Rattle.closing_pass.proofs.Places.{place_within, put_again}
use Rattle.closing_pass.proofs.join.Closer.help_at.Goals as goal

pub remove-island-requires : goal.remove-island-requires
remove-island-requires c = c.requires.place

pub invariant_of-shut : goal.invariant_of-shut
invariant_of-shut c = shut_island c.args.self.now.lat.now c.args.self.now.via_cost c.args.board.now c.args.found
    c.remove-island.new.self c.args.place c.remove-island.result c.args.cut.now c.requires.shut
    c.remove-island.ensures.value c.remove-island.ensures.rest c.requires.cut

pub try_named-helped-requires : goal.try_named-helped-requires
try_named-helped-requires c = record { ready = c.requires.ready }

pub put_back-requires : goal.put_back-requires
put_back-requires c =
    subst (λ (os : List Island). c.args.place ≤ length os) (sym c.remove-island.ensures.rest)
    (place_within c.args.found c.args.place c.requires.place)

pub returns-in-Ok-put_back-clause-found : goal.returns-in-Ok-put_back-clause-found
returns-in-Ok-put_back-clause-found c =
    c.in-Ok-put_back.ensures ∙ ap (λ (xs : List Island). insert xs c.args.place c.remove-island.result)
    c.remove-island.ensures.rest
    ∙ put_again c.args.found c.args.place c.remove-island.result c.remove-island.ensures.value

pub returns-in-Ok-put_back-clause-answers : goal.returns-in-Ok-put_back-clause-answers
returns-in-Ok-put_back-clause-answers c =
    answers_at c.args.self.now.lat.now c.args.self.now.via_cost c.args.self.now.tries c.args.board.now c.args.found
    c.remove-island.new.self c.args.place c.remove-island.result c.args.cut.now c.remove-island.ensures.value
    c.remove-island.ensures.rest c.in-Ok.helped c.in-Ok.ensures.answers

pub returns-in-Ok-put_back-clause-ready : goal.returns-in-Ok-put_back-clause-ready
returns-in-Ok-put_back-clause-ready c = c.in-Ok.ensures.ready
