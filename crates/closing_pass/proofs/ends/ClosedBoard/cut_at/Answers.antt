use Rattle.std.proofs.Common.{◌∙◌, ◌<◌, ◌≤◌, ap, length, List, Option, Some, subst, sym}
use Rattle.std.specs.List.{insert}
use Rattle.std.specs.Prelude.{IfSome}
use Rattle.std.proofs.lemmas.Option.{slice_get_within}
use Rattle.pcb_islands.specs.declared.net.Island.{Island}
use Rattle.pcb_islands.specs.Islands.{pins_of}
use Rattle.pcb_islands.proofs.Gathering.{island_at}
use Rattle.cut_certificate.specs.Cuts.{Cuts, LeadsOn}
use Rattle.closing_pass.proofs.Places.{place_within, put_again}
use Rattle.closing_pass.proofs.ends.ClosedBoard.cut_at.Goals as goal

pub remove-island-requires : goal.remove-island-requires
remove-island-requires c = c.requires.place

-- an island has a first pin
pub cut_of-requires : goal.cut_of-requires
cut_of-requires c =
    let s = c.args.self.now in
    let island = c.remove-island.result in
    let net = c.requires.shut.net in
    let is = island_at s.d s.items net (pins_of s.d net) c.args.found c.args.place island c.requires.shut.islands
    c.remove-island.ensures.value in
    record {
      net_there = subst (λ n. n < length s.d.nets) (sym is.net_is) c.requires.shut.net_there;
      pins = slice_get_within island.pins 0 is.first is.first_is;
    }

-- no walk leads on from the island, so it has a cut
pub unreachable-requires : goal.unreachable-requires
unreachable-requires c =
    let s = c.args.self.now in
    c.requires.shut.shut c.args.place c.remove-island.result c.remove-island.ensures.value
    (subst (λ (os : List Island). LeadsOn s.d s.lat s.items s.via_cost c.remove-island.result os)
    c.remove-island.ensures.rest
    (subst (Cuts s.d s.lat s.items s.via_cost c.remove-island.result c.remove-island.new.self)
    c.in-Ok-None.field-0-is c.in-Ok-None.ensures))

pub put_back-requires : goal.put_back-requires
put_back-requires c =
    subst (λ (os : List Island). c.args.place ≤ length os) (sym c.remove-island.ensures.rest)
    (place_within c.args.found c.args.place c.requires.place)

pub returns-in-Ok-clause-found : goal.returns-in-Ok-clause-found
returns-in-Ok-clause-found c =
    c.in-Ok.ensures ∙ ap (λ (xs : List Island). insert xs c.args.place c.remove-island.result)
    c.remove-island.ensures.rest
    ∙ put_again c.args.found c.args.place c.remove-island.result c.remove-island.ensures.value

-- the cut of what was taken out is that of the island at the place
pub returns-in-Ok-clause-cut : goal.returns-in-Ok-clause-cut
returns-in-Ok-clause-cut c = λ island there.
    let s = c.args.self.now in
    subst (λ (os : List Island). Cuts s.d s.lat s.items s.via_cost island os (Some c.in-Ok-Some.cut))
    c.remove-island.ensures.rest
    (subst (λ (o : Option Island). IfSome o (λ i. Cuts s.d s.lat s.items s.via_cost i
    c.remove-island.new.self (Some c.in-Ok-Some.cut))) (sym c.remove-island.ensures.value ∙ there)
    (subst (Cuts s.d s.lat s.items s.via_cost c.remove-island.result c.remove-island.new.self)
    c.in-Ok-Some.field-0-is c.in-Ok-Some.ensures))
