use Rattle.std.proofs.Common.{◌≡◌, ℕ, ◌+◌, List, [], ◌∷◌, ◌++◌, take, get_or, sym, subst, arith}
use Rattle.std.specs.Prelude.{OnOk}
use Rattle.std.proofs.lemmas.List.{take_more}
use Rattle.std.proofs.lemmas.Option.{slice_get_within}
use Rattle.std.proofs.lemmas.Result.{on_ok_weaker}
use Rattle.pcb_islands.specs.inner.Progress.{IsProgress}
use Rattle.pcb_islands.proofs.Classes.{pad_in}
use Rattle.pcb_islands.proofs.Gathering.{joins, opens}
use Rattle.pcb_islands.proofs.gather.Gatherer.gather.Goals as goal

pub join-requires : goal.join-requires
join-requires g c =
    let h = c.requires.progress.each c.pad_of-pad.result.now.id c.in-Some.place (sym c.in-Some.ensures) in
    omega (arith, slice_get_within c.args.found.now.items c.in-Some.place h.island h.there)

pub open-requires-clause-there : goal.open-requires-clause-there
open-requires-clause-there g c =
    pad_in c.args.self.now.d.now (g.C.Copper.items c.args.self.now.c.now) (g.met.C.Copper.serving _ _ c.requires.serves)
    _ c.pad_of-pad.result.now c.pad_of-pad.ensures

pub returns-in-Some : goal.returns-in-Some
returns-in-Some g c =
    let d = c.args.self.now.d.now in
    let items = g.C.Copper.items c.args.self.now.c.now in
    let net = c.args.self.now.net in
    let front = take c.args.k c.args.pins.now in
    let pin = get_or c.args.pins.now c.args.k 0 in
    let more : take (c.args.k + 1) c.args.pins.now ≡ front ++ pin ∷ [] =
    take_more c.args.pins.now c.args.k 0 c.requires.place in
    subst (λ (ps : List ℕ). OnOk c.join.result (IsProgress d items net ps c.join.new.found.items c.args.places.now))
    (sym more)
    (on_ok_weaker c.join.result
    (joins d items net c.requires.sound (g.met.C.Copper.serving _ _ c.requires.serves) c.requires.in_order front
    pin c.pad_of-pad.result.now c.pad_of-pad.ensures
    c.args.found.now.items c.args.places.now c.requires.progress c.in-Some.place c.join.new.found.items
    (sym c.in-Some.ensures)) c.join.ensures)

pub returns-in-None : goal.returns-in-None
returns-in-None g c =
    let d = c.args.self.now.d.now in
    let items = g.C.Copper.items c.args.self.now.c.now in
    let net = c.args.self.now.net in
    let front = take c.args.k c.args.pins.now in
    let pin = get_or c.args.pins.now c.args.k 0 in
    let more : take (c.args.k + 1) c.args.pins.now ≡ front ++ pin ∷ [] =
    take_more c.args.pins.now c.args.k 0 c.requires.place in
    subst (λ (ps : List ℕ). OnOk c.open.result (IsProgress d items net ps c.open.new.found.items c.open.new.places))
    (sym more)
    (on_ok_weaker c.open.result
    (opens d items net c.requires.sound (g.met.C.Copper.serving _ _ c.requires.serves) c.requires.in_order front
    pin c.pad_of-pad.result.now c.pad_of-pad.ensures
    c.args.found.now.items c.args.places.now c.requires.progress c.pairs_are_symmetric.ensures.touch
    c.open.new.found.items c.open.new.places (sym c.in-None.ensures)) c.open.ensures)
