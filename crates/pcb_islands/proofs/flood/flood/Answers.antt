use Rattle.std.proofs.Common.{◌≡◌, sym, subst}
use Rattle.std.proofs.lemmas.Result.{IfOk-weaker}
use Rattle.pcb_islands.specs.Islands.{AreIdsJoined}
use Rattle.pcb_islands.proofs.Flooded.{flood_ends}
use Rattle.pcb_islands.proofs.flood.flood.Goals as goal

pub returns : goal.returns
returns g c =
    let items = g.C.Copper.items c.args.c.now in
    let reached = c.reach_all.new.reached in
    let ended = flood_ends items c.args.start.now reached c.requires.there c.in_ok-reach_all.ensures
    c.to_list.ensures.ascend in
    IfOk-weaker c.to_list.result (λ ids. ids ≡ reached) (AreIdsJoined items c.args.start.now)
    (λ ids is. subst (AreIdsJoined items c.args.start.now) (sym is) ended) c.to_list.ensures.list
