use Rattle.std.proofs.Common.{◌≡◌, ◌≤◌, ℕ, List, [], length, take, sym, ◌∙◌, subst, arith}
use Rattle.std.proofs.lemmas.List.{take_all}
use Rattle.pcb_islands.specs.declared.net.Island.{Island}
use Rattle.pcb_islands.specs.Islands.{pins_of, AreIslandsOf}
use Rattle.pcb_islands.specs.inner.Progress.{IsProgress}
use Rattle.pcb_islands.proofs.Gathering.{none_gathered}
use Rattle.pcb_islands.proofs.gather.Gatherer.gather_all.Goals as goal

pub loop-k-init : goal.loop-k-init
loop-k-init g c =
    let d = c.args.self.now.d.now in
    let items = g.C.Copper.items c.args.self.now.c.now in
    let net = c.args.self.now.net in
    subst (λ (fs : List Island). IsProgress d items net [] fs c.new-places.result) (sym c.new-found.ensures.items)
    (subst (λ (ps : List (ℕ × ℕ)). IsProgress d items net [] [] ps) (sym c.new-places.ensures)
    (none_gathered d items net))

pub returns : goal.returns
returns g c =
    let d = c.args.self.now.d.now in
    let items = g.C.Copper.items c.args.self.now.c.now in
    let net = c.args.self.now.net in
    let past : length c.args.pins.now ≤ c.loop-k.k = omega arith in
    let whole : take c.loop-k.k c.args.pins.now ≡ pins_of d net = take_all c.loop-k.k c.args.pins.now past
    ∙ c.requires.pins in
    subst (λ (ps : List ℕ). AreIslandsOf d items net ps c.loop-k.found.items) whole c.loop-k.invariant.islands
