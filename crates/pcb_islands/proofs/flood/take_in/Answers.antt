use Rattle.std.proofs.Common.{◌≡◌, ℕ, ◌+◌, ◌≤◌, List, [], ◌∷◌, ◌++◌, length, take, get_or, sym, subst, arith}
use Rattle.std.proofs.lemmas.List.{take_more, take_all}
use Rattle.pcb_islands.specs.inner.Flooding.{IsTakenIn}
use Rattle.pcb_islands.proofs.Taking.{taken_none, taken_then}
use Rattle.pcb_islands.proofs.flood.take_in.Goals as goal

pub loop-id-init : goal.loop-id-init
loop-id-init c = taken_none c.args.reached.now c.args.waiting.now.items

pub loop-id-preserved : goal.loop-id-preserved
loop-id-preserved c =
    let ids = c.args.ids.now in
    let i = c.loop-id.id-index in
    let more : take (i + 1) ids ≡ take i ids ++ get_or ids i 0 ∷ [] = take_more ids i 0 c.loop-id-test.true in
    subst (λ (s : List ℕ). IsTakenIn c.args.reached.now c.args.waiting.now.items s c.take_one.new.reached
    c.take_one.new.waiting.items) (sym more)
    (taken_then _ _ _ _ _ _ _ _ c.loop-id.invariant c.in_ok-take_one.ensures)

pub returns : goal.returns
returns c =
    let past : length c.args.ids.now ≤ c.loop-id.id-index = omega arith in
    subst (λ (s : List ℕ). IsTakenIn c.args.reached.now c.args.waiting.now.items s c.loop-id.reached
    c.loop-id.waiting.items) (take_all c.loop-id.id-index c.args.ids.now past) c.loop-id.invariant
