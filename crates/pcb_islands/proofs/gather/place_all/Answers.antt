use Rattle.std.proofs.Common.{◌≡◌, ◌≤◌, ℕ, ◌+◌, List, [], ◌∷◌, ◌++◌, length, take, get_or, sym, subst, arith}
use Rattle.std.proofs.lemmas.List.{take_more, take_all}
use Rattle.pcb_islands.specs.inner.Progress.{ArePlaced}
use Rattle.pcb_islands.proofs.Placed.{placed_none, placed_more}
use Rattle.pcb_islands.proofs.gather.place_all.Goals as goal

pub loop-id-init : goal.loop-id-init
loop-id-init c = placed_none c.args.places.now c.args.place

pub loop-id-preserved : goal.loop-id-preserved
loop-id-preserved c =
    let ids = c.args.ids.now in
    let i = c.loop-id.id-index in
    let more : take (i + 1) ids ≡ take i ids ++ get_or ids i 0 ∷ [] = take_more ids i 0 c.loop-id-test.true in
    subst (λ (s : List ℕ). ArePlaced c.args.places.now s c.args.place c.set.new.self) (sym more)
    (placed_more _ _ _ _ _ _ c.loop-id.invariant c.in_ok-set.ensures)

pub returns : goal.returns
returns c =
    let past : length c.args.ids.now ≤ c.loop-id.id-index = omega arith in
    subst (λ (s : List ℕ). ArePlaced c.args.places.now s c.args.place c.loop-id.places)
    (take_all c.loop-id.id-index c.args.ids.now past) c.loop-id.invariant
