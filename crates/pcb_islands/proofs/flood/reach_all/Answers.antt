use Rattle.std.proofs.Common.{◌≡◌, ℕ, ◌-◌, ◌<◌, take, vec_len, arith, List, [], ◌∷◌, ◌++◌, sym, ◌∙◌, ap, subst}
use Rattle.std.proofs.lemmas.List.Elements.{All-contains}
use Rattle.std.proofs.lemmas.List.{append-nil}
use Rattle.pcb_model.specs.Bounds.{IsItemFit}
use Rattle.pcb_islands.specs.inner.Flooding.{work, IsTakenIn, IsFlooded}
use Rattle.pcb_islands.proofs.Flooded.{flood_begins, flood_goes_on, less_work}
use Rattle.pcb_islands.proofs.flood.reach_all.Goals as goal

pub loop-id-init : goal.loop-id-init
loop-id-init g c = flood_begins _ _ _ _ c.requires.there
    (subst (λ (r : List ℕ). IsTakenIn r [] (c.args.start.now.id ∷ []) c.take_in.new.reached c.take_in.new.waiting.items)
    c.requires.none
    (subst (λ (w : List ℕ). IsTakenIn c.args.reached.now w (c.args.start.now.id ∷ []) c.take_in.new.reached
    c.take_in.new.waiting.items) c.new-waiting.ensures.items c.in_ok-take_in.ensures))

pub spread-requires-clause-fits : goal.spread-requires-clause-fits
spread-requires-clause-fits g c =
    All-contains IsItemFit (g.C.Copper.items c.args.c.now) c.in-Some-item.a.now c.requires.fit c.in-Some-item.ensures.0

pub loop-id-preserved : goal.loop-id-preserved
loop-id-preserved g c =
    let items = g.C.Copper.items c.args.c.now in
    let a = c.in-Some-item.a.now in
    let rest = c.pop.new.self.items in
    let popped : c.loop-id.waiting.items ≡ rest ++ a.id ∷ [] =
    c.in-Some.ensures.items ∙ ap (λ (q : ℕ). rest ++ q ∷ []) (sym c.in-Some-item.ensures.1) in
    let before = subst (λ (w : List ℕ). IsFlooded items c.args.start.now c.loop-id.reached w) popped
    c.loop-id.invariant in
    let s = c.in_ok-spread.ensures in
    flood_goes_on items c.args.start.now a _ _ _ _ _ c.requires.in_order c.in-Some-item.ensures.0 before
    s.1 s.2

pub loop-id-smaller : goal.loop-id-smaller
loop-id-smaller g c =
    let items = g.C.Copper.items c.args.c.now in
    let a = c.in-Some-item.a.now in
    let rest = c.pop.new.self.items in
    let popped : c.loop-id.waiting.items ≡ rest ++ a.id ∷ [] =
    c.in-Some.ensures.items ∙ ap (λ (q : ℕ). rest ++ q ∷ []) (sym c.in-Some-item.ensures.1) in
    let before = subst (λ (w : List ℕ). IsFlooded items c.args.start.now c.loop-id.reached w) popped
    c.loop-id.invariant in
    let s = c.in_ok-spread.ensures in
    subst (λ (w : List ℕ). work items c.spread.new.reached c.spread.new.waiting.items
    < work items c.loop-id.reached w) (sym popped)
    (less_work items c.args.start.now a _ _ _ _ _ c.requires.in_order c.in-Some-item.ensures.0 before
    s.1 s.2)

pub returns : goal.returns
returns g c =
    let items = g.C.Copper.items c.args.c.now in
    let h = c.in_default.ensures in
    let one_less : vec_len c.loop-id.waiting - 1 ≡ 0 = omega (arith, h.cases.0) in
    let empty : c.loop-id.waiting.items ≡ [] = h.items ∙ append-nil c.pop.new.self.items ∙ h.rest
    ∙ ap (λ (n : ℕ). take n c.loop-id.waiting.items) one_less in
    subst (λ (w : List ℕ). IsFlooded items c.args.start.now c.loop-id.reached w) empty c.loop-id.invariant
