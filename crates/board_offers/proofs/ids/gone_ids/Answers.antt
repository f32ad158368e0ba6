use Rattle.std.proofs.Common.{◌≡◌, ◌∙◌, ap, sym, ℕ, ◌+◌, ◌<◌, List, [], ◌∷◌, ◌++◌, length, get_or, map, take}
use Rattle.std.proofs.Common.{append_assoc, append-nil}
use Rattle.std.proofs.lemmas.List.{map_more, take_all}
use Rattle.board_offers.specs.declared.offer.Shoved.{Shoved}
use Rattle.board_offers.proofs.ids.gone_ids.Goals as goal

-- one more id behind those of the shoves that are seen
id_more : (rip : List ℕ) (shoves : List Shoved) (i : ℕ) (s : Shoved) (old new : List ℕ) → i < length shoves
    → s ≡ get_or shoves i s → old ≡ rip ++ map (λ (s : Shoved). s.id) (take i shoves) → new ≡ old ++ (s.id ∷ [])
    → new ≡ rip ++ map (λ (s : Shoved). s.id) (take (i + 1) shoves)
id_more rip shoves i s old new h e p q =
    q ∙ ap (λ ids. ids ++ (s.id ∷ [])) p
    ∙ append_assoc rip (map (λ (s : Shoved). s.id) (take i shoves)) (s.id ∷ [])
    ∙ ap (λ (s : Shoved). rip ++ (map (λ (s : Shoved). s.id) (take i shoves) ++ (s.id ∷ []))) e
    ∙ ap (λ (ids : List ℕ). rip ++ ids) (sym (map_more (λ (s : Shoved). s.id) shoves i s h))

pub loop-s-init : goal.loop-s-init
loop-s-init c = c.in_ok-ids.ensures.items ∙ c.as_slice.ensures ∙ sym (append-nil c.args.offer.now.rip)

pub loop-s-preserved : goal.loop-s-preserved
loop-s-preserved c =
    id_more c.args.offer.now.rip c.as_slice-shoves.result.now c.loop-s.s-index c.s-item.result c.loop-s.ids.items
    c.push.new.self.items c.loop-s-test.true c.s-item.is c.loop-s.invariant c.in_ok-push.ensures.items

pub returns : goal.returns
returns c =
    c.loop-s.invariant
    ∙ ap (λ (ss : List Shoved). c.args.offer.now.rip ++ map (λ (s : Shoved). s.id) ss)
    (take_all c.loop-s.s-index c.as_slice-shoves.result.now c.loop-s-test.false ∙ c.as_slice-shoves.ensures)
