use Rattle.std.proofs.Common.{◌≡◌, rules, not, ◌==◌, filter, ◌∙◌}
use Rattle.std.specs.List.{list_any}
use Rattle.std.proofs.lemmas.Fn.{filter_same}
use Rattle.pcb_islands.specs.declared.net.Island.{Island}
use Rattle.cut_certificate.proofs.make.others_among.Goals as goal

-- the closure keeps the islands that don't have the pin
pub returns : goal.returns
returns c =
    let kept : c.retain.new.self.items
    ≡ filter (λ (s : Island). not (list_any (λ pin. pin == c.first_pin-first.result) s.pins))
    c.into_vec-others.result.items = filter_same _ _ _ (λ x b f' k. search rules) _ _ c.retain.ensures.filtered in
    c.from_vec.ensures
    ∙ (kept ∙ (λ i. filter (λ (s : Island). not (list_any (λ pin. pin == c.first_pin-first.ensures i) s.pins))
    (c.into_vec-others.ensures i)))
