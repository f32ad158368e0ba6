use Rattle.std.proofs.Common.{◌-◌, ◌≤◌, length, take, ◌≡◌, ◌∷◌, ◌∙◌, List, drop, sym, ap, subst, arith}
use Rattle.std.proofs.lemmas.List.{length-drop, take_all, drop_more}
use Rattle.std.specs.Prelude.{OnOk}
use Rattle.pcb_model.specs.declared.design.Component.{Component}
use Rattle.ses_writer.specs.Session.{component_line, component_lines}
use Rattle.ses_writer.specs.Words.{Appends}
use Rattle.ses_writer.proofs.Puts.{then_put, put_last}
use Rattle.ses_writer.proofs.placement.put_components.Goals as goal

pub returns-in_ok-put_place-in-len1-up : goal.returns-in_ok-put_place-in-len1-up
unfolding component_lines component_line
returns-in_ok-put_place-in-len1-up c =
    let cs = c.args.components.now in let one = c.first-item.result in
    let short : length (drop 1 cs) ≤ length cs - 1 = (let l = length-drop 1 cs in omega (arith, l)) in
    let is : cs ≡ one ∷ take (length cs - 1) (drop 1 cs) =
    drop_more cs 0 one (omega (arith, c.in-len1-up.len_at_least))
    ∙ ap (λ (x : Component). x ∷ drop 1 cs) (sym c.first-item.is)
    ∙ ap (λ (xs : List Component). one ∷ xs) (sym (take_all (length cs - 1) (drop 1 cs) short)) in
    let head = rw c.as_slice.ensures at c.in_ok-put_framed-in-len1-up.ensures in
    let two = then_put head c.in_ok-put_place-in-len1-up.ensures in
    subst (λ (xs : List Component). OnOk c.put_places_after.result
    (Appends c.args.out.now.items c.put_places_after.new.out.items (component_lines c.args.nm xs))) (sym is)
    (put_last c.put_places_after.result _ _ two c.put_places_after.ensures)
