use Rattle.std.proofs.Common.{◌≡◌, ◌∙◌, ◌<◌, ℕ, List, All, IfSome, false, ap, get_or, length, replicate, subst, sym}
use Rattle.std.proofs.lemmas.List.{length-replicate}
use Rattle.std.proofs.lemmas.Option.{slice_get-get_or}
use Rattle.pcb_model.specs.declared.item.Item.{Item}
use Rattle.ses_reader.specs.declared.item.SesItem.{SesItem}
use Rattle.route_check.specs.Board.{left_of}
use Rattle.route_check.specs.inner.Left.{kept}
use Rattle.route_check.proofs.Gone.{all_kept, filled}
use Rattle.route_check.proofs.left.gone_items.Goals as goal

pub link-requires : goal.link-requires
link-requires c = subst (λ (n : ℕ). All (λ (x : SesItem). x.net < n) c.args.xs.now) (sym c.len.ensures)
    (λ i x within. (c.requires.items i x within).net_in_range)

pub take_each-requires-clause-nets : goal.take_each-requires-clause-nets
take_each-requires-clause-nets c = subst (λ (items : List Item). All (λ (a : Item). IfSome a.net
    (λ net. net < c.in_ok-linked.linked.nets)) items) (sym c.as_slice.ensures)
    (subst (λ (n : ℕ). All (λ (a : Item). IfSome a.net (λ net. net < n)) c.args.d.now.fixed)
    (sym (c.in_ok-linked.ensures.nets ∙ c.len.ensures))
    (λ i a within. (c.requires.sound.fixed i (get_or c.args.d.now.fixed i a)
    (slice_get-get_or c.args.d.now.fixed i a within)).item.net_in_range))

pub take_each-requires-clause-count : goal.take_each-requires-clause-count
take_each-requires-clause-count c =
    ap length (c.in_ok-gone.ensures.items_if_clones_equal (λ y e. e)) ∙ length-replicate (length c.args.xs.now) false
    ∙ ap length (sym c.in_ok-linked.ensures.xs)

pub returns-clause-count : goal.returns-clause-count
returns-clause-count c = c.take_each.ensures.count
    ∙ ap length (c.in_ok-gone.ensures.items_if_clones_equal (λ y e. e))
    ∙ length-replicate (length c.args.xs.now) false

pub returns-clause-left : goal.returns-clause-left
returns-clause-left c =
    let xs = c.args.xs.now in
    let gone = c.in_ok-gone.gone.items in
    let flags : gone ≡ replicate (length xs) false = c.in_ok-gone.ensures.items_if_clones_equal (λ y e. e) in
    subst (λ (ys : List SesItem). kept c.take_each.new.gone.items ys ≡ left_of c.args.d.now.fixed xs)
    c.in_ok-linked.ensures.xs
    (c.take_each.ensures.taken
    ∙ ap (λ (fixed : List Item). left_of fixed (kept gone c.in_ok-linked.linked.xs.now)) c.as_slice.ensures
    ∙ ap (left_of c.args.d.now.fixed) (ap (kept gone) c.in_ok-linked.ensures.xs
    ∙ all_kept gone xs (ap length flags ∙ length-replicate (length xs) false) (filled (length xs) false gone flags)))
