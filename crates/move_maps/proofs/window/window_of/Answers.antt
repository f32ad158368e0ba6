use Rattle.std.proofs.Common.{rules, ◌≤◌, ℤ, List, length, ap, sym, ◌∙◌, subst}
use Rattle.std.specs.Ordering.{int_cmp}
use Rattle.std.specs.List.Sorted.{IsStrictlySortedBy}
use Rattle.move_maps.specs.declared.window.Window.{Window}
use Rattle.move_maps.specs.Settings.{GroupOf}
use Rattle.move_maps.specs.Windows.{LeavesOut}
use Rattle.move_maps.proofs.window.window_of.Goals as goal

pub first_from-requires : goal.first_from-requires
first_from-requires c =
    subst (IsStrictlySortedBy int_cmp) (sym (c.as_slice-xs.ensures ∙ c.xs.ensures))
    c.group.invariant.can_move.fits.xs_ascend

pub first_above-requires : goal.first_above-requires
first_above-requires c =
    subst (IsStrictlySortedBy int_cmp) (sym (c.as_slice-xs.ensures ∙ c.xs.ensures))
    c.group.invariant.can_move.fits.xs_ascend

pub first_from-requires-2 : goal.first_from-requires-2
first_from-requires-2 c =
    subst (IsStrictlySortedBy int_cmp) (sym (c.as_slice-ys.ensures ∙ c.ys.ensures))
    c.group.invariant.can_move.fits.ys_ascend

pub first_above-requires-2 : goal.first_above-requires-2
first_above-requires-2 c =
    subst (IsStrictlySortedBy int_cmp) (sym (c.as_slice-ys.ensures ∙ c.ys.ensures))
    c.group.invariant.can_move.fits.ys_ascend

pub returns-clause-left : goal.returns-clause-left
returns-clause-left c =
    subst (λ (zs : List ℤ). c.first_from.result ≤ length zs) (c.as_slice-xs.ensures
    ∙ (c.xs.ensures ∙ ap (λ (s : GroupOf). s.lat.xs) c.group.view_is))
    c.first_from.ensures.within

pub returns-clause-right : goal.returns-clause-right
returns-clause-right c =
    subst (λ (zs : List ℤ). c.first_above.result ≤ length zs) (c.as_slice-xs.ensures
    ∙ (c.xs.ensures ∙ ap (λ (s : GroupOf). s.lat.xs) c.group.view_is))
    c.first_above.ensures.within

pub returns-clause-bottom : goal.returns-clause-bottom
returns-clause-bottom c =
    subst (λ (zs : List ℤ). c.first_from-2.result ≤ length zs) (c.as_slice-ys.ensures
    ∙ (c.ys.ensures ∙ ap (λ (s : GroupOf). s.lat.ys) c.group.view_is))
    c.first_from-2.ensures.within

pub returns-clause-top : goal.returns-clause-top
returns-clause-top c =
    subst (λ (zs : List ℤ). c.first_above-2.result ≤ length zs) (c.as_slice-ys.ensures
    ∙ (c.ys.ensures ∙ ap (λ (s : GroupOf). s.lat.ys) c.group.view_is))
    c.first_above-2.ensures.within

pub returns-clause-leaves : goal.returns-clause-leaves
returns-clause-leaves c =
    let w : Window = record {
      left = c.first_from.result;
      right = c.first_above.result;
      bottom = c.first_from-2.result;
      top = c.first_above-2.result;
    } in
    let leaves : LeavesOut c.group.inside.lat.now c.args.area w = search rules in
    subst (λ (s : GroupOf). LeavesOut s.lat c.args.area w) c.group.view_is leaves
