use Rattle.std.proofs.Common.{◌≡◌, ◌+◌, ◌++◌, All, List, length, sym, ◌∙◌, ap, subst, true≢false}
use Rattle.std.specs.Prelude.{AllPairs}
use Rattle.std.proofs.lemmas.List.Elements.{All-append}
use Rattle.pcb_model.specs.declared.item.Metal.{Metal}
use Rattle.pcb_model.specs.declared.item.Item.{Item}
use Rattle.pcb_model.specs.Bounds.{IsItemFit, IsMetalFit}
use Rattle.pcb_model.specs.Pairs.{Agrees}
use Rattle.board_offers.specs.Items.{added_from, replaced_from, added, replaced, new_items}
use Rattle.board_offers.specs.inner.Adding.{MayShove}
use Rattle.board_offers.proofs.Faults.{given_fit, metals_fit, added_fit, replaced_fit, refuted, timely_is, ends_are}
use Rattle.board_offers.proofs.Faults.{metals_are, across_is, inside_is, rips_are, shoves_are, Begins, Goes}
use Rattle.board_offers.proofs.Faults.{fails_first, fails_second, fails_third, fails_fourth, fails_fifth, fails_sixth}
use Rattle.board_offers.proofs.Faults.{fails_seventh, fails_eighth, fails_ninth}
use Rattle.board_offers.proofs.judgement.judge.Goals as goal

pub returns-then-not-is_timely-clause-judged : goal.returns-then-not-is_timely-clause-judged
returns-then-not-is_timely-clause-judged c =
    let d = c.args.d.now in
    let given = c.args.given.now in
    let n = c.args.entries in
    let o = c.args.offer.now in
    fails_first d given n o
    (refuted c.is_timely.result _ _ (timely_is d given n o) c.is_timely.ensures.1 c.if-not-is_timely.true)

pub returns-then-not-has_ends-clause-judged : goal.returns-then-not-has_ends-clause-judged
returns-then-not-has_ends-clause-judged c =
    let d = c.args.d.now in
    let given = c.args.given.now in
    let n = c.args.entries in
    let o = c.args.offer.now in
    fails_second d given n o ((timely_is d given n o).0 (c.is_timely.ensures.0 c.if-not-is_timely.false))
    (refuted c.has_ends.result _ _ (ends_are d given n o) c.has_ends.ensures.1 c.if-not-has_ends.true)

pub returns-then-not-has_metals-clause-judged : goal.returns-then-not-has_metals-clause-judged
returns-then-not-has_metals-clause-judged c =
    let d = c.args.d.now in
    let given = c.args.given.now in
    let n = c.args.entries in
    let o = c.args.offer.now in
    fails_third d given n o
    ((timely_is d given n o).0 (c.is_timely.ensures.0 c.if-not-is_timely.false))
    ((ends_are d given n o).0 (c.has_ends.ensures.0 c.if-not-has_ends.false))
    (refuted c.has_metals.result _ _ (metals_are d given n o c.as_slice-add.result.now c.as_slice-add.ensures)
    c.has_metals.ensures.1 c.if-not-has_metals.true)

pub added_items-requires-clause-fit : goal.added_items-requires-clause-fit
added_items-requires-clause-fit c =
    let d = c.args.d.now in
    let given = c.args.given.now in
    let n = c.args.entries in
    let o = c.args.offer.now in
    let metals = (metals_are d given n o c.as_slice-add.result.now c.as_slice-add.ensures).0
    (c.has_metals.ensures.0 c.if-not-has_metals.false) in
    subst (All IsMetalFit) (sym c.as_slice-add.ensures)
    (metals_fit d o.net o.add c.requires.sound (c.has_ends.ensures.0 c.if-not-has_ends.false).0 metals.each)

pub leads_across-requires-clause-given_fit : goal.leads_across-requires-clause-given_fit
leads_across-requires-clause-given_fit c =
    given_fit c.args.d.now c.args.given.now c.requires.given

pub may_rip_all-requires-clause-given_fit : goal.may_rip_all-requires-clause-given_fit
may_rip_all-requires-clause-given_fit c =
    given_fit c.args.d.now c.args.given.now c.requires.given

pub leads_across-requires-clause-fit : goal.leads_across-requires-clause-fit
leads_across-requires-clause-fit c =
    let d = c.args.d.now in
    let given = c.args.given.now in
    let n = c.args.entries in
    let o = c.args.offer.now in
    let items = c.as_slice-added.result.now in
    let is : items ≡ added d given o = c.as_slice-added.ensures.value ∙ c.in_ok-items.ensures
    ∙ ap (added_from d o.net (length given)) c.as_slice-add.ensures in
    let metals = (metals_are d given n o c.as_slice-add.result.now c.as_slice-add.ensures).0
    (c.has_metals.ensures.0 c.if-not-has_metals.false) in
    subst (All IsItemFit) (sym is)
    (added_fit d o.net (length given) o.add c.requires.sound
    (c.has_ends.ensures.0 c.if-not-has_ends.false).0 metals.each)

pub lie_inside-requires-clause-fit : goal.lie_inside-requires-clause-fit
lie_inside-requires-clause-fit c =
    let d = c.args.d.now in
    let given = c.args.given.now in
    let n = c.args.entries in
    let o = c.args.offer.now in
    let items = c.as_slice-added.result.now in
    let is : items ≡ added d given o = c.as_slice-added.ensures.value ∙ c.in_ok-items.ensures
    ∙ ap (added_from d o.net (length given)) c.as_slice-add.ensures in
    let metals = (metals_are d given n o c.as_slice-add.result.now c.as_slice-add.ensures).0
    (c.has_metals.ensures.0 c.if-not-has_metals.false) in
    subst (All IsItemFit) (sym is)
    (added_fit d o.net (length given) o.add c.requires.sound
    (c.has_ends.ensures.0 c.if-not-has_ends.false).0 metals.each)

pub may_rip_all-requires-clause-fit : goal.may_rip_all-requires-clause-fit
may_rip_all-requires-clause-fit c =
    let d = c.args.d.now in
    let given = c.args.given.now in
    let n = c.args.entries in
    let o = c.args.offer.now in
    let items = c.as_slice-added.result.now in
    let is : items ≡ added d given o = c.as_slice-added.ensures.value ∙ c.in_ok-items.ensures
    ∙ ap (added_from d o.net (length given)) c.as_slice-add.ensures in
    let metals = (metals_are d given n o c.as_slice-add.result.now c.as_slice-add.ensures).0
    (c.has_metals.ensures.0 c.if-not-has_metals.false) in
    subst (All IsItemFit) (sym is)
    (added_fit d o.net (length given) o.add c.requires.sound
    (c.has_ends.ensures.0 c.if-not-has_ends.false).0 metals.each)

pub replacements-requires-clause-fit : goal.replacements-requires-clause-fit
replacements-requires-clause-fit c =
    let d = c.args.d.now in
    let given = c.args.given.now in
    let n = c.args.entries in
    let o = c.args.offer.now in
    let items = c.as_slice-added.result.now in
    let is : items ≡ added d given o = c.as_slice-added.ensures.value ∙ c.in_ok-items.ensures
    ∙ ap (added_from d o.net (length given)) c.as_slice-add.ensures in
    let metals = (metals_are d given n o c.as_slice-add.result.now c.as_slice-add.ensures).0
    (c.has_metals.ensures.0 c.if-not-has_metals.false) in
    subst (All IsItemFit) (sym is)
    (added_fit d o.net (length given) o.add c.requires.sound
    (c.has_ends.ensures.0 c.if-not-has_ends.false).0 metals.each)

pub returns-then-not-leads_across-clause-judged : goal.returns-then-not-leads_across-clause-judged
returns-then-not-leads_across-clause-judged c =
    let d = c.args.d.now in
    let given = c.args.given.now in
    let n = c.args.entries in
    let o = c.args.offer.now in
    let begun : Begins d given n o = record {
      timely = (timely_is d given n o).0 (c.is_timely.ensures.0 c.if-not-is_timely.false);
      ends = (ends_are d given n o).0 (c.has_ends.ensures.0 c.if-not-has_ends.false);
      metals =
          (metals_are d given n o c.as_slice-add.result.now c.as_slice-add.ensures).0
          (c.has_metals.ensures.0 c.if-not-has_metals.false);
    } in
    let items = c.as_slice-added.result.now in
    let is : items ≡ added d given o = c.as_slice-added.ensures.value ∙ c.in_ok-items.ensures
    ∙ ap (added_from d o.net (length given)) c.as_slice-add.ensures in
    fails_fourth d given n o begun
    (refuted c.leads_across.result _ _ (across_is d given n o items is) c.leads_across.ensures.1
    c.if-not-leads_across.true)

pub returns-then-not-lie_inside-clause-judged : goal.returns-then-not-lie_inside-clause-judged
returns-then-not-lie_inside-clause-judged c =
    let d = c.args.d.now in
    let given = c.args.given.now in
    let n = c.args.entries in
    let o = c.args.offer.now in
    let begun : Begins d given n o = record {
      timely = (timely_is d given n o).0 (c.is_timely.ensures.0 c.if-not-is_timely.false);
      ends = (ends_are d given n o).0 (c.has_ends.ensures.0 c.if-not-has_ends.false);
      metals =
          (metals_are d given n o c.as_slice-add.result.now c.as_slice-add.ensures).0
          (c.has_metals.ensures.0 c.if-not-has_metals.false);
    } in
    let items = c.as_slice-added.result.now in
    let is : items ≡ added d given o = c.as_slice-added.ensures.value ∙ c.in_ok-items.ensures
    ∙ ap (added_from d o.net (length given)) c.as_slice-add.ensures in
    fails_fifth d given n o begun
    ((across_is d given n o items is).0 (c.leads_across.ensures.0 c.if-not-leads_across.false))
    (refuted c.lie_inside.result _ _ (inside_is d given n o items is) c.lie_inside.ensures.1 c.if-not-lie_inside.true)

pub returns-then-not-names_once-clause-judged : goal.returns-then-not-names_once-clause-judged
returns-then-not-names_once-clause-judged c =
    let d = c.args.d.now in
    let given = c.args.given.now in
    let n = c.args.entries in
    let o = c.args.offer.now in
    let begun : Begins d given n o = record {
      timely = (timely_is d given n o).0 (c.is_timely.ensures.0 c.if-not-is_timely.false);
      ends = (ends_are d given n o).0 (c.has_ends.ensures.0 c.if-not-has_ends.false);
      metals =
          (metals_are d given n o c.as_slice-add.result.now c.as_slice-add.ensures).0
          (c.has_metals.ensures.0 c.if-not-has_metals.false);
    } in
    let items = c.as_slice-added.result.now in
    let is : items ≡ added d given o = c.as_slice-added.ensures.value ∙ c.in_ok-items.ensures
    ∙ ap (added_from d o.net (length given)) c.as_slice-add.ensures in
    fails_sixth d given n o begun
    ((across_is d given n o items is).0 (c.leads_across.ensures.0 c.if-not-leads_across.false))
    ((inside_is d given n o items is).0 (c.lie_inside.ensures.0 c.if-not-lie_inside.false))
    (λ once. true≢false (sym (c.names_once.ensures.1 once) ∙ c.if-not-names_once.true))

pub returns-then-not-may_rip_all-clause-judged : goal.returns-then-not-may_rip_all-clause-judged
returns-then-not-may_rip_all-clause-judged c =
    let d = c.args.d.now in
    let given = c.args.given.now in
    let n = c.args.entries in
    let o = c.args.offer.now in
    let begun : Begins d given n o = record {
      timely = (timely_is d given n o).0 (c.is_timely.ensures.0 c.if-not-is_timely.false);
      ends = (ends_are d given n o).0 (c.has_ends.ensures.0 c.if-not-has_ends.false);
      metals =
          (metals_are d given n o c.as_slice-add.result.now c.as_slice-add.ensures).0
          (c.has_metals.ensures.0 c.if-not-has_metals.false);
    } in
    let items = c.as_slice-added.result.now in
    let is : items ≡ added d given o = c.as_slice-added.ensures.value ∙ c.in_ok-items.ensures
    ∙ ap (added_from d o.net (length given)) c.as_slice-add.ensures in
    let goes : Goes d given n o begun = record {
      across = (across_is d given n o items is).0 (c.leads_across.ensures.0 c.if-not-leads_across.false);
      inside = (inside_is d given n o items is).0 (c.lie_inside.ensures.0 c.if-not-lie_inside.false);
      once = c.names_once.ensures.0 c.if-not-names_once.false;
    } in
    fails_seventh d given n o begun goes
    (refuted c.may_rip_all.result _ _ (rips_are d given n o items is c.as_slice.result.now c.as_slice.ensures)
    c.may_rip_all.ensures.1 c.if-not-may_rip_all.true)

pub returns-in_default-clause-judged : goal.returns-in_default-clause-judged
returns-in_default-clause-judged c =
    let d = c.args.d.now in
    let given = c.args.given.now in
    let n = c.args.entries in
    let o = c.args.offer.now in
    let begun : Begins d given n o = record {
      timely = (timely_is d given n o).0 (c.is_timely.ensures.0 c.if-not-is_timely.false);
      ends = (ends_are d given n o).0 (c.has_ends.ensures.0 c.if-not-has_ends.false);
      metals =
          (metals_are d given n o c.as_slice-add.result.now c.as_slice-add.ensures).0
          (c.has_metals.ensures.0 c.if-not-has_metals.false);
    } in
    let items = c.as_slice-added.result.now in
    let is : items ≡ added d given o = c.as_slice-added.ensures.value ∙ c.in_ok-items.ensures
    ∙ ap (added_from d o.net (length given)) c.as_slice-add.ensures in
    let goes : Goes d given n o begun = record {
      across = (across_is d given n o items is).0 (c.leads_across.ensures.0 c.if-not-leads_across.false);
      inside = (inside_is d given n o items is).0 (c.lie_inside.ensures.0 c.if-not-lie_inside.false);
      once = c.names_once.ensures.0 c.if-not-names_once.false;
    } in
    let rips = (rips_are d given n o items is c.as_slice.result.now c.as_slice.ensures).0
    (c.may_rip_all.ensures.0 c.if-not-may_rip_all.false) in
    fails_eighth d given n o begun goes rips (λ h.
    let none = rw c.in_default.is at c.in_ok-others.ensures in
    none ((shoves_are d given n o items is c.as_slice-shoves.result.now c.as_slice-shoves.ensures).1 h))

pub all_agree-requires-clause-fit : goal.all_agree-requires-clause-fit
all_agree-requires-clause-fit c =
    let d = c.args.d.now in
    let given = c.args.given.now in
    let n = c.args.entries in
    let o = c.args.offer.now in
    let items = c.as_slice-added.result.now in
    let is : items ≡ added d given o = c.as_slice-added.ensures.value ∙ c.in_ok-items.ensures
    ∙ ap (added_from d o.net (length given)) c.as_slice-add.ensures in
    let metals = (metals_are d given n o c.as_slice-add.result.now c.as_slice-add.ensures).0
    (c.has_metals.ensures.0 c.if-not-has_metals.false) in
    let shoves = c.as_slice-shoves.result.now in
    let r = rw c.in-Some.is at c.in_ok-others.ensures in
    let shoved = (shoves_are d given n o items is shoves c.as_slice-shoves.ensures).0 r.0 in
    let others_are : c.in-Some.others.items ≡ replaced d given o = r.1
    ∙ ap (λ (add : List Metal). replaced_from d given (length given + length add) shoves) c.as_slice-add.ensures
    ∙ ap (replaced_from d given (length given + length o.add)) c.as_slice-shoves.ensures in
    let new : c.append.new.self.items ≡ new_items d given o = c.in_ok-append.ensures.items
    ∙ ap (λ (xs : List Item). xs ++ c.in-Some.others.items)
    (c.in_ok-items.ensures ∙ ap (added_from d o.net (length given)) c.as_slice-add.ensures)
    ∙ ap (λ (ys : List Item). added d given o ++ ys) others_are in
    subst (All IsItemFit) (sym (c.as_slice-2.ensures.value ∙ new))
    (All-append IsItemFit (added d given o) (replaced d given o)
    (added_fit d o.net (length given) o.add c.requires.sound
    (c.has_ends.ensures.0 c.if-not-has_ends.false).0 metals.each)
    (replaced_fit d given o.net items (length given + length o.add) o.shoves c.requires.sound c.requires.given
    (subst (All (MayShove d given o.net items)) c.as_slice-shoves.ensures r.0)))

pub returns-then-not-all_agree-clause-judged : goal.returns-then-not-all_agree-clause-judged
returns-then-not-all_agree-clause-judged c =
    let d = c.args.d.now in
    let given = c.args.given.now in
    let n = c.args.entries in
    let o = c.args.offer.now in
    let begun : Begins d given n o = record {
      timely = (timely_is d given n o).0 (c.is_timely.ensures.0 c.if-not-is_timely.false);
      ends = (ends_are d given n o).0 (c.has_ends.ensures.0 c.if-not-has_ends.false);
      metals =
          (metals_are d given n o c.as_slice-add.result.now c.as_slice-add.ensures).0
          (c.has_metals.ensures.0 c.if-not-has_metals.false);
    } in
    let items = c.as_slice-added.result.now in
    let is : items ≡ added d given o = c.as_slice-added.ensures.value ∙ c.in_ok-items.ensures
    ∙ ap (added_from d o.net (length given)) c.as_slice-add.ensures in
    let goes : Goes d given n o begun = record {
      across = (across_is d given n o items is).0 (c.leads_across.ensures.0 c.if-not-leads_across.false);
      inside = (inside_is d given n o items is).0 (c.lie_inside.ensures.0 c.if-not-lie_inside.false);
      once = c.names_once.ensures.0 c.if-not-names_once.false;
    } in
    let rips = (rips_are d given n o items is c.as_slice.result.now c.as_slice.ensures).0
    (c.may_rip_all.ensures.0 c.if-not-may_rip_all.false) in
    let shoves = c.as_slice-shoves.result.now in
    let r = rw c.in-Some.is at c.in_ok-others.ensures in
    let shoved = (shoves_are d given n o items is shoves c.as_slice-shoves.ensures).0 r.0 in
    let others_are : c.in-Some.others.items ≡ replaced d given o = r.1
    ∙ ap (λ (add : List Metal). replaced_from d given (length given + length add) shoves) c.as_slice-add.ensures
    ∙ ap (replaced_from d given (length given + length o.add)) c.as_slice-shoves.ensures in
    let new : c.append.new.self.items ≡ new_items d given o = c.in_ok-append.ensures.items
    ∙ ap (λ (xs : List Item). xs ++ c.in-Some.others.items)
    (c.in_ok-items.ensures ∙ ap (added_from d o.net (length given)) c.as_slice-add.ensures)
    ∙ ap (λ (ys : List Item). added d given o ++ ys) others_are in
    fails_ninth d given n o begun goes rips shoved (λ h.
    true≢false
    (sym (c.all_agree.ensures.1 (subst (AllPairs (Agrees d)) (sym (c.as_slice-2.ensures.value ∙ new)) h.each))
    ∙ c.if-not-all_agree.true))

pub returns-clause-judged : goal.returns-clause-judged
returns-clause-judged c =
    let d = c.args.d.now in
    let given = c.args.given.now in
    let n = c.args.entries in
    let o = c.args.offer.now in
    let begun : Begins d given n o = record {
      timely = (timely_is d given n o).0 (c.is_timely.ensures.0 c.if-not-is_timely.false);
      ends = (ends_are d given n o).0 (c.has_ends.ensures.0 c.if-not-has_ends.false);
      metals =
          (metals_are d given n o c.as_slice-add.result.now c.as_slice-add.ensures).0
          (c.has_metals.ensures.0 c.if-not-has_metals.false);
    } in
    let items = c.as_slice-added.result.now in
    let is : items ≡ added d given o = c.as_slice-added.ensures.value ∙ c.in_ok-items.ensures
    ∙ ap (added_from d o.net (length given)) c.as_slice-add.ensures in
    let goes : Goes d given n o begun = record {
      across = (across_is d given n o items is).0 (c.leads_across.ensures.0 c.if-not-leads_across.false);
      inside = (inside_is d given n o items is).0 (c.lie_inside.ensures.0 c.if-not-lie_inside.false);
      once = c.names_once.ensures.0 c.if-not-names_once.false;
    } in
    let rips = (rips_are d given n o items is c.as_slice.result.now c.as_slice.ensures).0
    (c.may_rip_all.ensures.0 c.if-not-may_rip_all.false) in
    let shoves = c.as_slice-shoves.result.now in
    let r = rw c.in-Some.is at c.in_ok-others.ensures in
    let shoved = (shoves_are d given n o items is shoves c.as_slice-shoves.ensures).0 r.0 in
    let others_are : c.in-Some.others.items ≡ replaced d given o = r.1
    ∙ ap (λ (add : List Metal). replaced_from d given (length given + length add) shoves) c.as_slice-add.ensures
    ∙ ap (replaced_from d given (length given + length o.add)) c.as_slice-shoves.ensures in
    let new : c.append.new.self.items ≡ new_items d given o = c.in_ok-append.ensures.items
    ∙ ap (λ (xs : List Item). xs ++ c.in-Some.others.items)
    (c.in_ok-items.ensures ∙ ap (added_from d o.net (length given)) c.as_slice-add.ensures)
    ∙ ap (λ (ys : List Item). added d given o ++ ys) others_are in (
      record {
        timely = begun.timely;
        ends = begun.ends;
        metals = begun.metals;
        across = goes.across;
        inside = goes.inside;
        once = goes.once;
        rips = rips;
        shoves = shoved;
        agree =
            record {
              each = subst (AllPairs (Agrees d)) (c.as_slice-2.ensures.value ∙ new)
                  (c.all_agree.ensures.0 c.if-not-all_agree.false);
            };
      },
      c.from_vec.ensures ∙ new,
    )

pub lie_inside-requires-clause-bounds_fit : goal.lie_inside-requires-clause-bounds_fit
lie_inside-requires-clause-bounds_fit c = c.requires.sound.fits.bounds_fit

pub may_rip_all-requires-clause-rules : goal.may_rip_all-requires-clause-rules
may_rip_all-requires-clause-rules c = c.requires.sound.fits.rules_within

pub replacements-requires-clause-sound : goal.replacements-requires-clause-sound
replacements-requires-clause-sound c = c.requires.sound

pub all_agree-requires-clause-rules : goal.all_agree-requires-clause-rules
all_agree-requires-clause-rules c = c.requires.sound.fits.rules_within
