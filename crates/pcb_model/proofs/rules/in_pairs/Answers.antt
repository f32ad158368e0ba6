use Rattle.std.proofs.Common.{ℕ, Bool, List, Option, take, filter, sym, ap, ◌∙◌}
use Rattle.std.specs.Option.{option_or, unwrap_or}
use Rattle.std.proofs.lemmas.List.{take_all}
use Rattle.pcb_model.specs.declared.design.Typed.{Typed}
use Rattle.pcb_model.specs.declared.design.ClassPair.{ClassPair}
use Rattle.pcb_model.specs.Rules.{names_pair, names_one, last_value, last_plain, joint_rules, is_of_classes}
use Rattle.pcb_model.specs.Rules.{first_present}
use Rattle.pcb_model.specs.Rules.{levels}
use Rattle.pcb_model.proofs.Joint.{taken, passed, typed_more, plain_more, first_of}
use Rattle.pcb_model.proofs.rules.in_pairs.Goals.{then-is_of_classes, else-is_of_classes}
use Rattle.pcb_model.proofs.rules.in_pairs.Goals as goal

pub loop-p-preserved : goal.loop-p-preserved
loop-p-preserved c =
    let i = c.loop-p.p-index in
    let a = c.args.a in
    let b = c.args.b in
    let pairs = c.args.pairs.now in
    let p = c.p-item.result in
    let one : Typed → Bool = λ t. names_pair c.args.ka c.args.kb t.a t.b in
    let any : Typed → Bool = λ t. names_one c.args.ka c.args.kb t.a t.b in
    let ts : (Typed → Bool) → List ClassPair → Option ℕ = λ test ps. last_value test (joint_rules ps).typed in
    let before = c.loop-p.invariant in
    elim c.if-is_of_classes.branch [
      | then-is_of_classes w ↦
          let e = taken a b pairs i p c.loop-p-test.true c.p-item.is
          (sym c.is_of_classes.ensures ∙ w.if-is_of_classes.true) in
          let ps = filter (is_of_classes a b) (take i pairs) in
          record {
            exact = w.exact-is
                ∙ (w.or-exact.ensures
                ∙ (ap (λ o. option_or o c.loop-p.exact)
                (w.last_exact.ensures ∙ ap (last_value one) w.as_slice-ts.ensures)
                ∙ (ap (λ o. option_or (last_value one p.rules.typed) o) before.exact
                ∙ (sym (typed_more one ps p) ∙ ap (ts one) (sym e)))));
            wide = w.wide-is
                ∙ (w.or-wide.ensures
                ∙ (ap (λ o. option_or o c.loop-p.wide)
                (w.last_wide.ensures ∙ ap (last_value any) w.as_slice-ts.ensures)
                ∙ (ap (λ o. option_or (last_value any p.rules.typed) o) before.wide
                ∙ (sym (typed_more any ps p) ∙ ap (ts any) (sym e)))));
            plain = w.plain-is
                ∙ (w.or-plain.ensures
                ∙ (ap (λ o. option_or p.rules.plain o) before.plain
                ∙ (sym (plain_more ps p) ∙ ap last_plain (sym e))));
          }
      | else-is_of_classes w ↦
          let e = passed a b pairs i p c.loop-p-test.true c.p-item.is
          (sym c.is_of_classes.ensures ∙ w.if-is_of_classes.false) in
          record {
            exact = w.exact-is ∙ (before.exact ∙ ap (ts one) (sym e));
            wide = w.wide-is ∙ (before.wide ∙ ap (ts any) (sym e));
            plain = w.plain-is ∙ (before.plain ∙ ap last_plain (sym e));
          }
    ]

pub returns : goal.returns
returns c =
    let a = c.args.a in
    let b = c.args.b in
    let i = c.loop-p.p-index in
    let pairs = c.args.pairs.now in
    let ps = filter (is_of_classes a b) (take i pairs) in
    let before = c.loop-p.invariant in
    let one : Typed → Bool = λ t. names_pair c.args.ka c.args.kb t.a t.b in
    let any : Typed → Bool = λ t. names_one c.args.ka c.args.kb t.a t.b in
    let x = last_value one (joint_rules ps).typed in
    let y = last_value any (joint_rules ps).typed in
    c.unwrap_or.ensures
    ∙ (ap (λ o. unwrap_or o c.args.rest)
    (c.or-2.ensures
    ∙ (ap (λ o. option_or o c.loop-p.plain)
    (c.or.ensures
    ∙ (ap (λ o. option_or o c.loop-p.wide) before.exact
    ∙ ap (λ o. option_or x o) before.wide))
    ∙ ap (λ o. option_or (option_or x y) o) before.plain))
    ∙ (first_of x y (last_plain ps) c.args.rest
    ∙ ap (λ (qs : List ClassPair). first_present c.args.rest
    (levels c.args.ka c.args.kb (joint_rules (filter (is_of_classes a b) qs))))
    (take_all i pairs c.loop-p-test.false)))
