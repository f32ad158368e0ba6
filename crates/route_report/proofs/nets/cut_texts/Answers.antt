use Rattle.std.proofs.Common.{List, ◌∙◌, ap, ◌++◌, filter, flat_map, refl, arith}
use Rattle.std.specs.List.{enumerate_from}
use Rattle.cut_certificate.specs.declared.cut.Cut.{Cut}
use Rattle.route_report.specs.Report.{is_at_net, told_cut}
use Rattle.route_report.proofs.Tallied.{all_told, told_more}
use Rattle.route_report.proofs.nets.cut_texts.Goals as goal

pub loop-number-init : goal.loop-number-init
loop-number-init c =
    let i = c.args.input.now in
    let lines = told_cut i.d.now i.lat.now i.board.now.items i.facts.now i.short in
    let made = c.in_ok-texts.ensures in
    record {
      count_is = made.count_is ∙ c.len.ensures;
      texts_are = λ k e within. record {
        is = ap (λ text. text ++ flat_map lines (filter (is_at_net k) (enumerate_from 0 c.args.cuts.now)))
            (made.all_empty k e (omega (arith, within, made.count_is, c.len.ensures)));
      };
    }

pub loop-number-preserved : goal.loop-number-preserved
loop-number-preserved c =
    let i = c.args.input.now in
    let lines = told_cut i.d.now i.lat.now i.board.now.items i.facts.now i.short in
    let before = c.loop-number.invariant in
    let adds = c.in_ok-add_cut.ensures in
    record {
      count_is = adds.count_is ∙ before.count_is;
      texts_are = λ k e within.
          told_more lines k c.args.cuts.now c.loop-number.number c.index-cuts-number.result _ _ _
          c.loop-number-test.true c.index-cuts-number.is
          (adds.texts_are k e (omega (arith, within, before.count_is))) (before.texts_are k e within);
    }

pub returns : goal.returns
returns c =
    let i = c.args.input.now in
    let lines = told_cut i.d.now i.lat.now i.board.now.items i.facts.now i.short in
    let before = c.loop-number.invariant in
    record {
      count_is = before.count_is;
      texts_are = λ k e within.
          all_told (λ (xs : List Cut). flat_map lines (filter (is_at_net k) (enumerate_from c.loop-number.number xs)))
          c.args.cuts.now c.loop-number.number (omega (arith, c.loop-number-test.false)) refl
          (before.texts_are k e within);
    }
