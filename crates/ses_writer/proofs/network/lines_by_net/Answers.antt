use Rattle.std.proofs.Common.{◌+◌, ◌∙◌, ap, sym, subst, Vec, Global, ℕ, length}
use Rattle.ses_writer.proofs.Printed.{AreSoFar, line_printed, line_past, lines_told, printed_net}
use Rattle.ses_writer.proofs.network.lines_by_net.Goals as goal
use Rattle.ses_writer.proofs.network.lines_by_net.Goals.{then-prints+in-Some+in_ok-add_line, then-prints+in_default}
use Rattle.ses_writer.proofs.network.lines_by_net.Goals.{else-prints}

pub returns : goal.returns
returns c = lines_told c.args.d.now c.args.nm c.args.omit_fixed c.args.items.now c.loop-a.a-index
    (length c.args.d.now.nets) c.loop-a.texts.items c.loop-a-test.false c.loop-a.invariant.count_is
    c.loop-a.invariant.texts_are

pub loop-a-preserved : goal.loop-a-preserved
loop-a-preserved c =
    let d = c.args.d.now in let nm = c.args.nm in let omit = c.args.omit_fixed in let items = c.args.items.now in
    let i = c.loop-a.a-index in let n = length c.args.d.now.nets in let a = c.a-item.result in
    let inv = c.loop-a.invariant in
    elim c.if-prints.branch [
      | then-prints+in-Some+in_ok-add_line w ↦ record {
        count_is = ap (λ (v : Vec (Vec ℕ Global) Global). length v.items) w.texts-is
            ∙ w.in_ok-add_line.ensures.count_is ∙ inv.count_is;
        texts_are = subst (λ (v : Vec (Vec ℕ Global) Global). AreSoFar d nm omit items n (i + 1) v.items)
            (sym w.texts-is)
            (line_printed d nm omit items i a c.loop-a-test.true c.a-item.is w.in-Some.net n c.loop-a.texts.items
            w.add_line.new.texts.items (sym c.prints.ensures ∙ w.if-prints.true) w.in-Some.is
            w.in_ok-add_line.ensures inv.count_is inv.texts_are);
      }
      | then-prints+in_default w ↦
          absurd (printed_net a.net _ (sym c.prints.ensures ∙ w.if-prints.true) w.in_default.is)
      | else-prints w ↦ record {
        count_is = ap (λ (v : Vec (Vec ℕ Global) Global). length v.items) w.texts-is ∙ inv.count_is;
        texts_are = subst (λ (v : Vec (Vec ℕ Global) Global). AreSoFar d nm omit items n (i + 1) v.items)
            (sym w.texts-is)
            (line_past d nm omit items i a c.loop-a-test.true c.a-item.is n c.loop-a.texts.items
            (sym c.prints.ensures ∙ w.if-prints.false) inv.texts_are);
      }
    ]
