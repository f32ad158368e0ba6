use Rattle.std.proofs.Common.{◌++◌, ◌∙◌, Bool, [], if◌then◌else◌, sym, subst}
use Rattle.std.specs.Prelude.{OnOk, codes}
use Rattle.ses_writer.specs.Words.{Appends, spelled}
use Rattle.ses_writer.specs.Session.{net_lines}
use Rattle.ses_writer.proofs.Puts.{then_put, put_last}
use Rattle.ses_writer.proofs.network.put_net.Goals as goal

pub returns : goal.returns
unfolding net_lines
returns c =
    let none = sym c.is_empty.ensures ∙ c.if-is_empty.false in
    let head = rw c.as_slice.ensures at c.in_ok-put_framed.ensures in
    let two = then_put head c.in_ok-put.ensures in
    let text = codes "      (net " ++ spelled c.args.name.now ++ codes "\n" ++ c.args.lines.now ++ codes "      )\n" in
    subst (λ (b : Bool). OnOk c.put-2.result (Appends c.args.out.now.items c.put-2.new.out.items
    (if b then [] else text))) (sym none) (put_last c.put-2.result _ _ two c.put-2.ensures)
