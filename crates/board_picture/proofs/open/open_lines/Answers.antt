use Rattle.std.proofs.Common.{◌≡◌, ◌∙◌, ◌+◌, List, ◌++◌, sym, ap, subst}
use Rattle.pcb_islands.specs.declared.net.Island.{Island}
use Rattle.board_picture.specs.Open.{lines_of, AreOpenUpTo}
use Rattle.board_picture.proofs.Lines.{lines_more}
use Rattle.board_picture.proofs.open.open_lines.Goals as goal

pub loop-net-preserved : goal.loop-net-preserved
loop-net-preserved g c =
    let d = c.args.d.now in
    let items = g.C.Copper.items c.args.c.now in
    let own = c.in_ok-found.found in
    let lines = c.loop-net.lines in
    let pushed : c.push_lines.new.lines ≡ lines ++ lines_of d own =
    c.in_ok-push_lines.ensures ∙ ap (λ (found : List Island). lines ++ lines_of d found) c.as_slice.ensures in
    subst (AreOpenUpTo d items (c.loop-net.net + 1)) (sym pushed)
    (lines_more d items c.loop-net.net lines own c.loop-net.invariant c.in_ok-found.ensures)
