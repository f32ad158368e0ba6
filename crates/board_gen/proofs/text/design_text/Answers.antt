use Rattle.std.proofs.Common.{◌*◌, ◌<◌, ◌≤◌, ◌^◌, length, arith, sym, subst, List, ℕ}
use Rattle.std.proofs.lemmas.Result.{IfOk-weaker}
use Rattle.board_gen.specs.Board.{side_of}
use Rattle.board_gen.proofs.Short.{text_short}
use Rattle.board_gen.proofs.text.design_text.Goals as goal

pub returns-clause-short : goal.returns-clause-short
returns-clause-short c =
    let some : 0 < side_of (2 * c.args.n) = rw (← c.side_of.ensures.least) (omega (arith, c.side_of.ensures.some)) in
    let narrow : side_of (2 * c.args.n) < 2 ^ 32 = rw (← c.side_of.ensures.least) (omega arith) in
    let short = text_short c.args.n c.requires.few some narrow in
    IfOk-weaker c.text_with.result _ _ (λ v is. let P : List ℕ → Type 0 = λ t. length t ≤ 2 ^ 26 in
    subst P (sym is) short) c.text_with.ensures
