use Rattle.std.proofs.Common.{◌≤◌, subst}
use Rattle.std.proofs.lemmas.Bool.{leb-true}
use Rattle.move_maps.proofs.Stringing.{string_of}
use Rattle.move_maps.proofs.parts.is_string.Goals as goal

pub returns-in-Chain : goal.returns-in-Chain
returns-in-Chain c = λ e.
    string_of c.args.piece.now c.in-Chain.points c.in-Chain.is
    (subst (λ n. 2 ≤ n) c.len.ensures (leb-true 2 c.len.result e))
