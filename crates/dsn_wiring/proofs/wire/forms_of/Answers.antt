use Rattle.std.proofs.Common.{◌≡◌, subst}
use Rattle.std.specs.Prelude.{IfOk}
use Rattle.dsn_shapes.specs.Lists.{heads_of, lists}
use Rattle.dsn_wiring.proofs.wire.forms_of.Goals as goal

pub returns : goal.returns
returns c =
    subst (λ ts. IfOk c.lists.result (λ forms. forms ≡ lists (heads_of c.args.heads.now) ts)) c.in_ok-whole.ensures
    c.lists.ensures
