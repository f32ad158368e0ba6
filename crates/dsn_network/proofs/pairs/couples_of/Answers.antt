use Rattle.std.proofs.Common.{◌∙◌, ap, arith}
use Rattle.dsn_shapes.specs.Names.{names_at}
use Rattle.dsn_network.specs.Pairs.{places_named}
use Rattle.dsn_network.proofs.Pairing.{none_of}
use Rattle.dsn_network.proofs.pairs.couples_of.Goals as goal

pub returns-then-others-eq0-clause-couples : goal.returns-then-others-eq0-clause-couples
returns-then-others-eq0-clause-couples c =
    let names = names_at 1 c.args.classes.now.lists.now in
    c.new.ensures
    ∙ none_of names c.args.names.now c.w-item.result c.named-others.result.now (omega arith) (omega arith) c.w-item.is
    (c.named-others.ensures ∙ ap (λ t. places_named t names) c.text_of-in-len2-2.ensures) c.if-others-eq0.true
