use Rattle.std.proofs.Common.{rules, subst, sym, Bool, List}
use Rattle.std.specs.Prelude.{IsTrue, ◌↔◌}
use Rattle.std.proofs.lemmas.List.Sorted.{answers_always}
use Rattle.cut_certificate.specs.declared.cut.Block.{Block}
use Rattle.cut_certificate.specs.Border.{IsListed}
use Rattle.cut_certificate.proofs.Search.{found_block}
use Rattle.cut_certificate.proofs.border.BlockList.has.Goals as goal

-- the closure gives the place of a block
pub returns : goal.returns
returns c =
    let facts = c.binary_search_by_key.ensures in
    let by_place =
    facts.position (λ (b : Block). (b.node, b.index)) (answers_always _ _ _ (λ f a r g called. search rules)) in
    let blocks = c.self.inside.blocks.now in
    subst (λ (bs : List Block). IsTrue c.is_ok.result ↔ IsListed bs c.args.node c.args.index) c.self.view_is
    (subst (λ (b : Bool). IsTrue b ↔ IsListed blocks c.args.node c.args.index) (sym c.is_ok.ensures.value)
    (found_block blocks c.args.node c.args.index c.binary_search_by_key.result c.self.invariant facts.bound by_place))
