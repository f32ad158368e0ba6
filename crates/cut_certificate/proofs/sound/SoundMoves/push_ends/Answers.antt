use Rattle.std.proofs.Common.{List, All, arith, subst, take}
use Rattle.std.proofs.lemmas.List.{take_all}
use Rattle.std.proofs.lemmas.List.Elements.{All-more}
use Rattle.cut_certificate.specs.declared.cut.Blocker.TheVariants.{Item}
use Rattle.cut_certificate.specs.declared.cut.Block.{Block}
use Rattle.cut_certificate.specs.inner.Beyond.{EndsAmong}
use Rattle.cut_certificate.proofs.Beyond.{ends_more}
use Rattle.cut_certificate.proofs.sound.SoundMoves.push_ends.Goals as goal

blank : Block
blank = record { node = 0; index = 0; by = Item 0 }

pub loop-block-preserved : goal.loop-block-preserved
unfolding blank
loop-block-preserved g c =
    let graph = g.M.Moves.graph c.args.self.now in
    let i = c.loop-block.block-index in
    let blocked = c.args.blocked.now in
    let pushed = c.in_ok-push_end.ensures in
    let so_far = c.loop-block.invariant in
    record {
      kept = λ v k. pushed.kept v (so_far.kept v k);
      ends = All-more (EndsAmong graph c.args.id c.push_end.new.ends) blocked i blank
          c.loop-block-test.true
          (ends_more graph c.args.id c.loop-block.ends c.push_end.new.ends pushed.kept (take i blocked) so_far.ends)
          pushed.end;
      there = λ below. pushed.there (so_far.there below);
    }

pub returns-clause-ends : goal.returns-clause-ends
returns-clause-ends g c =
    subst (λ (bs : List Block). All (EndsAmong (g.M.Moves.graph c.args.self.now) c.args.id c.loop-block.ends) bs)
    (take_all c.loop-block.block-index c.args.blocked.now (omega (arith, c.loop-block-test.false)))
    c.loop-block.invariant.ends
