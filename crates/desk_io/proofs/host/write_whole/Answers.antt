use Rattle.std.proofs.Common.{arith}
use Rattle.std.proofs.lemmas.Grind.{common_steps}
use Rattle.desk_io.proofs.Pieces.{taken_more}
use Rattle.desk_io.proofs.host.write_whole.Goals as goal

pub loop-taken-preserved : goal.loop-taken-preserved
loop-taken-preserved g c = record {
  within = grind (arith, common_steps, c.in-Ok.ensures.bound);
  so_far = taken_more (g.W.Write.contents c.args.writer.now) (g.W.Write.contents c.loop-taken.writer)
      (g.W.Write.contents c.write.new.self) c.args.bytes.now c.loop-taken.taken c.in-Ok.count
      c.loop-taken.invariant.so_far c.in-Ok.ensures.bytes;
}
