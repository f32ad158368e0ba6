use Rattle.std.proofs.Common.{pos, sym}
use Rattle.geo_kernel.proofs.Paths.{loop_of}
use Rattle.geo_kernel.proofs.path.Points.closed.Goals as goal

pub returns-clause-links : goal.returns-clause-links
returns-clause-links c = sym (loop_of (record { x = pos 0; y = pos 0 }) c.args.self.now.points.now c.args.self.now.some)
