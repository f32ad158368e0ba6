use Rattle.std.proofs.Common.{ℕ, ◌<◌, All, take}
use Rattle.std.specs.Prelude.{Contains}
use Rattle.cut_certificate.specs.inner.Beyond.{EndsAmong}
use Rattle.cut_certificate.proofs.sound.SoundMoves.push_ends.Given as goal

abbrev pub invariant-loop-block : goal.invariant-loop-block
invariant-loop-block g l = record {
  kept : (v : ℕ) → Contains l.fn.ends v → Contains l.ends v;
  ends : All (EndsAmong (g.M.Moves.graph l.self) l.id l.ends) (take l.block-index l.blocked);
  there : All (λ v. v < (g.M.Moves.graph l.self).count) l.fn.ends
      → All (λ v. v < (g.M.Moves.graph l.self).count) l.ends;
}
