use Rattle.std.proofs.Common.{◌<◌, arith}
use Rattle.geo_kernel.proofs.Keeping.{parted_spines, keep_bars_touch}
use Rattle.geo_kernel.proofs.rect.parted.Goals as goal

pub returns-clause-keep : goal.returns-clause-keep
returns-clause-keep c =
    λ told some s t hs ht. parted_spines c.args.a c.args.b c.args.k some (c.are_beyond.ensures.0 told) s t hs ht

pub returns-clause-apart : goal.returns-clause-apart
returns-clause-apart c = λ told s t hs ht j l. let some : 0 < c.args.k = omega arith in
    keep_bars_touch s t c.args.k j
    (parted_spines c.args.a c.args.b c.args.k some (c.are_beyond.ensures.0 told) s t hs ht) l
