use Rattle.std.proofs.Common.{◌++◌, drop}
use Rattle.ses_writer.specs.Words.{decimals}
use Rattle.ses_writer.proofs.Puts.{Leads}
use Rattle.ses_writer.proofs.words.put_decimals.Given as goal

abbrev pub invariant-loop-place : goal.invariant-loop-place
invariant-loop-place l =
    Leads l.out.items (decimals l.microdegrees (drop l.place-index l.places))
    (l.fn.out.items ++ decimals l.microdegrees l.places)
