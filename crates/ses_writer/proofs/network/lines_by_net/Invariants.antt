use Rattle.std.proofs.Common.{◌≡◌, ℕ, ◌<◌, length, get_or, drop, filter, Vec, Global}
use Rattle.ses_writer.specs.Session.{is_printed, copper_lines}
use Rattle.ses_writer.proofs.Puts.{Leads}
use Rattle.ses_writer.proofs.network.lines_by_net.Given as goal

-- the lines of a net so far, and those of the items that are left
abbrev pub invariant-loop-a : goal.invariant-loop-a
invariant-loop-a l = record {
  count_is : length l.texts.items ≡ length l.d.nets;
  texts_are : (k : ℕ) (e : Vec ℕ Global) → k < length l.d.nets
      → Leads (get_or l.texts.items k e).items
      (copper_lines l.d l.nm (filter (is_printed l.omit_fixed) (drop l.a-index l.items)) k)
      (copper_lines l.d l.nm (filter (is_printed l.omit_fixed) l.items) k);
}
