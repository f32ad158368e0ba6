use Rattle.std.proofs.Common.{◌≡◌, ℕ, ◌<◌, ◌||◌, false, length, get_or, drop, filter}
use Rattle.ses_writer.specs.Session.{is_printed, has_via_of}
use Rattle.ses_writer.proofs.library.named_padstacks.Given as goal

-- a flag is set, or a via that is left sets it
abbrev pub invariant-loop-a : goal.invariant-loop-a
invariant-loop-a l = record {
  count_is : length l.flags.items ≡ length l.d.padstacks;
  flags_are : (k : ℕ) → k < length l.d.padstacks
      → (get_or l.flags.items k false || has_via_of k (filter (is_printed l.omit_fixed) (drop l.a-index l.items)))
      ≡ has_via_of k (filter (is_printed l.omit_fixed) l.items);
}
