use Rattle.std.proofs.Common.{◌≡◌, ◌+◌, ◌≤◌, ◌*◌, ◌^◌, take}
use Rattle.route_words.specs.Words.{number_in}
use Rattle.route_words.proofs.knobs.number_of_digits.Given as goal

-- a byte counts for 207 at most
abbrev pub invariant-loop-d : goal.invariant-loop-d
invariant-loop-d l = record {
  so_far : l.value ≡ number_in (take l.d-index l.digits);
  small : l.value + 23 ≤ 23 * 10 ^ l.d-index;
}
