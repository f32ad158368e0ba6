use Rattle.std.proofs.Common.{◌≡◌, ℕ, [], length, All, Vec, Global}
use Rattle.ses_writer.proofs.network.empty_texts.Given as goal

abbrev pub invariant-loop : goal.invariant-loop
invariant-loop l =
    record {
      count_is : length l.texts.items ≡ l.counter;
      all_empty : All (λ (t : Vec ℕ Global). t.items ≡ []) l.texts.items;
    }
