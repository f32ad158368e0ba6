-- What spares searches: workers after their work, and how the end of a worker's draws is read.
use Rattle.std.proofs.Common.{◌≡◌, ◌∙◌, ◌<◌, ℕ, Bool, false, true≢false, sym, ap, subst, arith, List, ◌++◌}
use Rattle.std.proofs.Common.{length, take, drop, get_or, Result, Ok, Err}
use Rattle.std.proofs.Math.Seq.{take-append_seam}
use Rattle.std.specs.Result.{OnOk, is_err}
use Rattle.crossbeam_utils.specs.Padded.{padded_value}
use Rattle.crossbeam_utils.specs.declared.cache_padded.CachePadded.{CachePadded}
use Rattle.board_turn.specs.Claims.{CounterOf}
use Rattle.board_turn.specs.Turns.{TurnOf}
use Rattle.searcher_pool.specs.declared.worker.Worker.{Worker}
use Rattle.searcher_pool.specs.Passes.{PassOf}
use Rattle.searcher_pool.specs.inner.Working.{Worked}
use Rattle.searcher_pool.specs.inner.Workers.{AreFresh, AreBack}

-- what holds where there is no error holds
pub without_error : {A E : Type 0} (r : Result A E) (P : Type 0) (b : Bool) → b ≡ is_err r → b ≡ false → OnOk r P → P
without_error (Ok x) P b is fine p = p
without_error (Err x) P b is fine p = absurd (true≢false (sym is ∙ fine))

-- each of the workers worked
pub workers_back : (p : PassOf) (t : TurnOf) (c : CounterOf) (old now new : List (CachePadded Worker)) (len : ℕ)
    → now ≡ old → len ≡ length now → length new ≡ length now → AreFresh p t c old
    → ((k : ℕ) (d : CachePadded Worker) → k < length now
    → Worked p t c (padded_value (get_or now k d)).pass.name (padded_value (get_or new k d)))
    → AreBack p t c (take len (new ++ drop (length new) old))
workers_back p t c old now new len same len_is long fresh each = subst (AreBack p t c) (sym whole) (record {
  count = long ∙ begun.count;
  names = λ k d lt.
      (let within : k < length now = omega (arith, lt, long) in
      let name = begun.names k d within in
      let kept = (each k d within).name_is in
      omega (arith, name, kept, long));
  back = λ k d lt.
      (let within : k < length now = omega (arith, lt, long) in
      subst (λ (n : ℕ). Worked p t c n (padded_value (get_or new k d))) (sym (each k d within).name_is)
      (each k d within));
})
  where
    begun : AreFresh p t c now
    begun = subst (AreFresh p t c) (sym same) fresh

    whole : take len (new ++ drop (length new) old) ≡ new
    whole = ap (λ (n : ℕ). take n (new ++ drop (length new) old)) (len_is ∙ sym long)
        ∙ take-append_seam new (drop (length new) old)
