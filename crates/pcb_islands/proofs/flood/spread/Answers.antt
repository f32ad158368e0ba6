use Rattle.std.proofs.Common.{ℕ, List, subst}
use Rattle.std.proofs.lemmas.Result.{on_ok_weaker}
use Rattle.pcb_islands.specs.inner.Flooding.{IsTakenIn}
use Rattle.pcb_islands.proofs.flood.spread.Goals as goal

pub returns : goal.returns
returns g c =
    on_ok_weaker c.take_in.result
    (λ taken. (
      c.in_ok-touched.touched.items,
      c.in_ok-touched.ensures,
      subst (λ (ids : List ℕ). IsTakenIn c.args.reached.now c.args.waiting.now.items ids c.take_in.new.reached
          c.take_in.new.waiting.items) c.as_slice.ensures.value taken,
    )) c.take_in.ensures
