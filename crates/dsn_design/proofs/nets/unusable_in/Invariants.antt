use Rattle.std.proofs.Common.{◌≡◌, ◌≤◌, take}
use Rattle.std.specs.Prelude.{count_by, not}
use Rattle.dsn_design.specs.Nets.{is_usable_at}
use Rattle.dsn_design.proofs.nets.unusable_in.Given as goal

abbrev pub invariant-loop-via : goal.invariant-loop-via
invariant-loop-via l =
    (l.count ≡ count_by (λ v. not (is_usable_at l.stacks v)) (take l.via-index l.vias)) × (l.count ≤ l.via-index)
