use Rattle.std.proofs.Common.{◌≡◌, ◌||◌, ℕ, drop}
use Rattle.route_report.specs.Report.{is_named}
use Rattle.route_report.specs.inner.Naming.{holds}
use Rattle.route_report.proofs.cuts.named_ids.Given as goal

-- an id is held, or a block that is left names it
abbrev pub invariant-loop-b : goal.invariant-loop-b
invariant-loop-b l = (id : ℕ) → (holds l.ids.items id || is_named (drop l.b-index l.blocked) id) ≡ is_named l.blocked id
