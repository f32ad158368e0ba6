use Rattle.std.proofs.Common.{ℕ, ◌<◌, ◌≤◌, Any, drop}
use Rattle.plane_stubs.proofs.site.Site.holds_rib.Given as goal

abbrev pub invariant-loop-id : goal.invariant-loop-id
invariant-loop-id l =
    Any (λ id. (l.self.first ≤ id) × (id < l.self.last)) l.id-items
    → Any (λ id. (l.self.first ≤ id) × (id < l.self.last)) (drop l.id-index l.id-items)
