use Rattle.std.proofs.Common.{◌≡◌, ◌∙◌, refl, sym, subst, List, Some}
use Rattle.std.specs.List.{slice_get, remove}
use Rattle.pcb_islands.specs.declared.net.Island.{Island}
use Rattle.cut_certificate.specs.Cuts.{Cuts}
use Rattle.closing_pass.specs.inner.ClosedBoard.{AreShut}
use Rattle.closing_pass.proofs.Ending.{HaveCutsTo, cuts_none, cuts_more}
use Rattle.closing_pass.proofs.ends.ClosedBoard.cuts_of.Goals as goal

pub loop-place-preserved : goal.loop-place-preserved
loop-place-preserved c =
    let d = c.args.self.now.d in
    let m = c.args.self.now.lat in
    let cost = c.args.self.now.via_cost in
    let items = c.args.self.now.items in
    let place = c.loop-place.place in
    record {
      found = c.in_ok-same.ensures.found ∙ c.loop-place.invariant.found;
      cuts = cuts_more d m cost items c.args.found place c.loop-place.cuts c.push.new.self c.in_ok-same.cut
          c.loop-place.invariant.cuts
          (subst (λ (fs : List Island). (island : Island) → slice_get fs place ≡ Some island
          → Cuts d m items cost island (remove fs place) (Some c.in_ok-same.cut))
          c.loop-place.invariant.found c.in_ok-same.ensures.cut)
          c.in_ok-push.ensures.ok;
    }

pub cut_at-requires-clause-shut : goal.cut_at-requires-clause-shut
cut_at-requires-clause-shut c =
    subst (λ (fs : List Island). AreShut c.args.self.now fs) (sym c.loop-place.invariant.found) c.requires

pub loop-place-init : goal.loop-place-init
loop-place-init c =
    let s = c.args.self.now in
    record {
      found = refl;
      cuts = subst (HaveCutsTo s.d s.lat s.via_cost s.items c.args.found 0) (sym c.new-cuts.ensures)
          (cuts_none s.d s.lat s.via_cost s.items c.args.found);
    }
