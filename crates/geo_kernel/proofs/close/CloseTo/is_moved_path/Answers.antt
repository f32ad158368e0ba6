use Rattle.std.proofs.Common.{sym, ◌∙◌, true≢false, pos, refl, get_or, subst}
use Rattle.geo_kernel.specs.Close.{IsCloseTo, IsMovedClose}
use Rattle.geo_kernel.proofs.Paths.{any_next, any_stops, any_none}
use Rattle.geo_kernel.proofs.Moves.{link_moved}
use Rattle.geo_kernel.proofs.close.CloseTo.is_moved_path.Goals as goal

pub returns-then-is_segment : goal.returns-then-is_segment
returns-then-is_segment c =
    let P = IsCloseTo c.args.self.now.how c.args.self.now.k.value c.args.self.now.t.now in
    let Q = IsMovedClose c.args.self.now.how c.args.self.now.k.value c.args.self.now.t.now c.args.path.now.by in
    let left = c.loop-p.invariant in
    let e = link_moved c.args.path.now.by c.loop-p.from.at c.shifted-to.result.at left.last _ left.is
    c.shifted-to.ensures in (
      λ t. any_stops Q c.args.path.now.start left.last (record { x = pos 0; y = pos 0 }) c.args.path.now.rest.now
          c.loop-p.p-index left.holds c.loop-p-test.true (subst P e (c.is_segment.ensures.0 c.if-is_segment.true)),
      λ h. refl,
    )

pub loop-p-preserved : goal.loop-p-preserved
loop-p-preserved c =
    let P = IsCloseTo c.args.self.now.how c.args.self.now.k.value c.args.self.now.t.now in
    let Q = IsMovedClose c.args.self.now.how c.args.self.now.k.value c.args.self.now.t.now c.args.path.now.by in
    let left = c.loop-p.invariant in
    let next = get_or c.args.path.now.rest.now c.loop-p.p-index (record { x = pos 0; y = pos 0 }) in
    let e = link_moved c.args.path.now.by c.loop-p.from.at c.shifted-to.result.at left.last next left.is
    c.shifted-to.ensures in
    record {
      last = next;
      is = c.shifted-to.ensures;
      holds = any_next Q c.args.path.now.start left.last (record { x = pos 0; y = pos 0 }) c.args.path.now.rest.now
          c.loop-p.p-index left.holds c.loop-p-test.true
          (λ x. true≢false (sym (c.is_segment.ensures.1 (subst P (sym e) x)) ∙ c.if-is_segment.false));
    }

pub returns : goal.returns
returns c =
    let left = c.loop-p.invariant in
    any_none
    (IsMovedClose c.args.self.now.how c.args.self.now.k.value c.args.self.now.t.now c.args.path.now.by)
    c.args.path.now.start left.last (record { x = pos 0; y = pos 0 }) c.args.path.now.rest.now c.loop-p.p-index
    left.holds c.loop-p-test.false
