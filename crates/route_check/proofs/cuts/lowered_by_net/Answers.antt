use Rattle.std.proofs.Common.{◌≡◌, ◌+◌, ◌⊎◌, ◌<◌, ℕ, Option, Some, arith, length, refl, subst, sym}
use Rattle.std.proofs.lemmas.Bool.{OnFalse_at, OnTrue_at}
use Rattle.std.proofs.lemmas.Option.{slice_get_read}
use Rattle.cut_check.specs.Sizes.{AreAnchored}
use Rattle.route_check.specs.inner.Kept.{AreJudged, IsKeptFalse, IsKeptTrue, IsPinBelow}
use Rattle.route_check.proofs.Least.{judged_false, judged_none, judged_true}
use Rattle.route_check.proofs.cuts.lowered_by_net.Goals as goal
use Rattle.route_check.proofs.cuts.lowered_by_net.Goals.{then-not-branch, else-not-branch}

pub loop-k-init : goal.loop-k-init
loop-k-init g c =
    let on = c.args.on.now in
    (c.requires.blank, judged_none on.d on.lat on.items c.args.own.now c.args.cuts.now c.args.bound)

pub is_cut-requires-clause-anchored : goal.is_cut-requires-clause-anchored
is_cut-requires-clause-anchored g c =
    let on = c.args.on.now in
    subst (AreAnchored on.d on.lat on.items c.args.own.now) (sym c.as_slice.ensures) c.in_ok-anchors.ensures

pub is_cut-requires-clause-nets : goal.is_cut-requires-clause-nets
is_cut-requires-clause-nets g c = c.requires.nets

pub is_cut-requires-clause-place : goal.is_cut-requires-clause-place
is_cut-requires-clause-place g c = omega (arith, c.loop-k-test.true, c.requires.same)

pub is_cut-requires-clause-blank : goal.is_cut-requires-clause-blank
is_cut-requires-clause-blank g c = c.loop-k.invariant.0

pub bounds-own-k : goal.bounds-own-k
bounds-own-k g c = omega (arith, c.loop-k-test.true, c.requires.same)

pub loop-k-preserved : goal.loop-k-preserved
loop-k-preserved g c =
    let on = c.args.on.now in
    let own = c.args.own.now in
    let cuts = c.args.cuts.now in
    let k = c.loop-k.k in
    let least = c.loop-k.least in
    let cut = c.index-cuts-k.result in
    let low : k < length cuts = c.loop-k-test.true in
    let cut_at = slice_get_read cuts (length cuts) k cut refl low c.index-cuts-k.is in (
      c.in_ok-is_cut.ensures.blank,
      elim c.if-not-branch.branch [
        | then-not-branch w ↦
            let island = w.index-own-k.result in
            let island_at = slice_get_read own (length own) k island refl (omega (arith, low, c.requires.same))
            w.index-own-k.is in
            let new = w.lowered-least.result in
            subst (λ (bound : Option ℕ). AreJudged on.d on.lat on.items own cuts (k + 1) c.args.bound bound)
            (sym w.least-is)
            (judged_false on.d on.lat on.items own cuts k c.args.bound least new island cut c.loop-k.invariant.1
            island_at cut_at (OnFalse_at {P = IsKeptFalse on.d on.lat on.items own k cut} w.if-not-branch.true
            c.in_ok-is_cut.ensures.no)
            (subst (λ (pin : ℕ). (new ≡ least) ⊎ (new ≡ Some pin)) w.first_pin.ensures w.lowered-least.ensures.is)
            w.lowered-least.ensures.below
            (subst (λ (pin : ℕ). IsPinBelow new pin → ⊥) w.first_pin.ensures w.lowered-least.ensures.own))
        | else-not-branch w ↦
            subst (λ (bound : Option ℕ). AreJudged on.d on.lat on.items own cuts (k + 1) c.args.bound bound)
            (sym w.least-is)
            (judged_true on.d on.lat on.items own cuts k c.args.bound least cut c.loop-k.invariant.1 cut_at
            (OnTrue_at {P = IsKeptTrue on.d on.lat on.items own k cut} w.if-not-branch.false
            c.in_ok-is_cut.ensures.yes))
      ],
    )

pub returns-clause-blank : goal.returns-clause-blank
returns-clause-blank g c = c.loop-k.invariant.0

pub returns-clause-lowered : goal.returns-clause-lowered
returns-clause-lowered g c =
    let on = c.args.on.now in
    let all : c.loop-k.k ≡ length c.args.cuts.now = omega (arith, c.loop-k-test.false, c.loop-k.auto.k-end) in
    subst (λ (count : ℕ). AreJudged on.d on.lat on.items c.args.own.now c.args.cuts.now count c.args.bound
    c.loop-k.least) all c.loop-k.invariant.1
