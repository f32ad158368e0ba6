use Rattle.std.proofs.Common.{◌^◌, refl, sym, ap, ◌∙◌, not, pos, true≢false}
use Rattle.geo_kernel.specs.declared.spine.Spine.TheVariants.{Chain}
use Rattle.geo_kernel.proofs.Firsts.{chain_first}
use Rattle.geo_kernel.proofs.Moves.{still_within, inside_still, still_movable}
use Rattle.geo_kernel.proofs.Keeping.{keep_told, keep_not, chain_near, chain_within}
use Rattle.geo_kernel.proofs.keep.points_keep.Goals as goal

pub invariant_of-chain-clause-movable : goal.invariant_of-chain-clause-movable
invariant_of-chain-clause-movable c = still_movable c.args.points.now c.requires.points_within

pub invariant_of-still-clause-moved_within : goal.invariant_of-still-clause-moved_within
invariant_of-still-clause-moved_within c = still_within (2 ^ 29) c.args.t.now c.requires.within

pub returns-then-not-is_moved_chain : goal.returns-then-not-is_moved_chain
returns-then-not-is_moved_chain c =
    let ps = c.args.points.now in
    let first = chain_first (Chain ps) ps ps (record { x = pos 0; y = pos 0 }) refl refl c.requires.some in
    keep_told (Chain ps) c.args.t.now c.args.k c.is_moved_chain.result c.holds.result
    (chain_near ps c.args.t.now c.args.k c.is_moved_chain.result c.is_moved_chain.ensures) c.if-not-is_moved_chain.true
    (chain_within ps c.args.t.now _ c.holds.result first
    (inside_still _ c.args.t.now c.holds.result c.holds.ensures))

pub returns-else-not-is_moved_chain : goal.returns-else-not-is_moved_chain
returns-else-not-is_moved_chain c =
    let ps = c.args.points.now in (
      λ t. absurd (true≢false (sym t ∙ ap not c.if-not-is_moved_chain.false)),
      λ h. absurd (keep_not (Chain ps) c.args.t.now c.args.k c.is_moved_chain.result
          (chain_near ps c.args.t.now c.args.k c.is_moved_chain.result c.is_moved_chain.ensures)
          c.if-not-is_moved_chain.false h),
    )
