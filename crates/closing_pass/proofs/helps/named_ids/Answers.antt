use Rattle.std.proofs.Common.{◌≤◌, List, [], length, sym, subst}
use Rattle.std.proofs.lemmas.List.{take_all}
use Rattle.std.proofs.lemmas.List.Filters.{dedup_is}
use Rattle.std.proofs.lemmas.List.Kept.{Contains-dedup_nat, Contains-from_dedup}
use Rattle.std.proofs.lemmas.List.Sorted.{Contains-permutation, IsPermutation-sym}
use Rattle.std.proofs.lemmas.Map.Keys.{IsStrictlyIncreasing-dedup}
use Rattle.cut_certificate.specs.declared.cut.Block.{Block}
use Rattle.cut_certificate.specs.declared.cut.Blocker.TheVariants.{Item}
use Rattle.closing_pass.proofs.Naming.{AreNamedAmong, among_next, among_none, named_by}
use Rattle.closing_pass.proofs.helps.named_ids.Goals as goal

blank : Block
blank = record { node = 0; index = 0; by = Item 0 }

pub loop-block-init : goal.loop-block-init
loop-block-init c = subst (AreNamedAmong c.args.tiles.now.items []) (sym c.new-ids.ensures.items)
    (among_none c.args.tiles.now.items)

pub loop-block-preserved : goal.loop-block-preserved
unfolding blank
loop-block-preserved c = among_next c.args.tiles.now.items c.args.cut.now.blocked c.as_slice-block-items.result.now
    c.loop-block.block-index blank c.loop-block.ids.items c.push_named.new.ids.items c.as_slice-block-items.ensures
    c.loop-block-test.true c.loop-block.invariant c.in_ok-push_named.ensures

pub returns : goal.returns
returns c =
    let is = dedup_is _ _ _ c.dedup.ensures.filtered in
    let moved = c.sort_unstable.ensures.permutation in
    let past = subst (λ (bs : List Block). length bs ≤ c.loop-block.block-index) c.as_slice-block-items.ensures
    c.loop-block-test.false in
    named_by c.args.tiles.now.items c.args.cut.now c.loop-block.ids.items c.dedup.new.self.items
    (subst (λ (bs : List Block). AreNamedAmong c.args.tiles.now.items bs c.loop-block.ids.items)
    (take_all c.loop-block.block-index c.args.cut.now.blocked past) c.loop-block.invariant)
    (rw is (IsStrictlyIncreasing-dedup _ c.sort_unstable.ensures.sorted))
    (λ v h. Contains-permutation _ _ v (IsPermutation-sym _ _ moved) (Contains-from_dedup _ _ v (rw is at h)))
    (λ v h. rw is (Contains-dedup_nat _ v (Contains-permutation _ _ v moved h)))
