use Rattle.std.proofs.Common.{◌≡◌, ℕ, ◌+◌, ◌-◌, ◌<◌, arith, get_or, length, subst, sym}
use Rattle.std.proofs.Math.ListN.{set}
use Rattle.std.proofs.lemmas.Option.{slice_get-get_or, slice_get_read}
use Rattle.route_check.specs.inner.Left.{AreLinked}
use Rattle.route_check.proofs.Gone.{link_more, link_none}
use Rattle.route_check.proofs.left.link.Goals as goal

pub loop-k-init : goal.loop-k-init
loop-k-init c =
    let xs = c.args.xs.now in
    subst (λ (n : ℕ). AreLinked xs c.args.nets n c.in_ok-first.first.items c.in_ok-next.next.items)
    (let e : length xs ≡ length xs - 0 = omega arith in e)
    (link_none xs c.args.nets c.in_ok-first.first.items c.in_ok-next.next.items
    (c.in_ok-first.ensures.items_if_clones_equal (λ y e. e))
    (c.in_ok-next.ensures.items_if_clones_equal (λ y e. e)))

pub index-requires : goal.index-requires
index-requires c =
    let known = c.requires (length c.args.xs.now - 1 - c.loop-k.k) c.index-xs-i.result
    (omega (arith, c.loop-k-test.true)) in
    omega (arith, known, c.loop-k.invariant.all_nets)

pub index_mut-requires : goal.index_mut-requires
index_mut-requires c = omega (arith, c.loop-k-test.true, c.loop-k.invariant.all_items)

pub index_mut-requires-in-loop-k : goal.index_mut-requires-in-loop-k
index_mut-requires-in-loop-k c =
    let known = c.requires (length c.args.xs.now - 1 - c.loop-k.k) c.index-xs-i.result
    (omega (arith, c.loop-k-test.true)) in
    omega (arith, known, c.loop-k.invariant.all_nets)

pub loop-k-preserved : goal.loop-k-preserved
loop-k-preserved c =
    let xs = c.args.xs.now in
    let i = length xs - 1 - c.loop-k.k in
    let x = get_or xs i c.index-xs-i.result in
    let first = c.loop-k.first.items in
    let next = c.loop-k.next.items in
    let place = c.index.result.now in
    let within : i < length xs = omega (arith, c.loop-k-test.true) in
    let known : x.net < c.args.nets = c.requires i c.index-xs-i.result within in
    subst (λ (n : ℕ). AreLinked xs c.args.nets n (set first x.net i) (set next i place))
    (let e : i ≡ length xs - (c.loop-k.k + 1) = omega (arith, c.loop-k-test.true) in e)
    (link_more xs c.args.nets i place x first next
    (subst (λ (n : ℕ). AreLinked xs c.args.nets n first next)
    (let e : length xs - c.loop-k.k ≡ i + 1 = omega (arith, c.loop-k-test.true) in e) c.loop-k.invariant)
    (slice_get-get_or xs i c.index-xs-i.result within)
    (slice_get_read first c.args.nets x.net place (sym c.loop-k.invariant.all_nets) known c.index.ensures))

pub invariant_of-result : goal.invariant_of-result
invariant_of-result c = record {
  linked = subst (λ (n : ℕ). AreLinked c.args.xs.now c.args.nets n c.loop-k.first.items c.loop-k.next.items)
      (let e : length c.args.xs.now - c.loop-k.k ≡ 0 = omega (arith, c.loop-k-test.false) in e) c.loop-k.invariant;
}
