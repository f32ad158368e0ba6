use Rattle.std.proofs.Common.{◌∙◌, ◌≡◌, arith, length, subst, sym}
use Rattle.copper_check.specs.inner.Searching.{AreIslandsBelow}
use Rattle.copper_check.proofs.Listed.{listed_more, listed_none}
use Rattle.copper_check.proofs.all_islands.islands_of_all.Goals as goal

pub loop-net-init : goal.loop-net-init
loop-net-init g c =
    let items = g.C.Copper.items c.args.c.now in
    subst (AreIslandsBelow c.args.d.now items 0) (sym c.new-found.ensures) (listed_none c.args.d.now items)

pub loop-net-preserved : goal.loop-net-preserved
loop-net-preserved g c =
    listed_more c.args.d.now (g.C.Copper.items c.args.c.now) c.loop-net.net c.loop-net.found c.push.new.self
    c.in_ok-islands.field-0 c.loop-net.invariant c.in_ok-islands.ensures c.in_ok-push.ensures.ok

pub returns : goal.returns
returns g c =
    let all : c.loop-net.net ≡ length c.args.d.now.nets =
    omega (arith, c.loop-net-test.false, c.loop-net.auto.net-end, c.len-net-end.ensures) in
    record { all = c.loop-net.invariant.all ∙ all; each = c.loop-net.invariant.each }
