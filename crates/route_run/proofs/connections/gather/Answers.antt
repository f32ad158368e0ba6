use Rattle.std.proofs.Common.{◌≡◌, ◌∙◌, ◌+◌, ◌≤◌, ℕ, List, [], ◌∷◌, ◌++◌, length, sym, ap, subst, arith}
use Rattle.std.specs.Prelude.{vec_len}
use Rattle.pcb_model.specs.declared.design.Design.{Design}
use Rattle.route_run.specs.inner.Passing.{AreOpenNets, IsOpenNet}
use Rattle.route_run.proofs.Counting.{IsOne, open_none, open_more, open_same}
use Rattle.route_run.proofs.connections.gather.Goals.{then-open-gt0+in_ok-push, else-open-gt0}
use Rattle.route_run.proofs.connections.gather.Goals as goal

pub loop-net-init : goal.loop-net-init
loop-net-init c =
    let d = c.args.snap.now.design in
    let items = c.args.snap.now.items in
    record {
      few = omega (arith, c.requires.none.0);
      small = omega arith;
      are = subst (λ (nets : List ℕ). AreOpenNets d items 0 nets 0) (sym c.requires.none.1) (open_none d items);
    }

pub loop-net-preserved : goal.loop-net-preserved
loop-net-preserved c =
    let d = c.args.snap.now.design in
    let items = c.args.snap.now.items in
    let net = c.loop-net.net in
    let nets = c.loop-net.nets.items in
    let count = c.loop-net.count in
    let more = c.in_ok-open.open in
    let one : IsOne d items =
    λ net found others. c.islands_are_one.ensures d items net found others c.requires.serves.0 c.requires.serves.1 in
    let is : IsOpenNet d items net more = c.in_ok-open.ensures.count in
    let are = c.loop-net.invariant.are in
    elim c.if-open-gt0.branch [
      | then-open-gt0+in_ok-push w ↦
          let pushed : w.push.new.self.items ≡ nets ++ net ∷ [] = w.in_ok-push.ensures.items in
          let long : vec_len w.push.new.self ≡ vec_len c.loop-net.nets + 1 = w.in_ok-push.ensures.len in
          let few : vec_len w.push.new.self ≤ net + 1 = omega (arith, long, c.loop-net.invariant.few) in
          record {
            few = rw w.nets-is few;
            small = omega (arith, w.count-is, c.loop-net.invariant.small, c.in_ok-open.ensures.few);
            are = rw (w.nets-is, w.count-is) (subst
                (λ (ns : List ℕ). AreOpenNets d items (net + 1) ns (count + more)) (sym pushed)
                (open_more d items net nets count more one are is));
          }
      | else-open-gt0 w ↦
          let few : vec_len c.loop-net.nets ≤ net + 1 = omega (arith, c.loop-net.invariant.few) in
          record {
            few = rw w.nets-is few;
            small = omega (arith, w.count-is, c.loop-net.invariant.small);
            are = rw (w.nets-is, w.count-is) (open_same d items net nets count more one are is w.if-open-gt0.false);
          }
    ]

-- all nets were gone over
pub returns-clause-few : goal.returns-clause-few
returns-clause-few c =
    let count = c.len-net-end.ensures ∙ ap (λ (x : Design). length x.nets) c.design.ensures in
    omega (arith, c.loop-net.invariant.few, c.loop-net.auto.net-end, count)

pub returns-clause-are : goal.returns-clause-are
returns-clause-are c =
    let s = c.args.snap.now in
    let count = c.len-net-end.ensures ∙ ap (λ (x : Design). length x.nets) c.design.ensures in
    let end : c.loop-net.net ≡ length s.design.nets =
    omega (arith, c.loop-net.auto.net-end, c.loop-net-test.false, count) in
    subst (λ (n : ℕ). AreOpenNets s.design s.items n c.loop-net.nets.items c.loop-net.count) end
    c.loop-net.invariant.are
