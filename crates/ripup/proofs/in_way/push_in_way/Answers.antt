use Rattle.std.proofs.Common.{◌≡◌, ◌≤◌, ◌^◌, ℕ, ◌+◌, List, arith, length, subst, sym}
use Rattle.ripup.specs.inner.Steps.{AreInWayBelow, AreInWayOfOne}
use Rattle.ripup.proofs.Ripping.{id_pushed, last_pushed}
use Rattle.ripup.proofs.in_way.push_in_way.Goals as goal

pub returns-in_default-checked_add : goal.returns-in_default-checked_add
returns-in_default-checked_add g c =
    let d = c.args.on.now.d in
    let items = c.args.on.now.items in
    let serves = c.keeps.ensures.serves in
    let high : 2 ^ 64 ≤ c.in-Some.id + 1 = omega (arith, c.in_default-checked_add.ensures) in
    subst (λ (ids : List ℕ). AreInWayOfOne d items c.args.item.now c.args.found.now.items ids)
    (sym c.in_ok-push.ensures.items)
    (last_pushed d items c.args.item.now c.keeps.ensures.sound serves (c.in-Some.id + 1) c.args.found.now.items _
    (id_pushed d items c.args.item.now c.keeps.ensures.sound serves c.loop-id.from c.in-Some.id c.args.found.now.items _
    c.loop-id.invariant.behind c.loop-id.invariant.below c.in-Some.ensures)
    high c.keeps.ensures.ids)

pub loop-id-preserved : goal.loop-id-preserved
loop-id-preserved g c =
    let d = c.args.on.now.d in
    let items = c.args.on.now.items in
    let serves = c.keeps.ensures.serves in
    let next_is : c.in-Some.id + 1 ≡ c.in-Some-checked_add.next = omega (arith, c.in-Some-checked_add.ensures) in
    let more = id_pushed d items c.args.item.now c.keeps.ensures.sound serves c.loop-id.from c.in-Some.id
    c.args.found.now.items
    _ c.loop-id.invariant.behind c.loop-id.invariant.below c.in-Some.ensures in
    let on = c.in-Some.ensures.looked_at.0 in
    let is = c.in-Some.ensures.id_is in
    let behind = c.loop-id.invariant.behind in
    record {
      below = subst (λ (from : ℕ). AreInWayBelow d items c.args.item.now from c.args.found.now.items
          c.push.new.self.items)
          next_is
          (subst (λ (ids : List ℕ). AreInWayBelow d items c.args.item.now (c.in-Some.id + 1) c.args.found.now.items ids)
          (sym c.in_ok-push.ensures.items) more);
      behind = omega (arith, next_is, on, is, behind);
    }

pub loop-id-init : goal.loop-id-init
loop-id-init g c =
    let is : c.fixed_count-from.result ≡ length c.args.on.now.d.fixed = c.fixed_count-from.ensures in
    record {
      below = subst (λ (n : ℕ). AreInWayBelow c.args.on.now.d c.args.on.now.items c.args.item.now n
          c.args.found.now.items c.push_namesake.new.found.items) (sym is) c.in_ok-push_namesake.ensures;
      behind = omega (arith, is);
    }

pub loop-id-smaller : goal.loop-id-smaller
loop-id-smaller g c =
    let on = c.in-Some.ensures.looked_at.0 in
    let is = c.in-Some.ensures.id_is in
    omega (arith, c.in-Some-checked_add.ensures, on, is)
