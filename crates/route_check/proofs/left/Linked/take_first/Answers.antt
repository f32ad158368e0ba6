use Rattle.std.proofs.Common.{◌≡◌, ◌∙◌, ℕ, ◌+◌, Bool, true, false, true≢false, List, Some, ap, arith, get_or}
use Rattle.std.proofs.Common.{length, refl, subst}
use Rattle.std.proofs.Common.{sym}
use Rattle.std.specs.Prelude.{slice_get}
use Rattle.std.proofs.lemmas.List.{length-set}
use Rattle.std.proofs.lemmas.Option.{same_Some, slice_get-get_or, slice_get_read, slice_get_within}
use Rattle.ses_reader.specs.declared.item.SesItem.{SesItem}
use Rattle.route_check.specs.Board.{is_same, without}
use Rattle.route_check.specs.inner.Left.{IsNextOf, kept}
use Rattle.route_check.proofs.Gone.{element, none_first, none_next, none_taken, one_taken}
use Rattle.route_check.proofs.left.Linked.take_first.Goals as goal
use Rattle.route_check.proofs.left.Linked.take_first.Goals.{else-not-index-via-then-not-index+else-is_same}
use Rattle.route_check.proofs.left.Linked.take_first.Goals.{else-not-index-via-else-not-index}

pub index-place-requires : goal.index-place-requires
index-place-requires c = omega (arith, c.requires.within, c.args.self.now.linked.all_nets)

pub loop-place-init : goal.loop-place-init
loop-place-init c =
    let s = c.args.self.now in
    let place = c.index-place.result.now in
    let there : slice_get s.first.items c.args.net ≡ Some place =
    slice_get_read s.first.items s.nets c.args.net place (sym s.linked.all_nets) c.requires.within
    c.index-place.ensures in
    let first = s.linked.firsts c.args.net place there in
    record {
      none = none_first c.args.a.now c.args.net place s.xs.now c.args.gone.now.items c.requires.net first;
      within = first.within;
      own = first.own;
      stays = refl;
    }

pub index-requires : goal.index-requires
index-requires c =
    let same = ap length c.loop-place.invariant.stays in
    omega (arith, c.loop-place-test.true, same, c.requires.count)

pub index_mut-requires : goal.index_mut-requires
index_mut-requires c =
    let same = ap length c.loop-place.invariant.stays in
    omega (arith, c.loop-place-test.true, same, c.requires.count)

pub returns-then-is_same-clause-count : goal.returns-then-is_same-clause-count
returns-then-is_same-clause-count c =
    length-set c.loop-place.gone.items c.loop-place.place true ∙ ap length c.loop-place.invariant.stays

pub returns-then-is_same-clause-taken : goal.returns-then-is_same-clause-taken
returns-then-is_same-clause-taken c =
    let xs = c.args.self.now.xs.now in
    let gone = c.loop-place.gone.items in
    let place = c.loop-place.place in
    let x = get_or xs place c.index-self-place.result in
    let free : slice_get gone place ≡ Some false =
    slice_get_read gone (length xs) place c.index.result.now
    (sym (ap length c.loop-place.invariant.stays ∙ c.requires.count)) c.loop-place-test.true c.index.ensures
    ∙ ap (λ (b : Bool). Some b) c.if-not-index.true in
    one_taken c.args.a.now gone xs place x
    (slice_get-get_or xs place c.index-self-place.result c.loop-place-test.true) free
    (sym c.if-is_same.ensures) c.loop-place.invariant.none
    ∙ ap (λ (flags : List Bool). without c.args.a.now (kept flags xs)) c.loop-place.invariant.stays

pub index-place-requires-in-loop-place : goal.index-place-requires-in-loop-place
index-place-requires-in-loop-place c = omega (arith, c.loop-place-test.true, c.args.self.now.linked.all_items)

pub loop-place-smaller : goal.loop-place-smaller
loop-place-smaller c =
    let s = c.args.self.now in
    let place = c.loop-place.place in
    let next = c.index-place-in-loop-place.result.now in
    let x = element s.xs.now place c.loop-place-test.true in
    let there : slice_get s.next.items place ≡ Some next =
    slice_get_read s.next.items (length s.xs.now) place next (sym s.linked.all_items) c.loop-place-test.true
    c.index-place-in-loop-place.ensures in
    let later = (s.linked.nexts place next x.0 (omega arith) x.1 there).from_on in
    omega (arith, later, c.loop-place-test.true)

pub loop-place-preserved : goal.loop-place-preserved
loop-place-preserved c =
    let s = c.args.self.now in
    let a = c.args.a.now in
    let xs = s.xs.now in
    let gone = c.loop-place.gone.items in
    let place = c.loop-place.place in
    let next = c.index-place-in-loop-place.result.now in
    let x = element xs place c.loop-place-test.true in
    let there : slice_get s.next.items place ≡ Some next =
    slice_get_read s.next.items (length xs) place next (sym s.linked.all_items) c.loop-place-test.true
    c.index-place-in-loop-place.ensures in
    let one : x.0.net ≡ c.args.net = c.loop-place.invariant.own x.0 x.1 in
    let after : IsNextOf xs c.args.net (place + 1) next =
    subst (λ (n : ℕ). IsNextOf xs n (place + 1) next) one (s.linked.nexts place next x.0 (omega arith) x.1 there) in
    let flag : slice_get gone place ≡ Some c.index.result.now =
    slice_get_read gone (length xs) place c.index.result.now
    (sym (ap length c.loop-place.invariant.stays ∙ c.requires.count)) c.loop-place-test.true c.index.ensures in
    let here : (y : SesItem) → slice_get xs place ≡ Some y → slice_get gone place ≡ Some false → is_same a y ≡ false =
    λ y at free. elim c.else-not-index.branch [
      | else-not-index-via-then-not-index+else-is_same w ↦
          let z = get_or xs place w.index-self-place.result in
          ap (is_same a) (same_Some y z (sym at
          ∙ slice_get-get_or xs place w.index-self-place.result c.loop-place-test.true))
          ∙ sym w.if-is_same.ensures
      | else-not-index-via-else-not-index w ↦
          absurd (true≢false (sym w.if-not-index.false ∙ same_Some c.index.result.now false (sym flag ∙ free)))
    ] in
    record {
      none = none_next a c.args.net place next xs gone c.requires.net c.loop-place.invariant.none here after;
      within = after.within;
      own = after.own;
      stays = c.loop-place.invariant.stays;
    }

pub returns-clause-count : goal.returns-clause-count
returns-clause-count c = ap length c.loop-place.invariant.stays

pub returns-clause-taken : goal.returns-clause-taken
returns-clause-taken c =
    let xs = c.args.self.now.xs.now in
    none_taken c.args.a.now c.loop-place.gone.items xs (λ i x at free. c.loop-place.invariant.none.before i x
    (let within = slice_get_within xs i x at in omega (arith, within, c.loop-place-test.false)) at free)
    ∙ ap (λ (flags : List Bool). without c.args.a.now (kept flags xs)) c.loop-place.invariant.stays
