use Rattle.std.proofs.Common.{get_or, arith}
use Rattle.std.proofs.lemmas.List.{get_or_default}
use Rattle.board_picture.proofs.Digits.{digit_put}
use Rattle.board_picture.proofs.words.put_decimals.Goals as goal

pub loop-place-preserved : goal.loop-place-preserved
loop-place-preserved c =
    let p = get_or c.args.places.now c.loop-place.place-index 0 in
    digit_put c.args.nm c.args.places.now c.loop-place.place-index p _ c.loop-place.out.items c.push.new.self.items _
    c.loop-place-test.true
    (get_or_default c.args.places.now c.loop-place.place-index 0 p c.loop-place-test.true)
    c.if-nm-place-eq0.false (omega arith) c.in_ok-push.ensures.items c.loop-place.invariant
