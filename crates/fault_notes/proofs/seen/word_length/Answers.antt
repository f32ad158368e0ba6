use Rattle.std.proofs.Common.{◌∙◌, sym, arith}
use Rattle.std.proofs.lemmas.List.Folds.{length-prefix_len}
use Rattle.std.proofs.lemmas.List.Sums.{prefix_len-drop_yes, prefix_len-drop_all}
use Rattle.fault_notes.specs.Places.{is_word_byte}
use Rattle.fault_notes.proofs.seen.word_length.Goals as goal

pub loop-b-preserved : goal.loop-b-preserved
loop-b-preserved c =
    let more = prefix_len-drop_yes is_word_byte c.args.bytes.now c.loop-b.b-index 0 c.loop-b-test.true
    (sym c.is_word_byte.ensures ∙ c.if-not-is_word_byte.false) in
    record {
      count_is = omega (arith, c.loop-b.invariant.count_is);
      left = omega (arith, c.loop-b.invariant.left, more);
    }

pub returns : goal.returns
returns c =
    let none = prefix_len-drop_all is_word_byte c.args.bytes.now c.loop-b.b-index c.loop-b-test.false in
    let whole = length-prefix_len is_word_byte c.args.bytes.now in
    omega (arith, none, whole, c.loop-b.invariant.left, c.loop-b.invariant.count_is)
