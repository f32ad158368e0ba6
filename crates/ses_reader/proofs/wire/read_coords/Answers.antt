use Rattle.std.proofs.Common.{◌∙◌, refl}
use Rattle.dsn_shapes.proofs.Looped.{made_more, noted_more}
use Rattle.ses_reader.specs.Measures.{word_coord, word_refusal}
use Rattle.ses_reader.proofs.wire.read_coords.Goals as goal

pub loop-word-init : goal.loop-word-init
loop-word-init c = (refl, c.new-coords.ensures)

pub loop-word-preserved : goal.loop-word-preserved
loop-word-preserved c = (
  noted_more (word_refusal c.args.m) c.args.words.now c.loop-word.word-index c.word-item.result c.args.first.now
      c.loop-word.first c.note_word-coord.new.first c.loop-word-test.true c.word-item.is c.loop-word.invariant.0
      c.note_word-coord.ensures.noted,
  c.in_ok-push.ensures.ok
      ∙ made_more (word_coord c.args.m) c.args.words.now c.loop-word.word-index c.word-item.result
      c.loop-word.coords c.note_word-coord.result c.loop-word-test.true c.word-item.is c.loop-word.invariant.1
      c.note_word-coord.ensures.value,
)
