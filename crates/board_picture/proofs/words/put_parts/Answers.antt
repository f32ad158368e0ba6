use Rattle.std.proofs.Common.{[], get_or, refl, flat_map}
use Rattle.std.proofs.lemmas.List.{get_or_default}
use Rattle.board_picture.specs.declared.words.Part.{Part}
use Rattle.board_picture.specs.declared.words.Part.TheVariants.{Text}
use Rattle.board_picture.specs.Words.{part_word}
use Rattle.ses_writer.proofs.Puts.{with_next, at_end, leads_on, all_put}
use Rattle.board_picture.proofs.Parts.{parts_put}
use Rattle.board_picture.proofs.words.put_parts.Goals as goal

pub loop-part-init : goal.loop-part-init
loop-part-init c = record { is = refl }

pub loop-part-preserved : goal.loop-part-preserved
loop-part-preserved c =
    let none : Part = Text (record { ref_ptr = (0, 0); now = [] }) in
    let now = get_or c.args.parts.now c.loop-part.part-index none in
    let same = get_or_default c.args.parts.now c.loop-part.part-index none now c.loop-part-test.true in
    let left = with_next (flat_map part_word) c.args.parts.now c.loop-part.part-index now c.loop-part-test.true same
    c.loop-part.invariant in
    leads_on left c.in_ok-put_part.ensures

pub returns : goal.returns
returns c =
    parts_put c.args.parts.now
    (all_put (at_end (flat_map part_word) c.args.parts.now c.loop-part.part-index c.loop-part-test.false
    c.loop-part.invariant))
