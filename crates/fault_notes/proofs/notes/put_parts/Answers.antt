use Rattle.std.proofs.Common.{get_or, refl}
use Rattle.std.proofs.lemmas.List.{get_or_default}
use Rattle.fault_notes.specs.declared.notes.Part.{Part}
use Rattle.fault_notes.specs.declared.notes.Part.TheVariants.{Number}
use Rattle.fault_notes.proofs.Parts.{parts_on, parts_end}
use Rattle.fault_notes.proofs.notes.put_parts.Goals as goal

pub loop-part-init : goal.loop-part-init
loop-part-init c = refl

pub loop-part-preserved : goal.loop-part-preserved
loop-part-preserved c =
    let none : Part = Number 0 in
    let now = get_or c.args.parts.now c.loop-part.part-index none in
    let same = get_or_default c.args.parts.now c.loop-part.part-index none now c.loop-part-test.true in
    parts_on c.args.parts.now c.loop-part.part-index now _ _ _ c.loop-part-test.true same c.in_ok-put_part.ensures
    c.loop-part.invariant

pub returns : goal.returns
returns c = parts_end c.args.parts.now c.loop-part.part-index _ _ c.loop-part-test.false c.loop-part.invariant
