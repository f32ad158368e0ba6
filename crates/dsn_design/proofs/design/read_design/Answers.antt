use Rattle.dsn_design.proofs.Placed.{counted_design}
use Rattle.dsn_design.proofs.PlainCopper.{design_plain}
use Rattle.dsn_design.proofs.Sound.{design_sound}
use Rattle.dsn_design.proofs.Counted.{text_weight}
use Rattle.dsn_design.proofs.Phases.{sound_fit}
use Rattle.dsn_design.proofs.Tabled.{first_tabled}
use Rattle.std.proofs.Common.{arith}
use Rattle.dsn_design.proofs.design.read_design.Goals as goal

pub returns-in-Err-Refused-clause-reads : goal.returns-in-Err-Refused-clause-reads
returns-in-Err-Refused-clause-reads c =
    record {
      pcb = c.in-Ok.tree;
      tree = c.in-Ok.ensures;
      first = rw c.in-Err-Refused.field-0-is (rw c.in-Err-Refused.field-0-is at c.in-Err-Refused.ensures.reads);
    }

pub returns-in-Err-Refused-clause-tabled : goal.returns-in-Err-Refused-clause-tabled
returns-in-Err-Refused-clause-tabled c =
    rw c.in-Err-Refused.field-0-is
    (first_tabled c.in-Ok.tree c.in-Err-Refused.refusal
    (rw c.in-Err-Refused.field-0-is at c.in-Err-Refused.ensures.reads))

pub read_parts-requires : goal.read_parts-requires
read_parts-requires c = omega (arith, c.requires, text_weight c.args.text.now c.in-Ok.tree c.in-Ok.ensures)

pub make_design-requires : goal.make_design-requires
make_design-requires c = sound_fit c.in-Ok-read_parts.parts c.in-Ok-read_parts.ensures.sound

pub returns-in-Ok-make_design-clause-sound : goal.returns-in-Ok-make_design-clause-sound
returns-in-Ok-make_design-clause-sound c =
    design_sound c.in-Ok-read_parts.parts c.in-Ok-make_design.design c.in-Ok-read_parts.ensures.sound
    c.in-Ok-make_design.ensures

pub returns-in-Ok-make_design-clause-reads : goal.returns-in-Ok-make_design-clause-reads
returns-in-Ok-make_design-clause-reads c = record {
  pcb = c.in-Ok.tree;
  tree = c.in-Ok.ensures;
  parts = c.in-Ok-read_parts.parts;
  are_parts = c.in-Ok-read_parts.ensures.reads;
  design = counted_design c.in-Ok-read_parts.parts c.in-Ok-make_design.design c.in-Ok-read_parts.ensures.sound
      c.in-Ok-make_design.ensures;
}

pub returns-in-Ok-make_design-clause-plain : goal.returns-in-Ok-make_design-clause-plain
returns-in-Ok-make_design-clause-plain c =
    let design = counted_design c.in-Ok-read_parts.parts c.in-Ok-make_design.design c.in-Ok-read_parts.ensures.sound
    c.in-Ok-make_design.ensures in
    design_plain c.in-Ok-read_parts.parts c.in-Ok-make_design.design c.in-Ok-read_parts.ensures.sound.library design
