use Rattle.dsn_design.proofs.Phases.{fail_structure, fail_library, fail_placement}
use Rattle.dsn_design.proofs.design.read_parts.Goals as goal

pub returns-in-Err-read_structure-clause-reads : goal.returns-in-Err-read_structure-clause-reads
returns-in-Err-read_structure-clause-reads c =
    fail_structure c.args.pcb.now c.in-Ok.head c.in-Err-read_structure.fault c.in-Ok.ensures.reads
    c.in-Err-read_structure.ensures.reads

pub returns-in-Err-read_library-clause-reads : goal.returns-in-Err-read_library-clause-reads
returns-in-Err-read_library-clause-reads c =
    fail_library c.args.pcb.now c.in-Ok.head c.in-Ok-read_structure.structure c.in-Err-read_library.fault
    c.in-Ok.ensures.reads c.in-Ok-read_structure.ensures.reads c.in-Err-read_library.ensures.reads

pub returns-in-Err-read_placement-clause-reads : goal.returns-in-Err-read_placement-clause-reads
returns-in-Err-read_placement-clause-reads c =
    fail_placement c.args.pcb.now c.in-Ok.head c.in-Ok-read_structure.structure c.in-Ok-read_library.library
    c.in-Err-read_placement.fault c.in-Ok.ensures.reads c.in-Ok-read_structure.ensures.reads
    c.in-Ok-read_library.ensures.reads c.in-Err-read_placement.ensures.reads

pub read_rest-requires-clause-first : goal.read_rest-requires-clause-first
read_rest-requires-clause-first c = record {
  head = c.in-Ok.ensures.reads;
  structure = c.in-Ok-read_structure.ensures.reads;
  library = c.in-Ok-read_library.ensures.reads;
  placing = c.in-Ok-read_placement.ensures.reads;
  head_sound = c.in-Ok.ensures.sound;
  structure_sound = c.in-Ok-read_structure.ensures.sound;
  library_sound = c.in-Ok-read_library.ensures.sound;
  library_within = c.in-Ok-read_library.ensures.within;
  placing_sound = c.in-Ok-read_placement.ensures.sound;
}
