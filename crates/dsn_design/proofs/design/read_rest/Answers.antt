use Rattle.dsn_design.specs.declared.parts.Parts.{Parts}
use Rattle.dsn_design.specs.Reading.{ArePartsOf}
use Rattle.dsn_design.proofs.Phases.{fail_network, fail_wiring, AreSound, parts_sound}
use Rattle.dsn_design.proofs.design.read_rest.Goals as goal

pub returns-in-Err-clause-reads : goal.returns-in-Err-clause-reads
returns-in-Err-clause-reads c =
    let first = c.requires.first in
    fail_network c.args.pcb.now c.args.head c.args.structure c.args.library c.args.placing c.in-Err.fault first.head
    first.structure first.library first.placing c.in-Err.ensures.reads

pub returns-in-Err-read_wiring-clause-reads : goal.returns-in-Err-read_wiring-clause-reads
returns-in-Err-read_wiring-clause-reads c =
    let first = c.requires.first in
    fail_wiring c.args.pcb.now c.args.head c.args.structure c.args.library c.args.placing c.in-Ok.network
    c.in-Err-read_wiring.fault first.head first.structure first.library first.placing c.in-Ok.ensures.reads
    c.in-Err-read_wiring.ensures.reads

pub returns-clause-sound : goal.returns-clause-sound
returns-clause-sound c =
    let first = c.requires.first in
    let p : Parts = record {
      head = c.args.head;
      structure = c.args.structure;
      library = c.args.library;
      placing = c.args.placing;
      network = c.in-Ok.network;
      wiring = c.in-Ok-read_wiring.wiring;
    } in
    let parts : ArePartsOf c.args.pcb.now p = record {
      head = first.head;
      structure = first.structure;
      library = first.library;
      placing = first.placing;
      network = c.in-Ok.ensures.reads;
      wiring = c.in-Ok-read_wiring.ensures.reads;
    } in
    let sound : AreSound p = record {
      head = first.head_sound;
      structure = first.structure_sound;
      library = first.library_sound;
      within = first.library_within;
      placing = first.placing_sound;
      network = c.in-Ok.ensures.sound;
      wiring = c.in-Ok-read_wiring.ensures.sound;
    } in
    parts_sound c.args.pcb.now p c.requires.few parts sound

pub returns-clause-reads : goal.returns-clause-reads
returns-clause-reads c =
    let first = c.requires.first in
    record {
      head = first.head;
      structure = first.structure;
      library = first.library;
      placing = first.placing;
      network = c.in-Ok.ensures.reads;
      wiring = c.in-Ok-read_wiring.ensures.reads;
    }
