use Rattle.std.proofs.Common.{length, arith, map, subst, sym, ◌∙◌}
use Rattle.pcb_model.specs.declared.design.Design.{Design}
use Rattle.pcb_model.specs.Scale.{scale_of}
use Rattle.pcb_model.specs.Sound.{IsSound}
use Rattle.ses_writer.specs.Session.{session_of}
use Rattle.ses_reader.specs.Reading.{ReadsSession}
use Rattle.ses_reader.specs.Wiring.{wire_of}
use Rattle.route_check.specs.Board.{left_of}
use Rattle.session_law.specs.Back.{TellsWiring}
use Rattle.session_law.specs.Told.{IsOnScale}
use Rattle.session_law.specs.Wired.{HasWiring}
use Rattle.session_law.proofs.BoardItems.{printed_readable}
use Rattle.check_law.proofs.Later.{reads_too, started_wiring}
use Rattle.check_law.proofs.later_runs_read_back.Goals as goal

pub returns : goal.returns
returns c = λ text read d grid r b facts omit result has later few run reads.
    let at_end = subst (IsOnScale (scale_of d).nm) run.board.replays
    (c.runs_are_on_scale.ensures d grid r b facts few run (length b.history) (omega arith)) in
    let scale = subst (λ (x : Design). IsOnScale (scale_of x).nm b.items) (sym run.design_is) at_end in
    let is = run.design_is ∙ later.design_is in
    let wiring : HasWiring b.design =
    subst HasWiring (sym is) (started_wiring read later.told later.old later.reads (subst IsSound is run.board.sound)
    (c.designs_have_wiring.ensures text read has)) in
    let own : ReadsSession (session_of d b.items omit) d result =
    subst (λ (x : Design). ReadsSession (session_of d b.items omit) x result) (sym later.design_is)
    (reads_too read (map wire_of (left_of read.fixed later.old)) (session_of d b.items omit) result reads) in
    subst (λ (x : Design). ReadsSession (session_of x b.items omit) x result
    → TellsWiring x b.items omit result) run.design_is
    (c.sessions_read_back.ensures b omit result run.board scale (printed_readable b run.board wiring omit)) own
