use Rattle.std.proofs.Common.{length, subst, sym, arith}
use Rattle.pcb_model.specs.declared.design.Design.{Design}
use Rattle.pcb_model.specs.Scale.{scale_of}
use Rattle.session_law.specs.Told.{IsOnScale}
use Rattle.ses_reader.specs.Reading.{ReadsSession}
use Rattle.ses_writer.specs.Session.{session_of}
use Rattle.dsn_design.specs.Reading.{HasDesign}
use Rattle.session_law.specs.Back.{TellsWiring}
use Rattle.session_law.proofs.runs_read_back.Goals as goal

pub returns : goal.returns
returns c = λ text d grid r b facts omit_fixed result has few run reads.
    let at_end = subst (IsOnScale (scale_of d).nm) run.board.replays
    (c.runs_are_on_scale.ensures d grid r b facts few run (length b.history) (omega arith)) in
    let scale = subst (λ (x : Design). IsOnScale (scale_of x).nm b.items) (sym run.design_is) at_end in
    let own = subst (HasDesign text) (sym run.design_is) has in
    subst (λ (x : Design). ReadsSession (session_of x b.items omit_fixed) x result
    → TellsWiring x b.items omit_fixed result) run.design_is
    (c.boards_read_back.ensures text b omit_fixed result own run.board scale) reads
