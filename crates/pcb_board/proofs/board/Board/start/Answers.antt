use Rattle.std.proofs.Common.{[], sym, ◌∙◌, subst}
use Rattle.pcb_model.specs.declared.design.Design.{Design}
use Rattle.pcb_model.specs.Sound.{IsSound}
use Rattle.pcb_board.specs.Keeping.{IsStarted}
use Rattle.pcb_board.specs.inner.Loading.{AreLoaded}
use Rattle.pcb_board.proofs.board.Board.start.Goals as goal

pub beginning-requires : goal.beginning-requires
beginning-requires c = subst IsSound (sym (c.get.ensures ∙ c.in_ok-design.ensures.ok)) c.requires.sound

pub opened-requires-clause-sound : goal.opened-requires-clause-sound
opened-requires-clause-sound c = subst IsSound (sym c.in_ok-design.ensures.ok) c.requires.sound

pub opened-requires-clause-loaded : goal.opened-requires-clause-loaded
opened-requires-clause-loaded c =
    subst (λ (d : Design). AreLoaded d [] c.in-Ok.loaded) c.get.ensures c.in-Ok.ensures.loaded

pub returns-in-Ok : goal.returns-in-Ok
returns-in-Ok c =
    subst (λ (d : Design). IsStarted d c.args.cap c.opened.result.0 c.opened.result.1) c.in_ok-design.ensures.ok
    c.opened.ensures
