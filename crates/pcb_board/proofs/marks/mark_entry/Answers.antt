use Rattle.std.proofs.Common.{◌≡◌, Some, length, refl}
use Rattle.std.specs.Prelude.{slice_get}
use Rattle.std.proofs.lemmas.Option.{slice_get_read}
use Rattle.pcb_board.specs.declared.answer.Entry.{Entry}
use Rattle.pcb_board.specs.inner.Turning.{MarksJoin, EndsWithin}
use Rattle.pcb_board.proofs.Turns.{if_there, there_if}
use Rattle.pcb_board.proofs.marks.mark_entry.Goals as goal

pub mark_join-requires : goal.mark_join-requires
mark_join-requires c =
    let at : slice_get c.args.history.now c.args.place ≡ Some c.index-history-place.result =
    slice_get_read c.args.history.now (length c.args.history.now) c.args.place c.index-history-place.result refl
    c.requires.within c.index-history-place.is in
    there_if (λ (e : Entry). EndsWithin e (length c.args.marks.now.items)) (slice_get c.args.history.now c.args.place)
    c.index-history-place.result at c.requires.ends

pub returns : goal.returns
returns c =
    let at : slice_get c.args.history.now c.args.place ≡ Some c.index-history-place.result =
    slice_get_read c.args.history.now (length c.args.history.now) c.args.place c.index-history-place.result refl
    c.requires.within c.index-history-place.is in
    if_there (λ (e : Entry). MarksJoin e c.args.marks.now.items c.mark_join.new.marks.items)
    (slice_get c.args.history.now c.args.place) c.index-history-place.result at c.mark_join.ensures
