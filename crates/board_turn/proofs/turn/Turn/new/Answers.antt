use Rattle.std.proofs.Common.{ap, sym, subst, ◌∙◌, ◌++◌, [], ◌∷◌, List, Some}
use Rattle.atomic_table.specs.Table.{opening}
use Rattle.board_turn.specs.declared.lock.Opening.{Opening}
use Rattle.board_turn.specs.declared.lock.Role.TheVariants.{Free}
use Rattle.board_turn.specs.Lock.{Slot, view_of}
use Rattle.board_turn.specs.inner.Lock.{Kept, new_passes}
use Rattle.board_turn.proofs.Moves.{opens}
use Rattle.board_turn.proofs.turn.Turn.new.Goals as goal

pub new-requires : goal.new-requires
new-requires c =
    let k : Opening = record { board = c.of.result; count = c.args.count } in
    let slots = c.push_reserved.ensures.items
    ∙ ap (λ xs. xs ++ Some c.args.board ∷ []) c.in-Ok-with_capacity.ensures.items
    ∙ ap (λ b. Some b ∷ []) (sym c.of.ensures) in
    subst (λ (xs : List Slot). Kept k (opening (0 ∷ 0 ∷ []) xs (view_of k (new_passes 0 c.args.count) Free)))
    (sym slots) (opens k)
