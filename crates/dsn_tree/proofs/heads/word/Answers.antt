use Rattle.std.proofs.Common.{Some, length, refl, sym, ap, ◌∙◌, slice_get}
use Rattle.std.proofs.lemmas.Option.{slice_get_read}
use Rattle.dsn_tree.specs.declared.tree.Tree.TheViews.{out-Tree}
use Rattle.dsn_tree.specs.Heads.{text_in, text_of}
use Rattle.dsn_tree.proofs.heads.word.Goals as goal

pub returns-in-Some-Word : goal.returns-in-Some-Word
unfolding out-Tree denote.Hole.Carrier.out
returns-in-Some-Word c =
    let look = c.in-Some-Word.ensures.lookup in
    let at = slice_get_read c.items.result.now (length c.items.result.now) c.args.i c.in-Some-Word.field-0.now refl
    look.3.0 look.1 in
    ap Some c.in-Some-Word.text-is
    ∙ sym (ap text_of (ap (λ xs. slice_get xs c.args.i) (sym c.items.ensures) ∙ at)
    ∙ ap (λ t. text_in (out-Tree t)) c.in-Some-Word.field-0-is)
