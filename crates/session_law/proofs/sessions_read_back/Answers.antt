use Rattle.session_law.proofs.BackLaw.{reads_back}
use Rattle.session_law.proofs.sessions_read_back.Goals as goal

pub returns : goal.returns
returns c = λ b omit_fixed result board whole readable reads.
    let says = c.boards_serve.ensures in
    let have = c.sessions_have_trees.ensures b.design b.items omit_fixed board.sound.printable_names in
    reads_back b omit_fixed board (says.legal b board) (says.serves b board) whole readable have.tree have.is_shape
    c.one_session.ensures have.has_tree result reads
