use Rattle.std.proofs.Common.{arith}
use Rattle.dsn_tree.proofs.Steps.{word_more, group_more, group_ends, ends_fault, spelling_fault, deep_fault}
use Rattle.dsn_tree.proofs.Steps.{inner_fault}
use Rattle.dsn_tree.proofs.reading.+rest_of_group.Goals as goal
use Rattle.dsn_tree.proofs.reading.+rest_of_group.Goals.{in-Word, in-Left+else-room-eq0+in-Ok}

pub returns-in-Ok-None : goal.returns-in-Ok-None
returns-in-Ok-None t c =
    ends_fault _ _ _ _ _ c.loop-token.invariant.1 (rw c.in-Ok-None.field-0-is at c.in-Ok-None.ensures.next).0

pub returns-in-Err : goal.returns-in-Err
returns-in-Err t c =
    rw c.fault_of.ensures (spelling_fault _ _ _ _ _ _ c.in-Err.fault c.loop-token.invariant.1 c.in-Err.ensures.next)

pub returns-in-Right : goal.returns-in-Right
returns-in-Right t c =
    group_ends _ _ _ _ _ _ c.loop-token.invariant.1 (rw c.in-Ok-Some.field-0-is at c.in-Ok-Some.ensures.next)
    c.in-Right.is (omega (arith, rw c.in-Ok-Some.field-0-is at c.in-Ok-Some.ensures.shorter))

pub returns-then-room-eq0 : goal.returns-then-room-eq0
returns-then-room-eq0 t c =
    deep_fault c.each_read.ensures _ _ _ _ _ _ _ c.loop-token.invariant.1
    (rw c.in-Ok-Some.field-0-is at c.in-Ok-Some.ensures.next) c.in-Left.is c.if-room-eq0.true

pub returns-in-Err-rest_of_group : goal.returns-in-Err-rest_of_group
returns-in-Err-rest_of_group t c =
    inner_fault _ _ _ _ _ _ _ _ c.loop-token.invariant.1 (rw c.in-Ok-Some.field-0-is at c.in-Ok-Some.ensures.next)
    c.in-Left.is (omega arith) c.in-Err-rest_of_group.ensures

pub loop-token-preserved : goal.loop-token-preserved
loop-token-preserved t c = (
  c.loop-token.invariant.0,
  elim c.match-mark.branch [
    | in-Word w ↦ rw (c.in_ok-append.ensures, w.tree-is, w.lexer-is)
        (word_more _ _ _ _ _ _ _ c.loop-token.invariant.1 (rw c.in-Ok-Some.field-0-is at c.in-Ok-Some.ensures.next)
        w.in-Word.is
        (omega (arith, rw c.in-Ok-Some.field-0-is at c.in-Ok-Some.ensures.shorter)))
    | in-Left+else-room-eq0+in-Ok w ↦ rw (c.in_ok-append.ensures, w.tree-is, w.lexer-is)
        (group_more _ _ _ _ _ _ _ _ c.loop-token.invariant.1 (rw c.in-Ok-Some.field-0-is at c.in-Ok-Some.ensures.next)
        w.in-Left.is
        (omega (arith, rw c.in-Ok-Some.field-0-is at c.in-Ok-Some.ensures.shorter)) (omega (arith, w.if-room-eq0.false))
        w.in-Ok.ensures)
  ],
)
