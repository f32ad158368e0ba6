use Rattle.std.proofs.Common.{rules}
use Rattle.dsn_tree.proofs.Steps.{empty_text, whole_tree, surplus_last, last_fault, first_fault, surplus_first}
use Rattle.dsn_tree.proofs.Steps.{rest_fault}
use Rattle.dsn_tree.proofs.reading.read_tree.Goals as goal

pub returns-in-Ok-None : goal.returns-in-Ok-None
returns-in-Ok-None c = empty_text _ _ c.new-lexer.ensures (rw c.in-Ok-None.field-0-is at c.in-Ok-None.ensures.next).0

pub returns-in-Err : goal.returns-in-Err
returns-in-Err c = rw c.fault_of.ensures (first_fault _ _ _ c.in-Err.fault c.new-lexer.ensures c.in-Err.ensures.next)

pub returns-in_default : goal.returns-in_default
returns-in_default c =
    surplus_first c.each_read.ensures _ _ _ _ c.new-lexer.ensures
    (rw c.in-Ok-Some.field-0-is at c.in-Ok-Some.ensures.next) (search rules)

pub returns-in-Err-rest_of_group : goal.returns-in-Err-rest_of_group
returns-in-Err-rest_of_group c =
    rest_fault _ _ _ _ _ c.new-lexer.ensures (rw c.in-Ok-Some.field-0-is at c.in-Ok-Some.ensures.next) c.in-Left.is
    c.in-Err-rest_of_group.ensures

pub returns-in-Ok-None-next : goal.returns-in-Ok-None-next
returns-in-Ok-None-next c =
    whole_tree _ _ _ _ _ _ c.new-lexer.ensures (rw c.in-Ok-Some.field-0-is at c.in-Ok-Some.ensures.next) c.in-Left.is
    c.in-Ok.ensures (rw c.in-Ok-None-next.field-0-is at c.in-Ok-None-next.ensures.next).0

pub returns-in-Ok-Some-next : goal.returns-in-Ok-Some-next
returns-in-Ok-Some-next c =
    surplus_last c.each_read-in-Ok-Some-next.ensures _ _ _ _ _ _ _ _ c.new-lexer.ensures
    (rw c.in-Ok-Some.field-0-is at c.in-Ok-Some.ensures.next) c.in-Left.is c.in-Ok.ensures
    (rw c.in-Ok-Some-next.field-0-is at c.in-Ok-Some-next.ensures.next)

pub returns-in-Err-next : goal.returns-in-Err-next
returns-in-Err-next c =
    rw c.fault_of-in-Err-next.ensures
    (last_fault _ _ _ _ _ _ _ c.in-Err-next.fault c.new-lexer.ensures
    (rw c.in-Ok-Some.field-0-is at c.in-Ok-Some.ensures.next) c.in-Left.is c.in-Ok.ensures c.in-Err-next.ensures.next)
