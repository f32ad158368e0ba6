use Rattle.std.proofs.Common.{◌≡◌, ◌<◌, ℕ, Bool, false, List, length, refl, sym, ◌∙◌, ap, subst}
use Rattle.std.proofs.Common.{arith, rules}
use Rattle.std.specs.Prelude.{IfSome, slice_get, slice_index_or}
use Rattle.pcb_board.specs.declared.answer.Entry.{Entry}
use Rattle.pcb_board.specs.Boards.{BoardOf, given, replayed}
use Rattle.pcb_board.specs.inner.Turning.{LeadBack, MarksJoin, EndsWithin}
use Rattle.pcb_board.specs.Indexing.{board_of}
use Rattle.pcb_board.proofs.Prefix.{start_given}
use Rattle.pcb_board.proofs.Turns.{start_marks, step_within, step_ends, step_reached, step_long}
use Rattle.pcb_board.proofs.board.Board.marks_after.Goals as goal

pub loop-k-init : goal.loop-k-init
loop-k-init c =
    let a = c.self.inside in
    let count : c.len.result ≡ length c.self.inside.given.items = search rules in
    let blank_long : length c.resize.new.self.items ≡ c.len.result = search rules in
    let blank : (x : ℕ) (e : Bool) → x < c.len.result → slice_index_or c.resize.new.self.items x e ≡ false =
    search (rules, c.in_ok-resize.ensures.by_index) in
    record {
      long = c.mark_range.ensures.long ∙ blank_long ∙ count;
      reached = record {
        k = 0;
        marked = start_marks (replayed (board_of a) 0) c.resize.new.self.items c.mark_range.new.marks.items a.design
            a.given.items a.started (start_given (board_of a) 0 c.self.invariant.board (omega arith)) refl
            c.self.invariant.started (blank_long ∙ count) (λ x e within. blank x e (omega (arith, within, blank_long)))
            c.mark_range.ensures;
        leads = subst (λ (b : BoardOf). LeadBack b c.args.to c.in_ok-joins.joins.items 0) (sym c.self.view_is)
            c.in_ok-joins.ensures;
      };
    }

pub mark_entry-requires-clause-within : goal.mark_entry-requires-clause-within
mark_entry-requires-clause-within c =
    subst (λ (es : List Entry). c.in-Some.k < length es) (sym c.as_slice.ensures)
    (step_within (board_of c.self.inside) c.self.invariant.numbered c.args.to c.loop-k.joins.items c.pop.new.self.items
    c.in-Some.k c.loop-k.marks.items c.in-Some.ensures.items c.loop-k.invariant.reached)

pub mark_entry-requires-clause-ends : goal.mark_entry-requires-clause-ends
mark_entry-requires-clause-ends c =
    let same : length (given (board_of c.self.inside)) ≡ length c.loop-k.marks.items =
    sym (c.loop-k.invariant.long ∙ ap length c.self.invariant.indexed.items_are) in
    subst (λ (es : List Entry). IfSome (slice_get es c.in-Some.k)
    (λ (e : Entry). EndsWithin e (length c.loop-k.marks.items))) (sym c.as_slice.ensures)
    (subst (λ (m : ℕ). IfSome (slice_get c.self.inside.history c.in-Some.k) (λ (e : Entry). EndsWithin e m)) same
    (step_ends (board_of c.self.inside) c.self.invariant.numbered c.args.to c.loop-k.joins.items c.pop.new.self.items
    c.in-Some.k c.loop-k.marks.items c.in-Some.ensures.items c.loop-k.invariant.reached))

pub loop-k-preserved : goal.loop-k-preserved
loop-k-preserved c =
    let made : IfSome (slice_get c.self.inside.history c.in-Some.k)
    (λ (e : Entry). MarksJoin e c.loop-k.marks.items c.mark_entry.new.marks.items) =
    subst (λ (es : List Entry). IfSome (slice_get es c.in-Some.k)
    (λ (e : Entry). MarksJoin e c.loop-k.marks.items c.mark_entry.new.marks.items)) c.as_slice.ensures
    c.mark_entry.ensures in
    record {
      long = step_long (board_of c.self.inside) c.self.invariant.numbered c.args.to c.loop-k.joins.items
          c.pop.new.self.items c.in-Some.k c.loop-k.marks.items c.in-Some.ensures.items c.loop-k.invariant.reached
          c.mark_entry.new.marks.items made ∙ c.loop-k.invariant.long;
      reached = step_reached (board_of c.self.inside) c.self.invariant.numbered c.args.to c.loop-k.joins.items
          c.pop.new.self.items c.in-Some.k c.loop-k.marks.items c.in-Some.ensures.items c.loop-k.invariant.reached
          c.mark_entry.new.marks.items made;
    }
