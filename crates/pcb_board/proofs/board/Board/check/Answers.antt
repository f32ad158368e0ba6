use Rattle.std.proofs.Common.{◌≡◌, ℕ, List, length, true≢false, refl, sym, ◌∙◌, subst}
use Rattle.pcb_model.specs.declared.item.Item.{Item}
use Rattle.pcb_model.specs.declared.design.Design.{Design}
use Rattle.pcb_model.specs.Sound.{IsSound}
use Rattle.board_offers.specs.declared.offer.Offer.{Offer}
use Rattle.board_offers.specs.declared.judgement.Judged.{Judged}
use Rattle.board_offers.specs.declared.judgement.Judged.TheVariants.{Fault, Fine}
use Rattle.pcb_board.specs.declared.board.Board.TheInside.{Inside}
use Rattle.pcb_board.specs.Boards.{BoardOf}
use Rattle.board_offers.specs.Troubles.{FailsLeast}
use Rattle.pcb_board.specs.Answers.{IsClearOn, IsFull, known}
use Rattle.pcb_board.specs.Keeping.{IsBoard}
use Rattle.board_offers.specs.Given.{AreGiven}
use Rattle.board_offers.specs.Judging.{known_by, Judges}
use Rattle.board_offers.specs.Offers.{IsMakeable}
use Rattle.pcb_board.specs.Indexing.{board_of, IsIndexed}
use Rattle.pcb_board.proofs.Standing.{trouble_within, troubled_step}
use Rattle.pcb_board.proofs.board.Board.check.Goals as goal

pub judge-judged-requires-clause-given : goal.judge-judged-requires-clause-given
judge-judged-requires-clause-given c =
    subst (λ (d : Design). AreGiven d c.as_slice.result.now) (sym c.get.ensures)
    (subst (AreGiven c.self.inside.design)
    (sym c.self.invariant.indexed.items_are ∙ sym c.as_slice.ensures.value) c.self.invariant.board.given_are)

pub judge-judged-requires-clause-sound : goal.judge-judged-requires-clause-sound
judge-judged-requires-clause-sound c = subst IsSound (sym c.get.ensures) c.self.invariant.board.sound

-- an offer is judged by what the board knows
judged_on : (a : Inside) (b : BoardOf) (d : Design) (g : List Item) (e : ℕ) (o : Offer) (j k : Judged)
    → board_of a ≡ b → IsIndexed a → d ≡ a.design → g ≡ a.given.items → e ≡ length a.history → j ≡ k
    → Judges (known_by d g e) o j → Judges (known b) o k
judged_on a b d g e o j k view kept d_is g_is e_is j_is h =
    subst (Judges (known b) o) j_is
    (subst (λ (x : BoardOf). Judges (known x) o j) view
    (subst (λ (xs : List Item). Judges (known_by a.design xs (length a.history)) o j)
    (g_is ∙ kept.indexed.items_are)
    (subst (λ (n : ℕ). Judges (known_by a.design g n) o j) e_is
    (subst (λ (x : Design). Judges (known_by x g e) o j) d_is h))))

-- and what is known of it where memory is wanting
known_on : (a : Inside) (b : BoardOf) (d : Design) (g : List Item) (e : ℕ) (o : Offer)
    → board_of a ≡ b → IsIndexed a → d ≡ a.design → g ≡ a.given.items → e ≡ length a.history
    → IsMakeable (known_by d g e) o → IsMakeable (known b) o
known_on a b d g e o view kept d_is g_is e_is h =
    subst (λ (x : BoardOf). IsMakeable (known x) o) view
    (subst (λ (xs : List Item). IsMakeable (known_by a.design xs (length a.history)) o)
    (g_is ∙ kept.indexed.items_are)
    (subst (λ (n : ℕ). IsMakeable (known_by a.design g n) o) e_is
    (subst (λ (x : Design). IsMakeable (known_by x g e) o) d_is h)))

pub returns-then-is_full-clause-refused : goal.returns-then-is_full-clause-refused
returns-then-is_full-clause-refused c = (c.is_full.ensures.0 c.if-is_full.true, refl)

pub returns-in-Ok-Fault-clause-refused : goal.returns-in-Ok-Fault-clause-refused
returns-in-Ok-Fault-clause-refused c = (
  λ full. true≢false (sym (c.is_full.ensures.1 full) ∙ c.if-is_full.false),
  judged_on c.self.inside c.args.self.now c.get.result.now c.as_slice.result.now c.len-entries.result c.args.offer.now
      c.in-Ok-Fault.field-0 (Fault c.in-Ok-Fault.clause) c.self.view_is c.self.invariant c.get.ensures
      c.as_slice.ensures.value c.len-entries.ensures c.in-Ok-Fault.field-0-is c.in-Ok-Fault.ensures.judged,
  refl,
)

pub returns-in-Err-clause-err : goal.returns-in-Err-clause-err
returns-in-Err-clause-err c = record {
  room = λ full. true≢false (sym (c.is_full.ensures.1 full) ∙ c.if-is_full.false);
  makeable = known_on c.self.inside c.args.self.now c.get.result.now c.as_slice.result.now c.len-entries.result
      c.args.offer.now c.self.view_is c.self.invariant c.get.ensures c.as_slice.ensures.value c.len-entries.ensures
      c.in-Err.ensures.memory;
}

pub least_trouble-requires-clause-formed : goal.least_trouble-requires-clause-formed
least_trouble-requires-clause-formed c =
    (judged_on c.self.inside c.args.self.now c.get.result.now c.as_slice.result.now c.len-entries.result
    c.args.offer.now c.in-Ok-Fine.field-0 (Fine c.in-Ok-Fine.new) c.self.view_is c.self.invariant c.get.ensures
    c.as_slice.ensures.value c.len-entries.ensures c.in-Ok-Fine.field-0-is c.in-Ok-Fine.ensures.judged).0

pub least_trouble-requires-clause-new : goal.least_trouble-requires-clause-new
least_trouble-requires-clause-new c =
    c.as_slice-2.ensures
    ∙ (judged_on c.self.inside c.args.self.now c.get.result.now c.as_slice.result.now c.len-entries.result
    c.args.offer.now c.in-Ok-Fine.field-0 (Fine c.in-Ok-Fine.new) c.self.view_is c.self.invariant c.get.ensures
    c.as_slice.ensures.value c.len-entries.ensures c.in-Ok-Fine.field-0-is c.in-Ok-Fine.ensures.judged).1

pub returns-in-Ok-None-clause-heard : goal.returns-in-Ok-None-clause-heard
returns-in-Ok-None-clause-heard c = record {
  room = λ full. true≢false (sym (c.is_full.ensures.1 full) ∙ c.if-is_full.false);
  formed = (judged_on c.self.inside c.args.self.now c.get.result.now c.as_slice.result.now c.len-entries.result
      c.args.offer.now c.in-Ok-Fine.field-0 (Fine c.in-Ok-Fine.new) c.self.view_is c.self.invariant c.get.ensures
      c.as_slice.ensures.value c.len-entries.ensures c.in-Ok-Fine.field-0-is c.in-Ok-Fine.ensures.judged).0;
}

pub returns-in-Ok-None-clause-clear : goal.returns-in-Ok-None-clause-clear
returns-in-Ok-None-clause-clear c =
    subst (FailsLeast (IsClearOn c.args.self.now c.args.offer.now)) c.in-Ok-None.field-0-is c.in-Ok-None.ensures

pub returns-in-Ok-None-clause-new : goal.returns-in-Ok-None-clause-new
returns-in-Ok-None-clause-new c =
    (judged_on c.self.inside c.args.self.now c.get.result.now c.as_slice.result.now c.len-entries.result
    c.args.offer.now c.in-Ok-Fine.field-0 (Fine c.in-Ok-Fine.new) c.self.view_is c.self.invariant c.get.ensures
    c.as_slice.ensures.value c.len-entries.ensures c.in-Ok-Fine.field-0-is c.in-Ok-Fine.ensures.judged).1

pub returns-in-Err-least_trouble-clause-err : goal.returns-in-Err-least_trouble-clause-err
returns-in-Err-least_trouble-clause-err c =
    let formed = (judged_on c.self.inside c.args.self.now c.get.result.now c.as_slice.result.now c.len-entries.result
    c.args.offer.now c.in-Ok-Fine.field-0 (Fine c.in-Ok-Fine.new) c.self.view_is c.self.invariant c.get.ensures
    c.as_slice.ensures.value c.len-entries.ensures c.in-Ok-Fine.field-0-is c.in-Ok-Fine.ensures.judged).0 in
    record {
      room = λ full. true≢false (sym (c.is_full.ensures.1 full) ∙ c.if-is_full.false);
      makeable = record { timely = formed.timely; ends = formed.ends; metals = formed.metals };
    }

pub trouble_at-requires : goal.trouble_at-requires
trouble_at-requires c =
    trouble_within c.args.self.now c.args.offer.now (subst IsBoard c.self.view_is c.self.invariant.board)
    (judged_on c.self.inside c.args.self.now c.get.result.now c.as_slice.result.now c.len-entries.result
    c.args.offer.now c.in-Ok-Fine.field-0 (Fine c.in-Ok-Fine.new) c.self.view_is c.self.invariant c.get.ensures
    c.as_slice.ensures.value c.len-entries.ensures c.in-Ok-Fine.field-0-is c.in-Ok-Fine.ensures.judged).0
    c.in-Ok-Some.item
    (subst (FailsLeast (IsClearOn c.args.self.now c.args.offer.now)) c.in-Ok-Some.field-0-is c.in-Ok-Some.ensures)

pub returns-in-Ok-Some-clause-refused : goal.returns-in-Ok-Some-clause-refused
returns-in-Ok-Some-clause-refused c =
    let full : ¬ (IsFull c.args.self.now c.args.offer.now) =
    λ h. true≢false (sym (c.is_full.ensures.1 h) ∙ c.if-is_full.false) in
    troubled_step c.args.self.now c.args.offer.now c.in-Ok-Some.item c.trouble_at.result full
    (judged_on c.self.inside c.args.self.now c.get.result.now c.as_slice.result.now c.len-entries.result
    c.args.offer.now c.in-Ok-Fine.field-0 (Fine c.in-Ok-Fine.new) c.self.view_is c.self.invariant c.get.ensures
    c.as_slice.ensures.value c.len-entries.ensures c.in-Ok-Fine.field-0-is c.in-Ok-Fine.ensures.judged).0
    (subst (FailsLeast (IsClearOn c.args.self.now c.args.offer.now)) c.in-Ok-Some.field-0-is c.in-Ok-Some.ensures)
    c.trouble_at.ensures
