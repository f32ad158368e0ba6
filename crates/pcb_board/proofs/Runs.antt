-- Offers one after another.
use Rattle.std.proofs.Common.{◌≡◌, ℕ, ◌+◌, refl, sym, ◌∙◌, ap, subst, List, [], ◌∷◌, ◌++◌, length}
use Rattle.std.proofs.lemmas.List.{append-nil, append_assoc}
use Rattle.pcb_model.specs.declared.item.Item.{Item}
use Rattle.pcb_model.specs.declared.design.Design.{Design}
use Rattle.pcb_model.specs.Pairs.{Agrees}
use Rattle.board_offers.specs.declared.offer.Offer.{Offer}
use Rattle.pcb_board.specs.declared.answer.Answer.{Answer}
use Rattle.pcb_board.specs.declared.answer.Answer.TheVariants.{Committed, Stale, Wrong, Malformed, Full}
use Rattle.pcb_board.specs.declared.answer.Entry.{Entry}
use Rattle.pcb_board.specs.declared.answer.Entry.TheVariants.{Join, Back}
use Rattle.board_offers.specs.Items.{new_items}
use Rattle.pcb_board.specs.Boards.{BoardOf, given}
use Rattle.pcb_board.specs.Answers.{Step, Makes, HasMade, taken_back}
use Rattle.pcb_board.specs.Keeping.{IsBoard, Grows}
use Rattle.pcb_board.proofs.Joining.{kept_by}

pub grows_none : (b c : BoardOf) → c ≡ b → Grows b c
grows_none b c same = record {
  design_stays = ap (λ (x : BoardOf). x.design) same;
  start_stays = ap (λ (x : BoardOf). x.start) same;
  cap_stays = ap (λ (x : BoardOf). x.cap) same;
  entries = [];
  history_is = ap (λ (x : BoardOf). x.history) same ∙ sym (append-nil b.history);
}

pub grows_on : (b m c : BoardOf) → Grows b m → Grows m c → Grows b c
grows_on b m c first second = record {
  design_stays = second.design_stays ∙ first.design_stays;
  start_stays = second.start_stays ∙ first.start_stays;
  cap_stays = second.cap_stays ∙ first.cap_stays;
  entries = first.entries ++ second.entries;
  history_is = second.history_is ∙ ap (λ (h : List Entry). h ++ second.entries) first.history_is
      ∙ append_assoc b.history first.entries second.entries;
}

pub step_grows : (b c : BoardOf) (o : Offer) (a : Answer) → Step b o a c → Grows b c
step_grows b c o Full h = grows_none b c h.1
step_grows b c o (Malformed clause) h = grows_none b c h.2
step_grows b c o (Stale item commit) h = grows_none b c h.2
step_grows b c o (Wrong item commit) h = grows_none b c h.2
step_grows b c o (Committed number) h = record {
  design_stays = ap (λ (x : BoardOf). x.design) h.3;
  start_stays = ap (λ (x : BoardOf). x.start) h.3;
  cap_stays = ap (λ (x : BoardOf). x.cap) h.3;
  entries = Join o (length (given b)) (length (given b) + length (new_items b.design (given b) o)) ∷ [];
  history_is = ap (λ (x : BoardOf). x.history) h.3;
}

pub back_grows : (b : BoardOf) (to : ℕ) → Grows b (taken_back b to)
back_grows b to = record {
  design_stays = refl;
  start_stays = refl;
  cap_stays = refl;
  entries = Back to ∷ [];
  history_is = refl;
}

pub runs_grow : (b c : BoardOf) (os : List Offer) (answers : List Answer) → Makes b os answers c → Grows b c
runs_grow b c [] [] h = grows_none b c h
runs_grow b c [] (a ∷ answers) h = absurd h
runs_grow b c (o ∷ os) [] h = absurd h
runs_grow b c (o ∷ os) (a ∷ answers) (m, step, more) =
    grows_on b m c (step_grows b m o a step) (runs_grow m c os answers more)

pub runs_kept : ((d : Design) (x y : Item) → Agrees d x y → Agrees d y x)
    → (b c : BoardOf) (os : List Offer) (answers : List Answer) → IsBoard b → Makes b os answers c → IsBoard c
runs_kept swap b c [] [] board h = kept_same b c h board
  where
    kept_same : (b c : BoardOf) → c ≡ b → IsBoard b → IsBoard c
    kept_same b c e h = subst IsBoard (sym e) h
runs_kept swap b c [] (a ∷ answers) board h = absurd h
runs_kept swap b c (o ∷ os) [] board h = absurd h
runs_kept swap b c (o ∷ os) (a ∷ answers) board (m, step, more) =
    runs_kept swap m c os answers (kept_by b m o a (swap b.design) board step) more

-- one offer more
pub makes_more : (b m c : BoardOf) (os : List Offer) (answers : List Answer) (o : Offer) (a : Answer)
    → Makes b os answers m → Step m o a c → Makes b (os ++ o ∷ []) (answers ++ a ∷ []) c
makes_more b m c [] [] o a h step = (c, subst (λ (x : BoardOf). Step x o a c) h step, refl)
makes_more b m c [] (x ∷ answers) o a h step = absurd h
makes_more b m c (y ∷ os) [] o a h step = absurd h
makes_more b m c (y ∷ os) (x ∷ answers) o a (n, first, more) step =
    (n, first, makes_more n m c os answers o a more step)

pub one_made : (b m c : BoardOf) (offers left : List Offer) (done later : List Answer) (o : Offer) (a : Answer)
    → HasMade b offers (o ∷ left) done m → Step m o a c → later ≡ done ++ a ∷ [] → HasMade b offers left later c
one_made b m c offers left done later o a h step is = record {
  made = h.made ++ o ∷ [];
  split = h.split ∙ sym (append_assoc h.made (o ∷ []) left);
  makes = subst (λ (xs : List Answer). Makes b (h.made ++ o ∷ []) xs c) (sym is)
      (makes_more b m c h.made done o a h.makes step);
}
