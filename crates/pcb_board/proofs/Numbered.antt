-- The numbers in a history's entries, as it grows.
use Rattle.std.proofs.Common.{◌≡◌, ◌⊎◌, inl, inr, ℕ, ◌+◌, ◌≤◌, zero, suc, Some, refl, sym, ◌∙◌, ap, subst}
use Rattle.std.proofs.Common.{List, [], ◌∷◌, ◌++◌, length, take, arith, length-append}
use Rattle.std.specs.Prelude.{slice_get}
use Rattle.std.proofs.lemmas.List.{take-append-le, take_all}
use Rattle.std.proofs.lemmas.Option.{none-some, same_Some, slice_get_within}
use Rattle.pcb_model.specs.declared.item.Item.{Item}
use Rattle.pcb_model.specs.declared.design.Design.{Design}
use Rattle.board_offers.specs.declared.offer.Offer.{Offer}
use Rattle.board_offers.specs.Items.{added, replaced, new_items}
use Rattle.board_offers.proofs.Lists.{IsBehind, look_cases}
use Rattle.board_offers.proofs.New.{added_length, replaced_length}
use Rattle.pcb_board.specs.declared.answer.Entry.{Entry}
use Rattle.pcb_board.specs.declared.answer.Entry.TheVariants.{Join, Back}
use Rattle.pcb_board.specs.Boards.{BoardOf, past, given}
use Rattle.pcb_board.specs.Indexing.{AreNumbered, IsNumbered, given_after}
use Rattle.pcb_board.specs.Answers.{joined, taken_back}

-- how many items an offer makes
pub new_long : (d : Design) (g : List Item) (o : Offer) → length (new_items d g o) ≡ length o.add + length o.shoves
new_long d g o =
    length-append (added d g o) (replaced d g o)
    ∙ ap (λ n. n + length (replaced d g o)) (added_length d o.net (length g) o.add)
    ∙ ap (λ n. length o.add + n) (replaced_length d g (length g + length o.add) o.shoves)

-- the same entries, and perhaps more behind them
given_stays : (b c : BoardOf) (e : Entry) (k : ℕ) → c.design ≡ b.design → c.start ≡ b.start
    → c.history ≡ b.history ++ e ∷ [] → k ≤ length b.history → given_after c k ≡ given_after b k
given_stays b c e k design start history le =
    let taken : take k c.history ≡ take k b.history = ap (take k) history ∙ take-append-le k b.history (e ∷ []) le in
    ap (λ (d : Design). length (past d c.start (take k c.history)).given) design
    ∙ ap (λ (s : List Item). length (past b.design s (take k c.history)).given) start
    ∙ ap (λ (es : List Entry). length (past b.design b.start es).given) taken

stays : (b c : BoardOf) (k : ℕ) (e : Entry) → given_after c k ≡ given_after b k → IsNumbered b k e → IsNumbered c k e
stays b c k (Join o first after) same h = (h.0 ∙ sym same, h.1)
stays b c k (Back to) same h = h

more : (b c : BoardOf) (e : Entry) → c.design ≡ b.design → c.start ≡ b.start → c.history ≡ b.history ++ e ∷ []
    → IsNumbered b (length b.history) e → AreNumbered b → AreNumbered c
more b c e design start history last h = record {
  each = λ k f at. by k f (look_cases b.history (e ∷ []) k f
      (sym (ap (λ (es : List Entry). slice_get es k) history) ∙ at));
}
  where
    last_one : (k j : ℕ) (f : Entry) → slice_get (e ∷ []) j ≡ Some f → k ≡ length b.history + j → IsNumbered c k f
    last_one k zero f at place =
        let here : k ≡ length b.history = omega (arith, place) in
        subst (IsNumbered c k) (same_Some e f at)
        (stays b c k e (given_stays b c e k design start history (omega (arith, here)))
        (subst (λ (n : ℕ). IsNumbered b n e) (sym here) last))
    last_one k (suc j) f at place = absurd (none-some f at)

    by : (k : ℕ) (f : Entry) → (slice_get b.history k ≡ Some f) ⊎ IsBehind b.history (e ∷ []) k f → IsNumbered c k f
    by k f (inl before) =
        let less = slice_get_within b.history k f before in
        stays b c k f (given_stays b c e k design start history (omega (arith, less))) (h.each k f before)
    by k f (inr behind) = last_one k behind.place f behind.there behind.place_is

given_now : (b : BoardOf) → given_after b (length b.history) ≡ length (given b)
given_now b = ap (λ (es : List Entry). length (past b.design b.start es).given)
    (take_all (length b.history) b.history (omega arith))

pub joined_numbered : (b : BoardOf) (o : Offer) → AreNumbered b → AreNumbered (joined b o)
joined_numbered b o h =
    let first = length (given b) in
    more b (joined b o) (Join o first (first + length (new_items b.design (given b) o))) refl refl refl
    (sym (given_now b), ap (λ n. first + n) (new_long b.design (given b) o)) h

pub back_numbered : (b : BoardOf) (to : ℕ) → to ≤ length b.history → AreNumbered b → AreNumbered (taken_back b to)
back_numbered b to le h = more b (taken_back b to) (Back to) refl refl refl le h

pub start_numbered : (b : BoardOf) → b.history ≡ [] → AreNumbered b
start_numbered b none = record {
  each = λ k e at. absurd (none-some e (sym (ap (λ (es : List Entry). slice_get es k) none) ∙ at));
}
