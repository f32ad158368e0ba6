-- What one more entry makes.
use Rattle.std.proofs.Common.{◌≡◌, ℕ, ◌+◌, ◌≤◌, zero, suc, Some, refl, sym, ◌∙◌, ap, subst, List, [], ◌∷◌, ◌++◌}
use Rattle.std.proofs.Common.{length, take, drop, arith, length-append}
use Rattle.std.specs.Prelude.{slice_get}
use Rattle.std.proofs.lemmas.List.{take-append-le, take_all, take_more, take-append-drop, append-nil, append_assoc}
use Rattle.std.proofs.lemmas.Option.{slice_get_within, get_or_from_slice_get}
use Rattle.pcb_model.specs.declared.item.Item.{Item}
use Rattle.pcb_model.specs.declared.design.Design.{Design}
use Rattle.board_offers.specs.Items.{new_items}
use Rattle.pcb_board.specs.declared.answer.Entry.{Entry}
use Rattle.pcb_board.specs.declared.answer.Entry.TheVariants.{Join, Back}
use Rattle.pcb_board.specs.Boards.{Past, opening, next, past_from, past, replay}

pub past_on : (d : Design) (p : Past) (xs ys : List Entry)
    → past_from d p (xs ++ ys) ≡ past_from d (past_from d p xs) ys
past_on d p [] ys = refl
past_on d p (x ∷ xs) ys = past_on d (next d p x) xs ys

pub past_more : (d : Design) (start : List Item) (history : List Entry) (e : Entry)
    → past d start (history ++ e ∷ []) ≡ next d (past d start history) e
past_more d start history e = past_on d (opening start) history (e ∷ [])

-- before the entry all is as it was
pub replay_before : (d : Design) (start : List Item) (history : List Entry) (e : Entry) (n : ℕ) → n ≤ length history
    → replay d start (history ++ e ∷ []) n ≡ replay d start history n
replay_before d start history e n le =
    ap (λ (h : List Entry). (past d start h).items) (take-append-le n history (e ∷ []) le)

pub replay_all : (d : Design) (start : List Item) (history : List Entry) (n : ℕ) → length history ≤ n
    → replay d start history n ≡ (past d start history).items
replay_all d start history n le = ap (λ (h : List Entry). (past d start h).items) (take_all n history le)

pub replay_last : (d : Design) (start : List Item) (history : List Entry) (e : Entry) (n : ℕ) → n ≡ length history + 1
    → replay d start (history ++ e ∷ []) n ≡ (next d (past d start history) e).items
replay_last d start history e n is =
    replay_all d start (history ++ e ∷ []) n (omega (arith, is, length-append history (e ∷ [])))
    ∙ ap (λ (p : Past). p.items) (past_more d start history e)

-- ---- the items ever given
-- the list begins with the part
pub record BeginsWith (part whole : List Item) : Type 0 where
  pub more : List Item
  pub is : whole ≡ part ++ more

begins_on : (a b c : List Item) → BeginsWith a b → BeginsWith b c → BeginsWith a c
begins_on a b c first second = record {
  more = first.more ++ second.more;
  is = second.is ∙ ap (λ (xs : List Item). xs ++ second.more) first.is ∙ append_assoc a first.more second.more;
}

next_begins : (d : Design) (p : Past) (e : Entry) → BeginsWith p.given (next d p e).given
next_begins d p (Join o first after) = record { more = new_items d p.given o; is = refl }
next_begins d p (Back to) = record { more = []; is = refl }

pub from_begins : (d : Design) (p : Past) (es : List Entry) → BeginsWith p.given (past_from d p es).given
from_begins d p [] = record { more = []; is = sym (append-nil p.given) }
from_begins d p (e ∷ es) =
    begins_on p.given (next d p e).given (past_from d p (e ∷ es)).given (next_begins d p e)
    (from_begins d (next d p e) es)

-- what the first entries gave stands before the rest
pub given_begins : (d : Design) (start : List Item) (history : List Entry) (n : ℕ)
    → BeginsWith (past d start (take n history)).given (past d start history).given
given_begins d start history n =
    subst (λ (p : Past). BeginsWith (past d start (take n history)).given p.given)
    (sym (past_on d (opening start) (take n history) (drop n history))
    ∙ ap (past d start) (take-append-drop n history))
    (from_begins d (past d start (take n history)) (drop n history))

pub given_grows : (d : Design) (start : List Item) (history : List Entry) (n : ℕ)
    → length (past d start (take n history)).given ≤ length (past d start history).given
given_grows d start history n =
    let b = given_begins d start history n in
    let e = ap length b.is in
    omega (arith, e, length-append (past d start (take n history)).given b.more)

-- ---- entries one by one
pub taken_one : (xs : List Entry) (k : ℕ) (e : Entry) → slice_get xs k ≡ Some e → take (k + 1) xs ≡ take k xs ++ e ∷ []
taken_one xs k e at =
    take_more xs k e (slice_get_within xs k e at)
    ∙ ap (λ (x : Entry). take k xs ++ x ∷ []) (get_or_from_slice_get xs k e e at)

pub take_less : (n k : ℕ) (xs : List Entry) → n ≤ k → take n (take k xs) ≡ take n xs
take_less zero k xs le = refl
take_less (suc n) zero xs le = absurd (omega (arith, le))
take_less (suc n) (suc k) [] le = refl
take_less (suc n) (suc k) (x ∷ xs) le = ap (λ (ys : List Entry). x ∷ ys) (take_less n k xs (omega (arith, le)))
