-- The joins of a board's history are well-formed offers for the boards before them.
use Rattle.std.proofs.Common.{◌≡◌, inl, inr, ℕ, ◌<◌, ◌≤◌, zero, suc, Bool, true, false, true≢false, Some, refl, sym}
use Rattle.std.proofs.Common.{◌∙◌, ap, subst, List, [], ◌∷◌, ◌++◌, length, take, drop, arith}
use Rattle.std.specs.Prelude.{slice_get}
use Rattle.std.proofs.Math.Seq.{take-length}
use Rattle.std.proofs.lemmas.Option.{none-some, same_Some, slice_get_within}
use Rattle.std.proofs.lemmas.List.{length-take-le, take-append-drop, take-append-le}
use Rattle.board_offers.specs.declared.offer.Offer.{Offer}
use Rattle.board_offers.specs.Offers.{Known, IsWellFormed}
use Rattle.board_offers.proofs.Lists.{look_cases, look_left}
use Rattle.pcb_board.specs.declared.answer.Entry.{Entry}
use Rattle.pcb_board.specs.declared.answer.Entry.TheVariants.{Join, Back}
use Rattle.pcb_board.specs.Boards.{BoardOf, board_at, past}
use Rattle.pcb_board.specs.Answers.{known}
use Rattle.pcb_board.specs.Keeping.{Grows}
use Rattle.pcb_board.proofs.Past.{take_less}

-- what every board keeps of its joins
abbrev pub AreFormed : BoardOf → Type 0
AreFormed b = (k : ℕ) (o : Offer) (first after : ℕ) → slice_get b.history k ≡ Some (Join o first after)
    → IsWellFormed (known (board_at b k)) o

-- ---- entries
-- the offer of a join, and another one of an entry that goes back
abbrev offer_of : Offer → Entry → Offer
offer_of other (Join o first after) = o
offer_of other (Back to) = other

pub one_offer : (o p : Offer) (i j k l : ℕ) → Join o i j ≡ Join p k l → o ≡ p
one_offer o p i j k l same = ap (offer_of o) same

abbrev is_join : Entry → Bool
is_join (Join o first after) = true
is_join (Back to) = false

pub no_join : {P : Type 0} (o : Offer) (to i j : ℕ) → Back to ≡ Join o i j → P
no_join o to i j same = absurd (true≢false (sym (ap is_join same)))

one_place : (x y : Entry) (k : ℕ) → slice_get (x ∷ []) k ≡ Some y → (k ≡ 0) × (x ≡ y)
one_place x y zero e = (refl, same_Some x y e)
one_place x y (suc k) e = absurd (none-some y e)

-- ---- boards
-- by what an offer is judged after some entries
abbrev known_after : BoardOf → List Entry → Known
known_after b es = record { design = b.design; given = (past b.design b.start es).given; entries = length es }

known_whole : (b : BoardOf) → known (board_at b (length b.history)) ≡ known b
known_whole b = ap (known_after b) (take-length b.history)

-- further entries change no earlier board
pub board_before : (b c : BoardOf) (n : ℕ) → Grows b c → n ≤ length b.history → board_at c n ≡ board_at b n
board_before b c n grows le =
    let design : c.design ≡ b.design = grows.design_stays in
    let start : c.start ≡ b.start = grows.start_stays in
    let cap : c.cap ≡ b.cap = grows.cap_stays in
    let takes : take n c.history ≡ take n b.history =
    ap (take n) grows.history_is ∙ take-append-le n b.history grows.entries le in
    cc

-- with one more entry, which is a well-formed offer where it is a join
pub formed_behind : (b c : BoardOf) (e : Entry) → Grows b c → c.history ≡ b.history ++ e ∷ [] → AreFormed b
    → ((o : Offer) (first after : ℕ) → e ≡ Join o first after → IsWellFormed (known b) o) → AreFormed c
formed_behind b c e grows is formed last k o first after at =
    elim (look_cases b.history (e ∷ []) k (Join o first after)
    (subst (λ (h : List Entry). slice_get h k ≡ Some (Join o first after)) is at)) [
      | inl before ↦
          let within : k < length b.history = slice_get_within b.history k (Join o first after) before in
          subst (λ (x : BoardOf). IsWellFormed (known x) o) (sym (board_before b c k grows (omega (arith, within))))
          (formed k o first after before)
      | inr behind ↦
          let one = one_place e (Join o first after) behind.place behind.there in
          let end : k ≡ length b.history = let p = behind.place_is in let z = one.0 in omega (arith, p, z) in
          subst (λ (n : ℕ). IsWellFormed (known (board_at c n)) o) (sym end)
          (subst (λ (x : BoardOf). IsWellFormed (known x) o)
          (sym (board_before b c (length b.history) grows (omega arith)))
          (subst (λ (x : Known). IsWellFormed x o) (sym (known_whole b)) (last o first after one.1)))
    ]

-- with its first entries alone
pub formed_within : (b : BoardOf) (n : ℕ) → n ≤ length b.history → AreFormed b → AreFormed (board_at b n)
formed_within b n le formed k o first after at =
    let within : k < length (take n b.history) = slice_get_within (take n b.history) k (Join o first after) at in
    let less : k ≤ n = omega (arith, within, length-take-le n b.history le) in
    subst (λ (x : Known). IsWellFormed x o) (sym (ap (known_after b) (take_less k n b.history less)))
    (formed k o first after (subst (λ (h : List Entry). slice_get h k ≡ Some (Join o first after))
    (take-append-drop n b.history) (look_left (take n b.history) (drop n b.history) k (Join o first after) at)))
