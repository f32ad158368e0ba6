-- What a board's facts say of its items now, and where trouble can be.
use Rattle.std.proofs.Common.{◌≡◌, ◌⊎◌, inl, inr, ℕ, ◌<◌, ◌≤◌, zero, suc, Some}
use Rattle.std.proofs.Common.{None, refl, sym, subst, List, ◌∷◌, length, arith}
use Rattle.std.specs.Prelude.{All, Contains, slice_get}
use Rattle.std.specs.Option.{IsSomeAnd}
use Rattle.std.proofs.lemmas.Bool.{cases_lt}
use Rattle.std.proofs.lemmas.Option.{slice_get_within}
use Rattle.std.proofs.lemmas.List.Elements.{All-weaker, All-contains, Contains-append_cases}
use Rattle.pcb_model.specs.declared.item.Item.{Item}
use Rattle.pcb_model.specs.Board.{IsLegal}
use Rattle.pcb_model.specs.Copper.{Ascends}
use Rattle.pcb_model.specs.Sound.{IsItemOf, Serves}
use Rattle.board_offers.specs.declared.offer.Shoved.{Shoved}
use Rattle.board_offers.specs.declared.offer.Offer.{Offer}
use Rattle.board_offers.specs.Items.{gone, shoved_ids}
use Rattle.pcb_board.specs.Boards.{BoardOf, IsCommitOf, given}
use Rattle.board_offers.specs.Offers.{IsWellFormed, FailsFirst, IsInTheWay, IsShovable}
use Rattle.board_offers.specs.Troubles.{wanted, FailsLeast}
use Rattle.pcb_board.specs.declared.answer.Answer.{Answer}
use Rattle.pcb_board.specs.declared.answer.Answer.TheVariants.{Committed, Stale, Wrong, Malformed, Full}
use Rattle.pcb_board.specs.Answers.{IsClearOn, IsFull, BlamesLast, Step, IsTaken, known}
use Rattle.pcb_board.specs.Keeping.{IsBoard}
use Rattle.board_offers.proofs.Lists.{that, named_in, mapped}

pub found_now : (b : BoardOf) → IsBoard b → All (λ (a : Item). slice_get (given b) a.id ≡ Some a) b.items
found_now b board = subst (λ (xs : List Item). All (λ (a : Item). slice_get (given b) a.id ≡ Some a) xs) board.replays
    (board.from_given (length b.history) (omega arith))

pub legal_now : (b : BoardOf) → IsBoard b → IsLegal b.design b.items
legal_now b board = subst (IsLegal b.design) board.replays (board.legal (length b.history) (omega arith))

pub ascends_now : (b : BoardOf) → IsBoard b → Ascends b.items
ascends_now b board = subst Ascends board.replays (board.ascends (length b.history) (omega arith))

pub serves_now : (b : BoardOf) → IsBoard b → Serves b.items b.design
serves_now b board = record {
  design_fits = board.sound.fits;
  fixed_there = (legal_now b board).fixed_stay;
  items_fit = All-weaker (λ (a : Item). slice_get (given b) a.id ≡ Some a) (IsItemOf b.design)
      (λ a at. (board.given_are a.id a at).fits) b.items (found_now b board);
}

-- an item's id is below the number of those ever given
pub id_within : (b : BoardOf) → IsBoard b → (a : Item) → Contains b.items a → a.id < length (given b)
id_within b board a there = slice_get_within (given b) a.id a
    (All-contains (λ (x : Item). slice_get (given b) x.id ≡ Some x) b.items a (found_now b board) there)

in_cons : (y x : ℕ) (ys : List ℕ) → Contains (y ∷ ys) x → (y ≡ x) ⊎ Contains ys x
in_cons y x ys (zero, within, is) = inl is
in_cons y x ys (suc k, within, is) = inr (k, omega (arith, within), is)

some_within : (P : Item → Type 0) (items : List Item) (x : ℕ) → IsSomeAnd (slice_get items x) P → x < length items
some_within P items x h = let t = that (slice_get items x) P h in slice_get_within items x t.value t.is

module _ (b : BoardOf) (o : Offer) (board : IsBoard b) (formed : IsWellFormed (known b) o) where
  pub gone_within : (x : ℕ) → Contains (gone o) x → x < length (given b)
  gone_within x there = elim (Contains-append_cases o.rip (shoved_ids o) x there) [
    | inl ripped ↦ some_within (IsInTheWay (known b) o) (given b) x
        (All-contains (λ y. IsSomeAnd (slice_get (given b) y)
        (IsInTheWay (known b) o)) o.rip x formed.rips.each ripped)
    | inr shoved ↦
        let m = mapped (λ (s : Shoved). s.id) o.shoves x shoved in
        subst (λ (y : ℕ). y < length (given b)) m.is
        (some_within (IsShovable (known b) o m.from) (given b) m.from.id
        (All-contains (λ (s : Shoved). IsSomeAnd (slice_get (given b) s.id)
        (IsShovable (known b) o s)) o.shoves m.from formed.shoves.each m.there))
  ]

  pub wanted_within : (x : ℕ) → Contains (wanted o) x → x < length (given b)
  wanted_within x there = elim (in_cons o.from x (o.to ∷ gone o) there) [
    | inl from ↦ subst (λ (y : ℕ). y < length (given b)) from
        (some_within (λ (a : Item). a.net ≡ Some o.net) (given b) o.from formed.ends.from)
    | inr later ↦ elim (in_cons o.to x (gone o) later) [
      | inl to ↦ subst (λ (y : ℕ). y < length (given b)) to
          (some_within (λ (a : Item). a.net ≡ Some o.net) (given b) o.to formed.ends.to)
      | inr out ↦ gone_within x out
    ]
  ]

  clear_past : (x : ℕ) → length (given b) ≤ x → IsClearOn b o x
  clear_past x past = record {
    there = λ named. absurd (let less = wanted_within x (named_in (wanted o) x named) in omega (arith, less, past));
    agrees = λ a there e stays. absurd (let less = id_within b board a there in omega (arith, less, past, e));
    joined = λ a there e s in_shoves other old is touch. absurd
        (let less = id_within b board a there in omega (arith, less, past, e));
  }

  -- trouble is at an id that was given
  pub trouble_within : (x : ℕ) → FailsLeast (IsClearOn b o) (Some x) → x < length (given b)
  trouble_within x fails = elim (cases_lt x (length (given b))) [
    | inl h ↦ h
    | inr past ↦
        absurd (fails.0 (clear_past x past))
  ]

-- what is answered where there is trouble
pub troubled_step : (b : BoardOf) (o : Offer) (x : ℕ) (a : Answer) → ¬ (IsFull b o) → IsWellFormed (known b) o
    → FailsLeast (IsClearOn b o) (Some x) → BlamesLast b o.base x a → Step b o a b
troubled_step b o x (Stale item commit) room formed fails blames = (
  record {
    heard = record { room = room; formed = formed };
    least = subst (λ (y : ℕ). FailsLeast (IsClearOn b o) (Some y)) (sym blames.0) fails;
    commit_is = subst (λ (y : ℕ). IsCommitOf b y commit) (sym blames.0) blames.1;
  },
  blames.2,
  refl,
)
troubled_step b o x (Wrong item commit) room formed fails blames = (
  record {
    heard = record { room = room; formed = formed };
    least = subst (λ (y : ℕ). FailsLeast (IsClearOn b o) (Some y)) (sym blames.0) fails;
    commit_is = subst (λ (y : ℕ). IsCommitOf b y commit) (sym blames.0) blames.1;
  },
  blames.2,
  refl,
)
troubled_step b o x (Committed number) room formed fails blames = absurd blames
troubled_step b o x (Malformed clause) room formed fails blames = absurd blames
troubled_step b o x Full room formed fails blames = absurd blames

-- ---- an offer that meets no trouble
no_clause : (b : BoardOf) (o : Offer) (n : ℕ) → IsWellFormed (known b) o → FailsFirst (known b) o n → ⊥
no_clause b o n w (inl e) = e.1 w.timely
no_clause b o n w (inr (_, inl e)) = e.1 w.ends
no_clause b o n w (inr (_, inr (_, inl e))) = e.1 w.metals
no_clause b o n w (inr (_, inr (_, inr (_, inl e)))) = e.1 w.across
no_clause b o n w (inr (_, inr (_, inr (_, inr (_, inl e))))) = e.1 w.inside
no_clause b o n w (inr (_, inr (_, inr (_, inr (_, inr (_, inl e)))))) = e.1 w.once
no_clause b o n w (inr (_, inr (_, inr (_, inr (_, inr (_, inr (_, inl e))))))) = e.1 w.rips
no_clause b o n w (inr (_, inr (_, inr (_, inr (_, inr (_, inr (_, inr (_, inl e)))))))) = e.1 w.shoves
no_clause b o n w (inr (_, inr (_, inr (_, inr (_, inr (_, inr (_, inr (_, inr (_, inl e))))))))) = e.1 w.agree
no_clause b o n w (inr (_, inr (_, inr (_, inr (_, inr (_, inr (_, inr (_, inr (_, inr never))))))))) = never.1

-- it is committed, or the board is full
pub is_taken : (b c : BoardOf) (o : Offer) (a : Answer) → IsWellFormed (known b) o → FailsLeast (IsClearOn b o) None
    → Step b o a c → IsTaken b o a
is_taken b c o (Committed number) formed clear step = (step.2, step.0.room)
is_taken b c o Full formed clear step = step.0
is_taken b c o (Malformed clause) formed clear step = absurd (no_clause b o clause formed step.1)
is_taken b c o (Stale item commit) formed clear step = absurd (step.0.least.0 (clear item))
is_taken b c o (Wrong item commit) formed clear step = absurd (step.0.least.0 (clear item))
