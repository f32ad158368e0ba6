-- Numbers that several seats draw from one word.
use Rattle.std.specs.Prelude.{◌≡◌, ◌≢◌, ℕ, ◌+◌, ◌-◌, ◌<◌, ◌≤◌, max, Bool, cond, eqb, ltb, List, [], ◌∷◌, ◌++◌, length}
use Rattle.std.specs.Prelude.{All, slice_index}
use mathlib.Core.Option.{some}
use lib.ListN.{get_elem?}
use Rattle.atomic_table.specs.Table.{State, Me, Step}
use Rattle.atomic_table.specs.Seated.{TableId}
use Rattle.board_turn.specs.declared.claims.Hand.{Hand}

-- f of each, added up
abbrev pub total : {A : Type 0} → (A → ℕ) → List A → ℕ
total f [] = 0
total f (x ∷ xs) = f x + total f xs

abbrev pub one_if : Bool → ℕ
one_if b = cond b 1 0

-- how often x stands in the list
abbrev pub times : ℕ → List ℕ → ℕ
times x [] = 0
times x (y ∷ ys) = one_if (eqb y x) + times x ys

-- 1 for a number below n, and else 0
abbrev pub once_below : ℕ → ℕ → ℕ
once_below x n = one_if (ltb x n)

abbrev pub hand : ℕ → List ℕ → ℕ → Hand
hand n xs f = record { shares = n; drawn = xs; floor = f }

-- the hand after it drew n
abbrev pub drew : Hand → ℕ → Hand
drew v n = hand v.shares (v.drawn ++ n ∷ []) v.floor

-- the hand that saw the word at n
abbrev pub saw : Hand → ℕ → Hand
saw v n = hand v.shares v.drawn n

-- The word is at most the number of tasks. The drawn numbers are those below the word, each in exactly one view. A
-- view without a share drew nothing, and none saw the word higher than it is.
pub record Claims {S : Type 0} (tasks : ℕ) (s : State S Hand) : Type 0 where
  pub one_word : length s.words ≡ 1
  pub within : slice_index s.words 0 ≤ tasks
  pub shares : total (λ v. v.shares) s.views ≡ 17
  pub once : (x : ℕ) → total (λ v. times x v.drawn) s.views ≡ once_below x (slice_index s.words 0)
  pub idle : (by : ℕ) (v : Hand) → get_elem? s.views by ≡ some v → v.shares ≡ 0 → v.drawn ≡ []
  pub seen : (by : ℕ) (v : Hand) → get_elem? s.views by ≡ some v → v.floor ≤ slice_index s.words 0

-- a load notes what it saw
abbrev pub Looks : {S : Type 0} → Step S → Me S Hand → ℕ → Me S Hand → Type 0
Looks s me found now = now ≡ (saw me.0 found, me.1)

-- a compare-exchange that found what it expected drew that number, which is above all that the seat drew before
abbrev pub Draws : {S : Type 0} → Step S → Me S Hand → ℕ → Me S Hand → Type 0
Draws s me found now = (found ≡ s.first → (now ≡ (drew me.0 found, me.1)) × All (λ x. x < found) me.0.drawn)
    × (found ≢ s.first → now ≡ me)

-- a share is cut off
abbrev pub less_one : Hand → Hand
less_one v = hand (v.shares - 1) v.drawn v.floor

abbrev pub newcomer : Hand → Hand
newcomer v = hand 1 [] v.floor

abbrev pub both_hands : Hand → Hand → Hand
both_hands v w = hand (v.shares + w.shares) (v.drawn ++ w.drawn) (max v.floor w.floor)

abbrev pub spent : Hand
spent = hand 0 [] 0

-- what a contract sees of a counter, and of a worker's seat at it
pub record CounterOf : Type 0 where
  pub table : TableId
  pub tasks : ℕ

pub record Claim : Type 0 where
  pub table : TableId
  pub hand : Hand
