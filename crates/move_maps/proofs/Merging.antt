-- Counts of merged lists.
use Rattle.std.proofs.Common.{◌≡◌, ℕ, ◌+◌, List, [], ◌∷◌, ◌++◌, Option, Some, None, refl, sym, subst}
use Rattle.std.proofs.Common.{inl, inr}
use Rattle.pcb_model.specs.declared.item.Item.{Item}
use Rattle.pcb_model.specs.declared.item.Probe.{Probe}
use Rattle.pcb_model.specs.declared.design.Design.{Design}
use Rattle.move_maps.specs.Clear.{IsClearOf}
use Rattle.copper_change.specs.Changes.{IsMerge}
use Rattle.move_maps.specs.Maps.{Misses, IsTally, MergesTally}

module _ {X : Type 0} (P : X → Type 0) where
  -- an element moved from the front to the middle, and back
  into : (x : X) (a b : List X) (n : ℕ) → Misses P (x ∷ (a ++ b)) n → Misses P (a ++ x ∷ b) n
  into x [] b n h = h
  into x (y ∷ a) b n (inl (px, inl (py, h))) = inl (py, into x a b n (inl (px, h)))
  into x (y ∷ a) b n (inl (px, inr (fails, m, e, h))) = inr (fails, m, e, into x a b m (inl (px, h)))
  into x (y ∷ a) b n (inr (fails, m, e, inl (py, h))) = inl (py, into x a b n (inr (fails, m, e, h)))
  into x (y ∷ a) b n (inr (fails, m, e, inr (also, k, f, h))) =
      inr (also, k + 1, subst (λ z. n ≡ z + 1) f e, into x a b (k + 1) (inr (fails, k, refl, h)))

  -- and the other way
  front : (x : X) (a b : List X) (n : ℕ) → Misses P (a ++ x ∷ b) n → Misses P (x ∷ (a ++ b)) n
  front x [] b n h = h
  front x (y ∷ a) b n (inl (py, h)) = over_yes (front x a b n h)
    where
      over_yes : Misses P (x ∷ (a ++ b)) n → Misses P (x ∷ (y ∷ (a ++ b))) n
      over_yes (inl (px, k)) = inl (px, inl (py, k))
      over_yes (inr (fails, m, e, k)) = inr (fails, m, e, inl (py, k))
  front x (y ∷ a) b n (inr (also, m, e, h)) = over_no (front x a b m h)
    where
      over_no : Misses P (x ∷ (a ++ b)) m → Misses P (x ∷ (y ∷ (a ++ b))) n
      over_no (inl (px, k)) = inl (px, inr (also, m, e, k))
      over_no (inr (fails, l, f, k)) = inr (fails, l + 1, subst (λ z. n ≡ z + 1) f e, inr (also, l, refl, k))

  -- what holds of the rest holds behind an element
  later : (x : X) (c r : List X) (n : ℕ) → ((m : ℕ) → Misses P c m → Misses P r m) → Misses P (x ∷ c) n
      → Misses P (x ∷ r) n
  later x c r n f (inl (px, h)) = inl (px, f n h)
  later x c r n f (inr (fails, m, e, h)) = inr (fails, m, e, f m h)

  -- misses in a merged list are those in the two, one after the other
  pub apart : (a b c : List X) (n : ℕ) → IsMerge a b c → Misses P c n → Misses P (a ++ b) n
  apart a b [] n (ea, eb) h = subst (λ (l : List X). Misses P (l ++ b) n) (sym ea)
      (subst (λ (l : List X). Misses P l n) (sym eb) h)
  apart a b (x ∷ c) n (inl (rest, e, k)) h =
      subst (λ (l : List X). Misses P (l ++ b) n) (sym e) (later x c (rest ++ b) n (λ m i. apart rest b c m k i) h)
  apart a b (x ∷ c) n (inr (rest, e, k)) h =
      subst (λ (l : List X). Misses P (a ++ l) n) (sym e)
      (into x a rest n (later x c (a ++ rest) n (λ m i. apart a rest c m k i) h))

  -- and the other way
  pub together : (a b c : List X) (n : ℕ) → IsMerge a b c → Misses P (a ++ b) n → Misses P c n
  together a b [] n (ea, eb) h = subst (λ (l : List X). Misses P l n) eb
      (subst (λ (l : List X). Misses P (l ++ b) n) ea h)
  together a b (x ∷ c) n (inl (rest, e, k)) h =
      later x (rest ++ b) c n (λ m i. together rest b c m k i) (subst (λ (l : List X). Misses P (l ++ b) n) e h)
  together a b (x ∷ c) n (inr (rest, e, k)) h =
      later x (a ++ rest) c n (λ m i. together a rest c m k i)
      (front x a rest n (subst (λ (l : List X). Misses P (a ++ l) n) e h))

-- a tally goes by the misses alone
tally_to : (d : Design) (g : ℕ) (xs ys : List Item) (o : Option Probe) (n : ℕ)
    → ((P : Item → Type 0) (k : ℕ) → Misses P xs k → Misses P ys k) → IsTally d g xs o n → IsTally d g ys o n
tally_to d g xs ys None n f h = h
tally_to d g xs ys (Some p) n f (inl top) = inl top
tally_to d g xs ys (Some p) n f (inr (few, (k, o, misses, out, e))) =
    inr (few, (k, o, f (IsClearOf d g p) k misses, out, e))

-- an item moved from the front to the middle
pub moved_in : (d : Design) (g : ℕ) (x : Item) (a b : List Item) (o : Option Probe) (n : ℕ)
    → IsTally d g (x ∷ (a ++ b)) o n → IsTally d g (a ++ x ∷ b) o n
moved_in d g x a b o n h = tally_to d g (x ∷ (a ++ b)) (a ++ x ∷ b) o n (λ P k i. into P x a b k i) h

-- both ways for tallies
pub merges : MergesTally
merges = record {
  apart = λ d g a b c o n m h. tally_to d g c (a ++ b) o n (λ P k i. apart P a b c k m i) h;
  together = λ d g a b c o n m h. tally_to d g (a ++ b) c o n (λ P k i. together P a b c k m i) h;
}
