-- What grows with a bound, over lists.
use Rattle.std.proofs.Common.{ℕ, ◌≤◌, List, length, take, All, get_or, Option, Some, None, arith, subst}
use Rattle.std.specs.Prelude.{IfSome}
use Rattle.std.proofs.lemmas.List.{take_all}
use Rattle.pcb_model.specs.declared.design.Typed.{Typed}
use Rattle.pcb_model.specs.declared.design.RuleSet.{RuleSet}
use Rattle.pcb_model.specs.Bounds.{AreRulesWithin}

pub All-weaken : {X : Type 0} (P Q : X → Type 0) (xs : List X) → ((x : X) → P x → Q x) → All P xs → All Q xs
All-weaken P Q xs f h = λ k d l. f (get_or xs k d) (h k d l)

pub All-whole : {X : Type 0} (P : X → Type 0) (xs : List X) (i : ℕ) → length xs ≤ i → All P (take i xs) → All P xs
All-whole P xs i h a = subst (All P) (take_all i xs h) a

pub value_more : (m n : ℕ) → m ≤ n → (t : Typed) → t.value ≤ m → t.value ≤ n
value_more m n h t k = omega arith

plain_more : (m n : ℕ) (o : Option ℕ) → m ≤ n → IfSome o (λ c. c ≤ m) → IfSome o (λ c. c ≤ n)
plain_more m n None h k = tt
plain_more m n (Some c) h k = omega arith

pub rules_more : (m n : ℕ) → m ≤ n → (rs : RuleSet) → AreRulesWithin m rs → AreRulesWithin n rs
rules_more m n h rs w = record {
  plain_within = plain_more m n rs.plain h w.plain_within;
  typed_within =
      All-weaken (λ (t : Typed). t.value ≤ m) (λ (t : Typed). t.value ≤ n) rs.typed (value_more m n h) w.typed_within;
}
