-- Writing one piece after another.
use Rattle.std.proofs.Common.{◌≡◌, List, [], ◌∷◌, ℕ, ◌+◌, ◌<◌, ◌≤◌, ◌++◌, length, get_or, drop, ap}
use Rattle.std.proofs.Common.{sym, ◌∙◌, append_assoc, append-nil}
use Rattle.std.proofs.lemmas.List.{drop_more, drop_all}
use Rattle.std.proofs.lemmas.Result.{on_ok_weaker}
use Rattle.std.specs.Prelude.{Result, OnOk}
use Rattle.ses_writer.specs.Words.{Appends}

-- first x, and then y
pub then_put : {a b c x y : List ℕ} → Appends a b x → Appends b c y → Appends a c (x ++ y)
then_put {a} {b} {c} {x} {y} first second =
    record { is = second.is ∙ ap (λ (l : List ℕ). l ++ y) first.is ∙ append_assoc a x y }

module _ {T E : Type 0} (r : Result T E) where
  -- first x, and y last
  pub put_last : {a b x : List ℕ} (c y : List ℕ) → Appends a b x → OnOk r (Appends b c y)
      → OnOk r (Appends a c (x ++ y))
  put_last {a} {b} {x} c y first last = on_ok_weaker r (λ (put : Appends b c y). then_put first put) last

-- what is written, and what is left, is all
pub record Leads (out rest all : List ℕ) : Type 0 where
  pub is : out ++ rest ≡ all

-- one more piece of what is left
pub leads_on : {a b x rest all : List ℕ} → Leads a (x ++ rest) all → Appends a b x → Leads b rest all
leads_on {a} {b} {x} {rest} {all} before put =
    record { is = ap (λ (l : List ℕ). l ++ rest) put.is ∙ append_assoc a x rest ∙ before.is }

-- with the next one of a list at the front of what is left
pub with_next : {X : Type 0} {out all : List ℕ} (F : List X → List ℕ) (xs : List X) (i : ℕ) (x : X) → i < length xs
    → x ≡ get_or xs i x → Leads out (F (drop i xs)) all → Leads out (F (x ∷ drop (i + 1) xs)) all
with_next {X} {out} {all} F xs i x lt is before = record {
  is = ap (λ (l : List X). out ++ F l) (ap (λ (y : X). y ∷ drop (i + 1) xs) is ∙ sym (drop_more xs i x lt)) ∙ before.is;
}

-- with nothing of a list left
pub at_end : {X : Type 0} {out all : List ℕ} (F : List X → List ℕ) (xs : List X) (i : ℕ) → length xs ≤ i
    → Leads out (F (drop i xs)) all → Leads out (F []) all
at_end {X} {out} F xs i le before =
    record { is = ap (λ (l : List X). out ++ F l) (sym (drop_all i xs le)) ∙ before.is }

-- then all is written
pub all_put : {old out piece : List ℕ} → Leads out [] (old ++ piece) → Appends old out piece
all_put {old} {out} {piece} before = record { is = sym (append-nil out) ∙ before.is }
