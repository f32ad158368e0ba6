-- The cuts of a net are those with which it ends.
use Rattle.std.proofs.Common.{◌≡◌, ◌≢◌, ℕ, zero, suc, ◌+◌, ◌<◌, ◌==◌, Bool, true, false, cond}
use Rattle.std.proofs.Common.{List, [], ◌∷◌, ◌++◌}
use Rattle.std.proofs.Common.{Some, refl, sym, ap, ap₂, ◌∙◌, arith, All, filter}
use Rattle.std.proofs.Common.{flat_map, eqb-true, eq-eqb}
use Rattle.std.specs.Prelude.{slice_get}
use Rattle.std.proofs.lemmas.Option.{same_Some}
use Rattle.std.proofs.lemmas.List.{append-nil}
use Rattle.std.proofs.lemmas.List.Elements.{All-head, All-tail, filter-append}
use Rattle.cut_certificate.specs.declared.cut.Cut.{Cut}
use Rattle.route_report.specs.Report.{is_of_net}

abbrev pub AreOf : ℕ → List Cut → Type 0
AreOf net cuts = All (λ (c : Cut). c.net ≡ net) cuts

all_own : (net : ℕ) (cuts : List Cut) → AreOf net cuts → filter (is_of_net net) cuts ≡ cuts
all_own net [] h = refl
all_own net (c ∷ cuts) h =
    ap (λ (b : Bool). cond b (c ∷ filter (is_of_net net) cuts) (filter (is_of_net net) cuts))
    (eq-eqb c.net net (All-head (λ (x : Cut). x.net ≡ net) c cuts h))
    ∙ ap (λ (xs : List Cut). c ∷ xs) (all_own net cuts (All-tail (λ (x : Cut). x.net ≡ net) c cuts h))

differ : (m n : ℕ) → m ≢ n → (m == n) ≡ false
differ m n h = by (m == n) refl
  where
    by : (b : Bool) → (m == n) ≡ b → (m == n) ≡ false
    by true e = absurd (h (eqb-true m n e))
    by false e = e

none_own : (net other : ℕ) (cuts : List Cut) → other ≢ net → AreOf other cuts → filter (is_of_net net) cuts ≡ []
none_own net other [] apart h = refl
none_own net other (c ∷ cuts) apart h =
    ap (λ (b : Bool). cond b (c ∷ filter (is_of_net net) cuts) (filter (is_of_net net) cuts))
    (differ c.net net (λ e. apart (sym (All-head (λ (x : Cut). x.net ≡ other) c cuts h) ∙ e)))
    ∙ none_own net other cuts apart (All-tail (λ (x : Cut). x.net ≡ other) c cuts h)

abbrev pub all_of : List (List Cut) → List Cut
all_of ends = flat_map (λ (cuts : List Cut). cuts) ends

-- where list k of the ends, counted from a net on, is of net k
abbrev pub AreEndsFrom : ℕ → List (List Cut) → Type 0
AreEndsFrom net [] = Unit {0}
AreEndsFrom net (cuts ∷ ends) = AreOf net cuts × AreEndsFrom (net + 1) ends

before_none : (net from : ℕ) (ends : List (List Cut)) → AreEndsFrom from ends → net < from
    → filter (is_of_net net) (all_of ends) ≡ []
before_none net from [] h less = refl
before_none net from (cuts ∷ ends) h less =
    filter-append (is_of_net net) cuts (all_of ends)
    ∙ ap₂ (λ (x y : List Cut). x ++ y)
    (none_own net from cuts (λ e. absurd (omega arith)) h.0) (before_none net (from + 1) ends h.1 (omega arith))

pub own_cuts : (from k : ℕ) (ends : List (List Cut)) (cuts : List Cut) → AreEndsFrom from ends
    → slice_get ends k ≡ Some cuts → filter (is_of_net (from + k)) (all_of ends) ≡ cuts
own_cuts from k [] cuts h e = absurd (cc)
own_cuts from zero (first ∷ ends) cuts h e =
    ap (λ (n : ℕ). filter (is_of_net n) (first ++ all_of ends)) (plain from)
    ∙ filter-append (is_of_net from) first (all_of ends)
    ∙ ap₂ (λ (x y : List Cut). x ++ y) (all_own from first h.0) (before_none from (from + 1) ends h.1 (omega arith))
    ∙ append-nil first ∙ same_Some first cuts e
  where
    plain : (n : ℕ) → n + 0 ≡ n
    plain n = omega arith
own_cuts from (suc k) (first ∷ ends) cuts h e =
    filter-append (is_of_net (from + suc k)) first (all_of ends)
    ∙ ap₂ (λ (x y : List Cut). x ++ y)
    (none_own (from + suc k) from first (λ z. absurd (omega arith)) h.0)
    (ap (λ (n : ℕ). filter (is_of_net n) (all_of ends)) (moved from k) ∙ own_cuts (from + 1) k ends cuts h.1 e)
  where
    moved : (n k : ℕ) → n + suc k ≡ n + 1 + k
    moved n k = omega arith
