-- What tests say of the element at a place.
use Rattle.std.proofs.Common.{◌≡◌, ◌↔◌, ℕ, Bool, true, false, Option, Some, None, List, [], ◌∷◌, ◌++◌, get_or, length}
use Rattle.std.proofs.Common.{◌<◌, ◌==◌, arith}
use Rattle.std.proofs.Common.{IsTrue, refl, sym, ◌∙◌, ap, subst, true≢false}
use Rattle.std.specs.Borrow.{Bor}
use Rattle.std.specs.Option.{IsSomeAnd, option_copied}
use Rattle.std.specs.Prelude.{IfSome, is_some, ltb, not, slice_get}
use Rattle.std.proofs.lemmas.Bool.{eqb-true, false≢true, ltb-false, ltb-true}
use Rattle.std.proofs.lemmas.Option.{none-some, slice_get-get_or, slice_get_past}
use Rattle.pcb_model.specs.declared.item.Item.{Item}
use Rattle.pcb_model.specs.Board.{LeadsTo}
use Rattle.board_offers.specs.inner.Adding.{LeadsBetween}

-- the test of what is at a place
pub at_some : {X : Type 0} (P : X → Type 0) (o : Option X) (x : X) (r : Bool) → Some x ≡ o → IsTrue r ↔ P x
    → IsTrue r ↔ IsSomeAnd o P
at_some P o x r is says = subst (λ p. IsTrue r ↔ IsSomeAnd p P) is says

-- nothing is at the place
pub at_none : {X : Type 0} (P : X → Type 0) (o : Option X) → None ≡ o → IsTrue false ↔ IsSomeAnd o P
at_none P o is = (λ t. absurd (false≢true t), λ h. absurd (subst (λ p. IsSomeAnd p P) (sym is) h))

-- the test of what is not so
pub denied : (b : Bool) → IsTrue (not b) ↔ (b ≡ false)
denied true = (λ t. absurd (false≢true t), λ e. absurd (true≢false e))
denied false = (λ t. refl, λ e. refl)

-- what `get` finds is what stands at the place
pub got_at : {X : Type 0} (xs : List X) (i : ℕ) (r : Option (Bor X)) → is_some r ≡ ltb i (length xs)
    → IfSome r (λ x. x.now ≡ get_or xs i x.now) → option_copied r ≡ slice_get xs i
got_at xs i None there is = sym (slice_get_past xs i (ltb-false i (length xs) (sym there)))
got_at xs i (Some x) there is =
    sym (slice_get-get_or xs i x.now (ltb-true i (length xs) (sym there)) ∙ ap Some (sym is))

-- whether a list has an element, by its length
pub no_length : {X : Type 0} (xs : List X) → (length xs == 0) ≡ true → xs ≡ []
no_length [] e = refl
no_length (x ∷ xs) e = let none = eqb-true (length (x ∷ xs)) 0 e in absurd (omega (arith, none))

pub none_there : {X : Type 0} (xs : List X) → (length xs == 0) ≡ true → ¬ (0 < length xs)
none_there xs e h = let none = eqb-true (length xs) 0 e in omega (arith, none, h)

pub some_there : {X : Type 0} (xs : List X) → (length xs == 0) ≡ false → 0 < length xs
some_there [] e = absurd (true≢false e)
some_there (x ∷ xs) e = omega arith

some_same : {X : Type 0} (x y : X) (o : Option X) → Some x ≡ o → o ≡ Some y → y ≡ x
some_same x y o p q = let e : Some x ≡ Some y = p ∙ q in cc

-- the chain leads from the one item to the other
pub between : (given chain : List Item) (from to : ℕ) (a b : Item) (r : Bool) → Some a ≡ slice_get given from
    → Some b ≡ slice_get given to → IsTrue r ↔ LeadsTo a (chain ++ b ∷ []) b
    → IsTrue r ↔ LeadsBetween given from chain to
between given chain from to a b r first last says = (
  λ t. record { first = a; first_is = sym first; last = b; last_is = sym last; leads = says.0 t },
  λ h.
      let start = subst (λ (x : Item). LeadsTo x (chain ++ h.last ∷ []) h.last)
      (some_same a h.first (slice_get given from) first h.first_is) h.leads in
      says.1 (subst (λ (y : Item). LeadsTo a (chain ++ y ∷ []) y)
      (some_same b h.last (slice_get given to) last h.last_is) start),
)

pub no_start : (given chain : List Item) (from to : ℕ) → None ≡ slice_get given from
    → IsTrue false ↔ LeadsBetween given from chain to
no_start given chain from to none = (λ t. absurd (false≢true t), λ h. absurd (none-some h.first (none ∙ h.first_is)))

pub no_end : (given chain : List Item) (from to : ℕ) → None ≡ slice_get given to
    → IsTrue false ↔ LeadsBetween given from chain to
no_end given chain from to none = (λ t. absurd (false≢true t), λ h. absurd (none-some h.last (none ∙ h.last_is)))
