-- What a test tells that is turned round.
use Rattle.std.proofs.Common.{◌≡◌, ℕ, ◌<◌, ◌≤◌, arith, ◌⊎◌, inl, inr, Bool, true, false, not, Some, IsTrue, ◌↔◌, refl}
use Rattle.std.proofs.Common.{sym, ap, ◌∙◌, true≢false}
use Rattle.std.specs.Bool.{OnTrue, OnFalse}
use Rattle.pcb_model.specs.declared.item.Item.{Item}
use Rattle.pcb_model.specs.Copper.{IsOther}

-- where the test fails, what it tests doesn't hold
pub fails : (b : Bool) (P : Type 0) → (IsTrue b ↔ P) → OnTrue (not b) (P → ⊥)
fails true P says = tt
fails false P says = λ p. true≢false (sym (says.1 p))

-- and else it does
pub passes : (b : Bool) (P : Type 0) → (IsTrue b ↔ P) → OnFalse (not b) P
passes true P says = says.0 refl
passes false P says = tt

-- the same beside what is known, and under what isn't
pub fails_with : (b : Bool) (K P : Type 0) → K → (IsTrue b ↔ P) → OnTrue (not b) (K × (P → ⊥))
fails_with true K P known says = tt
fails_with false K P known says = (known, λ p. true≢false (sym (says.1 p)))

pub passes_with : (b : Bool) (K P : Type 0) → (IsTrue b ↔ P) → OnFalse (not b) (K → P)
passes_with true K P says = λ k. says.0 refl
passes_with false K P says = tt

-- an item with another id is another one, and one with the same id isn't
pub other : (a b : Item) → (b.id ≡ a.id → ⊥) → IsOther (Some a.id) b
other a b apart = λ e. let same : b.id ≡ a.id = cc e in apart same

pub not_other : (a b : Item) → b.id ≡ a.id → IsOther (Some a.id) b → ⊥
not_other a b e o = o (ap Some (sym e))

-- what is asked only where a test passes holds where it fails
pub unasked : (b r : Bool) (P : Type 0) → r ≡ b → r ≡ false → IsTrue true ↔ (b ≡ true → P)
unasked b r P e f = (λ t m. absurd (true≢false (sym m ∙ sym e ∙ f)), λ h. refl)

-- what is left where no layers are apart
pub not_layers : (a b c d : ℕ) (R : Type 0) → b ≤ a → d ≤ c → (a < b ⊎ c < d) ⊎ R → R
not_layers a b c d R h k (inl (inl l)) = absurd (omega (arith, l, h))
not_layers a b c d R h k (inl (inr l)) = absurd (omega (arith, l, k))
not_layers a b c d R h k (inr r) = r
