-- A new item in the place of an old one: what it touches, from id to id, and whether it may stand there.
use Rattle.std.proofs.Common.{◌≡◌, ◌≢◌, ℕ, ◌+◌, ◌<◌, ◌≤◌, ◌^◌, Bool, true, false, true≢false, IsTrue, ◌↔◌, List, []}
use Rattle.std.proofs.Common.{◌∷◌, Option, Some, None, sym, ◌∙◌, ap, subst, inl, inr, ◌⊎◌, arith}
use Rattle.std.specs.Prelude.{Contains, All}
use Prim.Native.Nat.{zero, suc}
use Rattle.std.proofs.lemmas.List.Elements.{All-contains}
use Rattle.pcb_model.specs.declared.item.Item.{Item}
use Rattle.pcb_model.specs.declared.design.Design.{Design}
use Rattle.pcb_model.specs.Pairs.{Agrees, AreTouching, PiecesTouch, is_same_net}
use Rattle.pcb_model.specs.Board.{AreInside}
use Rattle.pcb_model.specs.Copper.{Ascends, Finds, IsOther}
use Rattle.shove.specs.Shoves.{CanReplace}
use Rattle.shove.specs.inner.Steps.{TouchesBelow, TouchesAll}

low_or_high : (n m : ℕ) → (n < m) ⊎ (m ≤ n)
low_or_high n zero = inr (omega arith)
low_or_high zero (suc m) = inl (omega arith)
low_or_high (suc n) (suc m) = elim (low_or_high n m) [ inl h ↦ inl (omega arith) | inr h ↦ inr (omega arith) ]

same_some : (x y : ℕ) → Some x ≡ Some y → x ≡ y
same_some x y e = cc

other : (old b : Item) → b.id ≢ old.id → IsOther (Some old.id) b
other old b apart e = apart (sym (same_some old.id b.id e))

apart_of : (old b : Item) → IsOther (Some old.id) b → b.id ≢ old.id
apart_of old b h e = h (ap (λ (n : ℕ). Some n) (sym e))

module _ (items : List Item) (old new : Item) where
  abbrev pub NextTouch : ℕ → Option ℕ → Type 0
  NextTouch from found = Finds (AreTouching old) (λ b. AreTouching old b → ⊥) from (Some old.id) items found

  pub touches_none : TouchesBelow items old new 0
  touches_none = record { each = λ b there apart touch low. absurd (omega arith) }

  -- the item that was found is touched too
  pub touches_more : (from id : ℕ) (b : Item) → new.net ≡ old.net
      → ((x y : Item) → Contains items x → Contains items y → x.id ≡ y.id → x ≡ y) → TouchesBelow items old new from
      → NextTouch from (Some id)
      → Contains items b → b.id ≡ id → PiecesTouch new.pieces b.pieces → TouchesBelow items old new (id + 1)
  touches_more from id b one_net one h f b_in b_is touch = record {
    each = λ x there apart was low. elim (low_or_high x.id from) [
      | inl early ↦ h.each x there apart was early
      | inr late ↦ elim (low_or_high x.id id) [
        | inl before ↦ absurd (f.before x there (late, other old x apart) before was)
        | inr not_before ↦
            let same : x.id ≡ b.id = omega (arith, b_is) in
            let is : x ≡ b = one x b there b_in same in
            record {
              same_net = subst (λ (o : Option ℕ). is_same_net o x.net
                  ≡ true) (sym one_net) was.same_net;
              touch = subst (λ (y : Item). PiecesTouch new.pieces y.pieces)
                  (sym is) touch;
            }
      ]
    ];
  }

  pub touches_end : (from : ℕ) → TouchesBelow items old new from → NextTouch from None → TouchesAll items old new
  touches_end from h f = record {
    each = λ x there apart was. elim (low_or_high x.id from) [
      | inl early ↦ h.each x there apart was early
      | inr late ↦ absurd (f x there (late, other old x apart) was)
    ];
  }

  pub touches_high : (from : ℕ) → TouchesBelow items old new from → 2 ^ 64 ≤ from
      → All (λ (b : Item). b.id < 2 ^ 64) items → TouchesAll items old new
  touches_high from h high within = record {
    each = λ x there apart was. let low : x.id < 2 ^ 64 = All-contains
        (λ (b : Item). b.id < 2 ^ 64) items x within there in h.each x there apart was (omega arith);
  }

  -- an item that the old one touched and the new one doesn't
  pub touches_not : (from id : ℕ) (b : Item) → ((x y : Item) → Contains items x → Contains items y → x.id ≡ y.id → x
      ≡ y) → NextTouch from (Some id) → Contains items b → b.id ≡ id → ¬ (PiecesTouch new.pieces b.pieces)
      → ¬ (TouchesAll items old new)
  touches_not from id b one f b_in b_is not all =
      let e : f.item.id ≡ id = f.id_is in
      let is : f.item ≡ b = one f.item b f.there b_in (e ∙ sym b_is) in
      let t = all.each f.item f.there (apart_of old f.item f.looked_at.1) f.holds in
      not (subst (λ (y : Item). PiecesTouch new.pieces y.pieces) is t.touch)

module _ (d : Design) (items : List Item) (old new : Item) (one_id : new.id ≡ old.id) where
  abbrev pub NextClash : Option ℕ → Type 0
  NextClash found = Finds (λ b. Agrees d new b → ⊥) (Agrees d new) 0 (Some new.id) items found

  pub replaced : (r : Bool) → AreInside d.bounds new.pieces → NextClash None → (IsTrue r ↔ TouchesAll items old new)
      → IsTrue r ↔ CanReplace d items old new
  replaced r inside f iff = (
    λ t. record {
      agrees = λ b there apart. f b there (
        omega arith,
        other new b (λ e. apart (e
            ∙ one_id)),
      );
      inside = inside;
      touches = (iff.0 t).each;
    },
    λ h. iff.1 (record { each = h.touches }),
  )

pub refused : (Q : Type 0) → (Q → ⊥) → (IsTrue false → Q) × (Q → IsTrue false)
refused Q f = (λ t. absurd (true≢false (sym t)), λ q. absurd (f q))

pub unless : (b : Bool) (Q : Type 0) → (IsTrue b ↔ Q) → b ≡ false → Q → ⊥
unless b Q iff f q = true≢false (sym (iff.1 q) ∙ f)

-- ids differ
rest_rises : (x : Item) (xs : List Item) → Ascends (x ∷ xs) → Ascends xs
rest_rises x xs up = λ i j d lt within. up (suc i) (suc j) d (omega arith) (omega arith)

first_below : (x : Item) (xs : List Item) → Ascends (x ∷ xs) → All (λ (y : Item). x.id < y.id) xs
first_below x xs up = λ k d within. up 0 (suc k) d (omega arith) (omega arith)

pub one_of : (items : List Item) → Ascends items → (x y : Item) → Contains items x → Contains items y → x.id ≡ y.id
    → x ≡ y
one_of [] up a b (k, within, e) c h = absurd (omega arith)
one_of (x ∷ xs) up a b (zero, w, e) (zero, v, f) h = sym e ∙ f
one_of (x ∷ xs) up a b (zero, w, e) (suc j, v, f) h =
    let lt : x.id < b.id = All-contains (λ (y : Item). x.id < y.id) xs b (first_below x xs up) (j, omega arith, f) in
    let s : x.id ≡ a.id = ap (λ (y : Item). y.id) e in absurd (omega arith)
one_of (x ∷ xs) up a b (suc i, w, e) (zero, v, f) h =
    let lt : x.id < a.id = All-contains (λ (y : Item). x.id < y.id) xs a (first_below x xs up) (i, omega arith, e) in
    let s : x.id ≡ b.id = ap (λ (y : Item). y.id) f in absurd (omega arith)
one_of (x ∷ xs) up a b (suc i, w, e) (suc j, v, f) h = one_of xs (rest_rises x xs up) a b (i, omega arith, e)
    (j, omega arith, f) h

-- an item that disagrees keeps the new one out
pub clash_out : (d : Design) (items : List Item) (old new : Item) → new.id ≡ old.id → (id : ℕ)
    → Finds (λ b. Agrees d new b → ⊥) (Agrees d new) 0 (Some new.id) items (Some id) → CanReplace d items old new → ⊥
clash_out d items old new one_id id found can =
    found.holds (can.agrees found.item found.there
    (λ e. found.looked_at.1 (ap (λ (n : ℕ). Some n) (one_id ∙ sym e))))
