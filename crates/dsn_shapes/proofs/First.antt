-- The refusal that is held after some is the first of them.
use Rattle.std.proofs.Common.{◌≡◌, ◌⊎◌, inl, inr, suc, Bool, true, false, cond, ◌∷◌, List, [], Some, None, refl, sym}
use Rattle.std.proofs.Common.{subst, arith}
use Rattle.std.specs.Prelude.{All, Contains}
use Rattle.std.proofs.lemmas.Bool.Decides.{nat_tests}
use Rattle.std.proofs.lemmas.List.Elements.{All-cons, All-nil}
use Rattle.std.proofs.lemmas.Option.{same_Some}
use Rattle.dsn_shapes.specs.declared.refusal.Refusal.{Refusal}
use Rattle.dsn_shapes.specs.Refusals.{is_before, least, noted}
use Rattle.dsn_shapes.specs.First.{FirstCounts, IsFirst, IsNoLater}
use Rattle.dsn_shapes.proofs.Fits.{none_left}

-- ---- the order
same_first : (a r : Refusal) → a ≡ r → IsNoLater r a
same_first a r e =
    subst (λ (x : Refusal). IsNoLater r x) (sym e) (record { place = omega arith; number = λ _. omega arith })

before_first : (b a : Refusal) → is_before b a ≡ true → IsNoLater b a
before_first b a e = record { place = grind (arith, nat_tests); number = λ h. grind (arith, nat_tests) }

not_before : (b a : Refusal) → is_before b a ≡ false → IsNoLater a b
not_before b a e = record { place = grind (arith, nat_tests); number = λ h. grind (arith, nat_tests) }

no_later_than : (r b a : Refusal) → IsNoLater r b → IsNoLater b a → IsNoLater r a
no_later_than r b a h k =
    record {
      place = omega (arith, h.place, k.place);
      number = λ e. omega (arith, h.place, h.number, k.place, k.number);
    }

-- ---- lists
here : {X : Type 0} (x y : X) (xs : List X) → y ≡ x → Contains (y ∷ xs) x
here x y xs e = (0, omega arith, e)

there : {X : Type 0} (x y : X) (xs : List X) → Contains xs x → Contains (y ∷ xs) x
there x y xs h = (suc h.0, (let l = h.1 in omega arith), h.2)

-- a refusal, held before these, and the one that is held after them
record IsHeld (a : Refusal) (rs : List Refusal) (r : Refusal) : Type 0 where
  first : IsNoLater r a
  all : All (IsNoLater r) rs
  among : (a ≡ r) ⊎ Contains rs r

taken : (a b : Refusal) (rs : List Refusal) (r : Refusal) → IsNoLater b a → IsHeld b rs r → IsHeld a (b ∷ rs) r
taken a b rs r before h = record {
  first = no_later_than r b a h.first before;
  all = All-cons (IsNoLater r) b rs h.first h.all;
  among = inr (elim h.among [ inl e ↦ here r b rs e | inr k ↦ there r b rs k ]);
}

left : (a b : Refusal) (rs : List Refusal) (r : Refusal) → IsNoLater a b → IsHeld a rs r → IsHeld a (b ∷ rs) r
left a b rs r before h = record {
  first = h.first;
  all = All-cons (IsNoLater r) b rs (no_later_than r a b h.first before) h.all;
  among = elim h.among [ inl e ↦ inl e | inr k ↦ inr (there r b rs k) ];
}

chosen : (a b : Refusal) (rs : List Refusal) (r : Refusal) (t : Bool) → is_before b a ≡ t
    → (noted (Some b) rs ≡ Some r → IsHeld b rs r) → (noted (Some a) rs ≡ Some r → IsHeld a rs r)
    → noted (cond t (Some b) (Some a)) rs ≡ Some r → IsHeld a (b ∷ rs) r
chosen a b rs r true t h k e = taken a b rs r (before_first b a t) (h e)
chosen a b rs r false t h k e = left a b rs r (not_before b a t) (k e)

held : (a : Refusal) (rs : List Refusal) (r : Refusal) → noted (Some a) rs ≡ Some r → IsHeld a rs r
held a [] r e = let s : a ≡ r = same_Some a r e in
    record { first = same_first a r s; all = All-nil (IsNoLater r); among = inl s }
held a (b ∷ rs) r e = chosen a b rs r (is_before b a) refl (held b rs r) (held a rs r) e

-- ---- the law
pub first_of : (rs : List Refusal) (r : Refusal) → least rs ≡ Some r → IsFirst rs r
first_of [] r e = cc
first_of (a ∷ rs) r e =
    let h = held a rs r e in
    record {
      among = elim h.among [ inl s ↦ here r a rs s | inr k ↦ there r a rs k ];
      no_later = All-cons (IsNoLater r) a rs h.first h.all;
    }

none_of : (rs : List Refusal) → rs ≡ [] → least rs ≡ None
none_of [] e = refl
none_of (a ∷ rs) e = cc

pub first_counts : FirstCounts
first_counts = record { first = first_of; none = λ rs. (none_left rs, none_of rs) }
