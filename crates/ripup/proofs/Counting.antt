-- Counts up to a limit.
use Rattle.std.proofs.Common.{◌≡◌, ℕ, ◌+◌, ◌≤◌, List, [], ◌∷◌, ◌++◌, inl, inr, arith, sym, ◌∙◌, subst, refl}
use Rattle.std.specs.Prelude.{min, Contains}
use Prim.Native.Nat.{zero, suc}
use Rattle.pcb_model.specs.Counts.{Counts}
use Rattle.ripup.specs.Rips.{CountsTo}

pub one_count : {X : Type 0} (P : X → Type 0) (limit : ℕ) (xs : List X) (m n : ℕ) → CountsTo P limit xs m
    → CountsTo P limit xs n → m ≡ n
one_count P zero xs m n h k = h ∙ sym k
one_count P (suc limit) [] m n h k = h ∙ sym k
one_count P (suc limit) (x ∷ xs) m n (inl a) (inl b) = omega (arith, a.2, b.2, one_count P limit xs a.1 b.1 a.3 b.3)
one_count P (suc limit) (x ∷ xs) m n (inl a) (inr b) = absurd (b.0 a.0)
one_count P (suc limit) (x ∷ xs) m n (inr a) (inl b) = absurd (a.0 b.0)
one_count P (suc limit) (x ∷ xs) m n (inr a) (inr b) = one_count P (suc limit) xs m n a.1 b.1

pub few : {X : Type 0} (P : X → Type 0) (limit : ℕ) (xs : List X) (n : ℕ) → CountsTo P limit xs n → n ≤ limit
few P zero xs n h = omega (arith, h)
few P (suc limit) [] n h = omega (arith, h)
few P (suc limit) (x ∷ xs) n (inl a) = omega (arith, a.2, few P limit xs a.1 a.3)
few P (suc limit) (x ∷ xs) n (inr a) = few P (suc limit) xs n a.1

pub to_limit : {X : Type 0} (P : X → Type 0) (limit : ℕ) (xs : List X) (n : ℕ) → Counts P xs n
    → CountsTo P limit xs (min n limit)
to_limit P zero xs n h = omega arith
to_limit P (suc limit) [] n h = omega (arith, h)
to_limit P (suc limit) (x ∷ xs) n (inl a) = inl (a.0, min a.1 limit, omega (arith, a.2), to_limit P limit xs a.1 a.3)
to_limit P (suc limit) (x ∷ xs) n (inr a) = inr (a.0, to_limit P (suc limit) xs n a.1)

-- what was counted before, and what is counted on
pub goes_on : {X : Type 0} (P : X → Type 0) (before rest : List X) (n m k limit total : ℕ) → limit ≡ n + k → total
    ≡ n + m → Counts P before n → CountsTo P k rest m → CountsTo P limit (before ++ rest) total
goes_on P [] rest n m k limit total e t h c =
    let same : k ≡ limit = omega arith in
    let sum : m ≡ total = omega arith in
    subst (λ (q : ℕ). CountsTo P q rest total) same (subst (λ (q : ℕ). CountsTo P k rest q) sum c)
goes_on P (x ∷ xs) rest n m k zero total e t (inl a) c = absurd (omega (arith, a.2))
goes_on P (x ∷ xs) rest n m k (suc limit) total e t (inl a) c = inl
    (a.0, a.1 + m, omega (arith, a.2), goes_on P xs rest a.1 m k limit (a.1 + m) (omega (arith, a.2)) refl a.3 c)
goes_on P (x ∷ xs) rest n m k zero total e t (inr a) c = omega (arith, few P k rest m c)
goes_on P (x ∷ xs) rest n m k (suc limit) total e t (inr a) c = inr
    (a.0, goes_on P xs rest n m k (suc limit) total e t a.1 c)

-- nothing is counted where nothing has it
pub none_counted : {X : Type 0} (P : X → Type 0) (limit : ℕ) (xs : List X) → ((x : X) → Contains xs x → ¬ (P x))
    → CountsTo P limit xs 0
none_counted P zero xs f = refl
none_counted P (suc limit) [] f = refl
none_counted P (suc limit) (x ∷ xs) f = inr (
  f x (0, omega arith, refl),
  none_counted P (suc limit) xs
      (λ y h. f y (suc h.0, omega (arith, h.1), h.2)),
)

pub none_of : {X : Type 0} (P : X → Type 0) (xs : List X) → ((x : X) → Contains xs x → ¬ (P x)) → Counts P xs 0
none_of P [] f = refl
none_of P (x ∷ xs) f = inr (f x (0, omega arith, refl), none_of P xs (λ y h. f y (suc h.0, omega (arith, h.1), h.2)))

-- of two lists one behind the other
pub adds_up : {X : Type 0} (P : X → Type 0) (xs ys : List X) (m n : ℕ) → Counts P xs m → Counts P ys n
    → Counts P (xs ++ ys) (m + n)
adds_up P [] ys m n h k = let e : n ≡ m + n = omega arith in subst (λ (q : ℕ). Counts P ys q) e k
adds_up P (x ∷ xs) ys m n (inl a) k = inl (a.0, a.1 + n, omega (arith, a.2), adds_up P xs ys a.1 n a.3 k)
adds_up P (x ∷ xs) ys m n (inr a) k = inr (a.0, adds_up P xs ys m n a.1 k)
