-- A line is told by its bytes, and so is what follows it.
use Rattle.std.proofs.Common.{◌≡◌, ℕ, ◌==◌, ◌||◌, not, Bool, true, false}
use Rattle.std.proofs.Common.{cond}
use Rattle.std.proofs.Common.{List, [], ◌∷◌, ◌++◌, Option, Some, None, length, get_or, drop, refl, sym, ap}
use Rattle.std.proofs.Common.{◌∙◌, arith}
use Rattle.std.specs.Prelude.{codes}
use Rattle.std.specs.List.{list_all}
use Rattle.std.specs.Char.{is_ascii_digit}
use Rattle.std.proofs.lemmas.Bool.{and_parts}
use Rattle.std.proofs.lemmas.List.{append_assoc, append_cancel_left}
use Rattle.pcb_model.specs.declared.item.Kind.{Kind}
use Rattle.pcb_model.specs.declared.item.Kind.TheVariants as kind
use Rattle.ses_writer.specs.Words.{spelled, is_bare_byte}
use Rattle.report_form.specs.Form.{IsNumber, line, IsName, IsNameBeside, has_mark, kind_word, by_line}
use Rattle.told_words.specs.Stops.{Stops}
use Rattle.told_words.proofs.Bytes.{cut}
use Rattle.told_words.proofs.Spelling.{spelled_tells}

-- ---- numbers
pub digits : (w : List ℕ) → IsNumber w → list_all is_ascii_digit w ≡ true
digits [] h = refl
digits (c ∷ cs) h = (and_parts (list_all is_ascii_digit (c ∷ cs)) (length cs == 0 || not (c == 48)) h).0

pub number_cut : (a b r s : List ℕ) → IsNumber a → IsNumber b → Stops is_ascii_digit r → Stops is_ascii_digit s
    → a ++ r ≡ b ++ s → (a ≡ b) × (r ≡ s)
number_cut a b r s p q st su e = cut is_ascii_digit a b r s (digits a p) (digits b q) st su e

tail_is : (x : ℕ) (r s : List ℕ) → x ∷ r ≡ x ∷ s → r ≡ s
tail_is x r s e = ap (λ (xs : List ℕ). drop 1 xs) e

-- what follows a word, a number and a line's end
abbrev pub ended : List ℕ → List ℕ → List ℕ
ended a r = a ++ (10 ∷ r)

pub ended_is : (w a r : List ℕ) → line (w ++ a) ++ r ≡ w ++ ended a r
ended_is w a r = append_assoc (w ++ a) (codes "\n") r ∙ append_assoc w a (10 ∷ r)

pub ended_cut : (a b r s : List ℕ) → IsNumber a → IsNumber b → ended a r ≡ ended b s → (a ≡ b) × (r ≡ s)
ended_cut a b r s p q e =
    let both = number_cut a b (10 ∷ r) (10 ∷ s) p q refl refl e in (both.0, tail_is 10 r s both.1)

pub one_peel : (w a b r s : List ℕ) → IsNumber a → IsNumber b → line (w ++ a) ++ r ≡ line (w ++ b) ++ s
    → (a ≡ b) × (r ≡ s)
one_peel w a b r s p q e =
    ended_cut a b r s p q (append_cancel_left w (ended a r) (ended b s) (sym (ended_is w a r) ∙ e ∙ ended_is w b s))

-- a word in between, at which a number ends
abbrev pub IsStop : List ℕ → Type 0
IsStop v = (x : List ℕ) → Stops is_ascii_digit (v ++ x)

pub two_is : (w a v b r : List ℕ) → line (w ++ a ++ v ++ b) ++ r ≡ w ++ (a ++ (v ++ ended b r))
two_is w a v b r = ended_is (w ++ a ++ v) b r ∙ append_assoc (w ++ a) v (ended b r)
    ∙ append_assoc w a (v ++ ended b r)

-- numbers with a word between them, behind a first word
mid_cut : (v a b x y : List ℕ) → IsStop v → IsNumber a → IsNumber b → a ++ (v ++ x) ≡ b ++ (v ++ y) → (a ≡ b)
    × (x ≡ y)
mid_cut v a b x y stop p q e =
    let both = number_cut a b (v ++ x) (v ++ y) p q (stop x) (stop y) e in
    (both.0, append_cancel_left v x y both.1)

pub record Two (a b c e r s : List ℕ) : Type 0 where
  pub first : a ≡ c
  pub second : b ≡ e
  pub rest : r ≡ s

pub two_peel : (w v a b c e r s : List ℕ) → IsStop v → IsNumber a → IsNumber b → IsNumber c → IsNumber e
    → line (w ++ a ++ v ++ b) ++ r ≡ line (w ++ c ++ v ++ e) ++ s → Two a b c e r s
two_peel w v a b c e r s stop pa pb pc pe h =
    let inside : a ++ (v ++ ended b r) ≡ c ++ (v ++ ended e s) =
    append_cancel_left w (a ++ (v ++ ended b r)) (c ++ (v ++ ended e s))
    (sym (two_is w a v b r) ∙ h ∙ two_is w c v e s) in
    let one = mid_cut v a c (ended b r) (ended e s) stop pa pc inside in
    let two = ended_cut b e r s pb pe one.1 in
    record { first = one.0; second = two.0; rest = two.1 }

pub record Four (a b c e a' b' c' e' r s : List ℕ) : Type 0 where
  pub one : a ≡ a'
  pub two : b ≡ b'
  pub three : c ≡ c'
  pub four : e ≡ e'
  pub rest : r ≡ s

pub four_is : (w v a b c e r : List ℕ)
    → line (w ++ a ++ v ++ b ++ v ++ c ++ v ++ e) ++ r ≡ w ++ (a ++ (v ++ (b ++ (v ++ (c ++ (v ++ ended e r))))))
four_is w v a b c e r =
    ended_is (w ++ a ++ v ++ b ++ v ++ c ++ v) e r
    ∙ append_assoc (w ++ a ++ v ++ b ++ v ++ c) v (ended e r)
    ∙ append_assoc (w ++ a ++ v ++ b ++ v) c (v ++ ended e r)
    ∙ append_assoc (w ++ a ++ v ++ b) v (c ++ (v ++ ended e r))
    ∙ append_assoc (w ++ a ++ v) b (v ++ (c ++ (v ++ ended e r)))
    ∙ append_assoc (w ++ a) v (b ++ (v ++ (c ++ (v ++ ended e r))))
    ∙ append_assoc w a (v ++ (b ++ (v ++ (c ++ (v ++ ended e r)))))

pub four_peel : (w v a b c e a' b' c' e' r s : List ℕ) → IsStop v → IsNumber a → IsNumber b → IsNumber c → IsNumber e
    → IsNumber a' → IsNumber b' → IsNumber c' → IsNumber e'
    → line (w ++ a ++ v ++ b ++ v ++ c ++ v ++ e) ++ r ≡ line (w ++ a' ++ v ++ b' ++ v ++ c' ++ v ++ e') ++ s
    → Four a b c e a' b' c' e' r s
four_peel w v a b c e a' b' c' e' r s stop pa pb pc pe qa qb qc qe h =
    let inside = append_cancel_left w (a ++ (v ++ (b ++ (v ++ (c ++ (v ++ ended e r))))))
    (a' ++ (v ++ (b' ++ (v ++ (c' ++ (v ++ ended e' s))))))
    (sym (four_is w v a b c e r) ∙ h ∙ four_is w v a' b' c' e' s) in
    let one = mid_cut v a a' (b ++ (v ++ (c ++ (v ++ ended e r)))) (b' ++ (v ++ (c' ++ (v ++ ended e' s)))) stop pa qa
    inside in
    let two = mid_cut v b b' (c ++ (v ++ ended e r)) (c' ++ (v ++ ended e' s)) stop pb qb one.1 in
    let three = mid_cut v c c' (ended e r) (ended e' s) stop pc qc two.1 in
    let four = ended_cut e e' r s pe qe three.1 in
    record { one = one.0; two = two.0; three = three.0; four = four.0; rest = four.1 }

-- ---- names
name_peel : (first : Option (List ℕ)) (p q r s : List ℕ) → IsName first p → IsName first q → Stops is_bare_byte r
    → Stops is_bare_byte s → spelled p ++ r ≡ spelled q ++ s → (p ≡ q) × (r ≡ s)
name_peel None p q r s hp hq st su e = spelled_tells p q r s hp hq st su e
name_peel (Some first) p q r s hp hq st su e = by (has_mark first) hp hq
  where
    by : (b : Bool) → IsNameBeside b first p → IsNameBeside b first q → (p ≡ q) × (r ≡ s)
    by true k l =
        let one : p ≡ q = k ∙ sym l in
        (one, append_cancel_left (spelled q) r s (ap (λ (x : List ℕ). spelled x ++ r) (sym one) ∙ e))
    by false k l = spelled_tells p q r s k l st su e

-- a cut's line: a name and two numbers
pub record CutPeel (p a b q c e r s : List ℕ) : Type 0 where
  pub name : p ≡ q
  pub reached : a ≡ c
  pub blocked : b ≡ e
  pub rest : r ≡ s

pub cut_is : (p a b r : List ℕ) → line (codes "cut " ++ p ++ codes " reached " ++ a ++ codes " blocked " ++ b) ++ r
    ≡ codes "cut " ++ (p ++ (codes " reached " ++ (a ++ (codes " blocked " ++ ended b r))))
cut_is p a b r =
    ended_is (codes "cut " ++ p ++ codes " reached " ++ a ++ codes " blocked ") b r
    ∙ append_assoc (codes "cut " ++ p ++ codes " reached " ++ a) (codes " blocked ") (ended b r)
    ∙ append_assoc (codes "cut " ++ p ++ codes " reached ") a (codes " blocked " ++ ended b r)
    ∙ append_assoc (codes "cut " ++ p) (codes " reached ") (a ++ (codes " blocked " ++ ended b r))
    ∙ append_assoc (codes "cut ") p (codes " reached " ++ (a ++ (codes " blocked " ++ ended b r)))

pub cut_peel : (first : Option (List ℕ)) (p a b q c e r s : List ℕ) → IsName first p → IsName first q → IsNumber a
    → IsNumber b → IsNumber c → IsNumber e
    → line (codes "cut " ++ spelled p ++ codes " reached " ++ a ++ codes " blocked " ++ b) ++ r
    ≡ line (codes "cut " ++ spelled q ++ codes " reached " ++ c ++ codes " blocked " ++ e) ++ s
    → CutPeel p a b q c e r s
cut_peel first p a b q c e r s hp hq pa pb pc pe h =
    let x = codes " reached " ++ (a ++ (codes " blocked " ++ ended b r)) in
    let y = codes " reached " ++ (c ++ (codes " blocked " ++ ended e s)) in
    let inside : spelled p ++ x ≡ spelled q ++ y =
    append_cancel_left (codes "cut ") (spelled p ++ x) (spelled q ++ y)
    (sym (cut_is (spelled p) a b r) ∙ h ∙ cut_is (spelled q) c e s) in
    let name = name_peel first p q x y hp hq refl refl inside in
    let numbers = append_cancel_left (codes " reached ") (a ++ (codes " blocked " ++ ended b r))
    (c ++ (codes " blocked " ++ ended e s)) name.1 in
    let one = mid_cut (codes " blocked ") a c (ended b r) (ended e s) (λ z. refl) pa pc numbers in
    let two = ended_cut b e r s pb pe one.1 in
    record { name = name.0; reached = one.0; blocked = two.0; rest = two.1 }

-- ---- kinds
abbrev pub letter : Kind → ℕ
letter kind.Wire = 119
letter kind.Via = 118
letter kind.Pin = 112
letter kind.Smd = 115
letter kind.Area = 97

abbrev decoded : ℕ → Kind
decoded n = cond (n == 119) kind.Wire
    (cond (n == 118) kind.Via (cond (n == 112) kind.Pin (cond (n == 115) kind.Smd kind.Area)))

decode : (k : Kind) → decoded (letter k) ≡ k
decode kind.Wire = refl
decode kind.Via = refl
decode kind.Pin = refl
decode kind.Smd = refl
decode kind.Area = refl

pub letter_of : (k : Kind) (id r : List ℕ) → get_or (by_line (k, id) ++ r) 3 0 ≡ letter k
letter_of kind.Wire id r = refl
letter_of kind.Via id r = refl
letter_of kind.Pin id r = refl
letter_of kind.Smd id r = refl
letter_of kind.Area id r = refl

pub by_peel : (k l : Kind) (a b r s : List ℕ) → IsNumber a → IsNumber b → by_line (k, a) ++ r ≡ by_line (l, b) ++ s
    → (k ≡ l) × (a ≡ b) × (r ≡ s)
by_peel k l a b r s p q e =
    let at : letter k ≡ letter l = sym (letter_of k a r) ∙ ap (λ (xs : List ℕ). get_or xs 3 0) e ∙ letter_of l b s in
    let one : k ≡ l = sym (decode k) ∙ ap decoded at ∙ decode l in
    let both = one_peel (codes "by " ++ kind_word l) a b r s p q
    (ap (λ (j : Kind). by_line (j, a) ++ r) (sym one) ∙ e) in
    (one, both.0, both.1)

-- the letter isn't that of a boundary
pub no_boundary : (k : Kind) → letter k ≡ 111 → ⊥
no_boundary kind.Wire e = omega (arith, e)
no_boundary kind.Via e = omega (arith, e)
no_boundary kind.Pin e = omega (arith, e)
no_boundary kind.Smd e = omega (arith, e)
no_boundary kind.Area e = omega (arith, e)
