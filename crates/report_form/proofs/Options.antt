-- What is said of a value that may be there, from what is said of another; and words at the front of a text.
use Rattle.std.proofs.Common.{◌≡◌, ℕ, Bool, true, false, List, [], ◌∷◌, ◌++◌, length, take, drop, Option}
use Rattle.std.proofs.Common.{Some}
use Rattle.std.proofs.Common.{None, refl, sym, ap, ◌∙◌, MatchOption, subst, nat_eq, Bor, ◌+◌, ◌↔◌}
use Rattle.std.specs.Prelude.{Result, Ok, Err, MatchResult}
use Rattle.std.specs.Cmp.Lexicographic.{pointwise, same_text, other_text}
use Rattle.std.proofs.lemmas.List.{take-append-drop, take_at, append_cancel_left}
use Rattle.ses_writer.specs.Words.{is_bare, spelled}
use Rattle.report_form.specs.Form.{line}
use Rattle.report_form.specs.inner.Fields.{HasField, HasQuoted, HasInner, HasName, HasBare}
use Rattle.report_form.proofs.Fields.{field_ahead, field_behind}
use Rattle.report_form.proofs.Spelled.{spelled_bare, spelled_quoted, name_inner, inner_name, name_bare, bare_name}
use Rattle.report_form.proofs.Printed.{framed, framed_ahead}

-- none is there
pub match_none : {T : Type 0} (o : Option T) (P : Type 0) (Q : T → Type 0) → o ≡ None → P → MatchOption o P Q
match_none o P Q e p = subst (λ (x : Option _). MatchOption x P Q) (sym e) p

pub match_map : {T : Type 0} (o : Option T) (P R : Type 0) (Q S : T → Type 0) → (P → R) → ((x : T) → Q x → S x)
    → MatchOption o P Q → MatchOption o R S
match_map None P R Q S f g h = f h
match_map (Some x) P R Q S f g h = g x h

pub match_both : {T E : Type 0} (o : Result T E) (P R : T → Type 0) (Q : E → Type 0) → ((x : T) → P x → R x)
    → MatchResult o P Q → MatchResult o R Q
match_both (Ok x) P R Q f h = f x h
match_both (Err e) P R Q f h = h

-- ---- a word at the front
pub word_here : (text word : List ℕ) → pointwise nat_eq (take (length word) text) word ≡ true
    → text ≡ word ++ drop (length word) text
word_here text word h =
    sym (take-append-drop (length word) text)
    ∙ ap (λ (x : List ℕ). x ++ drop (length word) text) (same_text (take (length word) text) word (sym h))

pub no_word : (text word r : List ℕ) → pointwise nat_eq (take (length word) text) word ≡ false → text ≡ word ++ r → ⊥
no_word text word r h e =
    other_text (take (length word) text) word (sym h)
    (ap (λ (x : List ℕ). take (length word) x) e ∙ take_at word r (length word) refl)

pub after_says : (text word : List ℕ) (o : Option (Bor (List ℕ)))
    → MatchOption o (pointwise nat_eq (take (length word) text) word ≡ false)
    (λ x. (pointwise nat_eq (take (length word) text) word ≡ true) × (x.now ≡ drop (length word) text)
    × (length x.now + length word ≡ length text))
    → MatchOption o ((r : List ℕ) → text ≡ word ++ r → ⊥) (λ x. text ≡ word ++ x.now)
after_says text word None h = λ r e. no_word text word r h e
after_says text word (Some x) h = word_here text word h.0 ∙ ap (λ (z : List ℕ). word ++ z) (sym h.1)

pub field_says : (text word behind : List ℕ) (o : Option (Bor (List ℕ) × Bor (List ℕ))) → text ≡ word ++ behind
    → MatchOption o ((w r : List ℕ) → HasField [] w r behind → ⊥) (λ x. HasField [] x.0.now x.1.now behind)
    → MatchOption o ((w r : List ℕ) → HasField word w r text → ⊥) (λ x. HasField word x.0.now x.1.now text)
field_says text word behind None e h = λ w r f. h w r (field_ahead word w r behind text e f)
field_says text word behind (Some x) e h = field_behind word x.0.now x.1.now behind text e h

pub quoted_says : (text inner behind name : List ℕ) (o : Option (Bor (List ℕ))) → text ≡ 34 ∷ inner
    → inner ≡ name ++ behind → MatchOption o ((r : List ℕ) → behind ≡ 34 ∷ r → ⊥) (λ r. behind ≡ 34 ∷ r.now)
    → MatchOption o ((r : List ℕ) → HasQuoted name r text → ⊥) (λ r. HasQuoted name r.now text)
quoted_says text inner behind name None e f h = λ r q.
    h r (append_cancel_left name behind (34 ∷ r) (sym f ∙ ap (λ (x : List ℕ). drop 1 x) (sym e ∙ q.is)))
quoted_says text inner behind name (Some x) e f h =
    record { is = e ∙ ap (λ (z : List ℕ). 34 ∷ z) (f ∙ ap (λ (z : List ℕ). name ++ z) h) }

pub bare_says : (text name : List ℕ) (o : Option (Bor (List ℕ))) → is_bare name ≡ true
    → MatchOption o ((r : List ℕ) → text ≡ name ++ r → ⊥) (λ r. text ≡ name ++ r.now)
    → MatchOption o ((r : List ℕ) → text ≡ spelled name ++ r → ⊥) (λ r. text ≡ spelled name ++ r.now)
bare_says text name None b h = λ r e. h r (e ∙ ap (λ (x : List ℕ). x ++ r) (spelled_bare name b))
bare_says text name (Some x) b h = h ∙ ap (λ (z : List ℕ). z ++ x.now) (sym (spelled_bare name b))

pub quotes_say : (text name : List ℕ) (o : Option (Bor (List ℕ))) → is_bare name ≡ false
    → MatchOption o ((r : List ℕ) → HasQuoted name r text → ⊥) (λ r. HasQuoted name r.now text)
    → MatchOption o ((r : List ℕ) → text ≡ spelled name ++ r → ⊥) (λ r. text ≡ spelled name ++ r.now)
quotes_say text name None b h = λ r e. h r (record { is = e ∙ spelled_quoted name r b })
quotes_say text name (Some x) b h = h.is ∙ sym (spelled_quoted name x.now b)

pub inner_says : (text inner : List ℕ) (o : Option (Bor (List ℕ) × Bor (List ℕ))) → text ≡ 34 ∷ inner
    → MatchOption o ((name r : List ℕ) → HasInner name r inner → ⊥) (λ x. HasInner x.0.now x.1.now inner)
    → MatchOption o ((name r : List ℕ) → HasName name r text → ⊥) (λ x. HasName x.0.now x.1.now text)
inner_says text inner None e h = λ name r n. h name r (name_inner inner name r text e n)
inner_says text inner (Some x) e h = inner_name inner x.0.now x.1.now text e h

pub bare_names_say : (text : List ℕ) (o : Option (Bor (List ℕ) × Bor (List ℕ)))
    → ((x : List ℕ) → text ≡ 34 ∷ x → ⊥)
    → MatchOption o ((name r : List ℕ) → HasBare name r text → ⊥) (λ x. HasBare x.0.now x.1.now text)
    → MatchOption o ((name r : List ℕ) → HasName name r text → ⊥) (λ x. HasName x.0.now x.1.now text)
bare_names_say text None e h = λ name r n. h name r (name_bare name r text e n)
bare_names_say text (Some x) e h = bare_name x.0.now x.1.now text h

-- a line round a name
pub framed_says : (text w s b c : List ℕ) (o : Option (Bor (List ℕ))) → text ≡ w ++ b → b ≡ s ++ c
    → MatchOption o ((r : List ℕ) → c ≡ 10 ∷ r → ⊥) (λ r. c ≡ 10 ∷ r.now)
    → MatchOption o ((r : List ℕ) → text ≡ line (w ++ s) ++ r → ⊥) (λ r. text ≡ line (w ++ s) ++ r.now)
framed_says text w s b c None e f h = λ r g.
    h r (append_cancel_left s c (10 ∷ r) (sym f ∙ framed_ahead w s b r text e g))
framed_says text w s b c (Some x) e f h = framed w s b c x.now text e f h

-- names that are compared
pub same_iff : (x y : List ℕ) (b : Bool) → b ≡ pointwise nat_eq x y → (b ≡ true) ↔ (Some y ≡ Some x)
same_iff x y true e = (λ h. ap (λ (z : List ℕ). Some z) (sym (same_text x y e)), λ h. refl)
same_iff x y false e = (λ h. cc, λ h. absurd (other_text x y e (some_is x y (sym h))))
  where
    some_is : (a b : List ℕ) → Some a ≡ Some b → a ≡ b
    some_is a b e = cc
