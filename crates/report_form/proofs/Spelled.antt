-- Names at the front of a text.
use Rattle.std.proofs.Common.{◌≡◌, ◌≢◌, ◌⊎◌, inl, inr, ℕ, zero, suc, ◌<◌, ◌≤◌, ◌==◌, ◌&&◌, not, Bool, true, false}
use Rattle.std.proofs.Common.{List, [], ◌∷◌, ◌++◌, Option, Some, None, length, take, drop, get_or, refl, sym, ap, ◌∙◌}
use Rattle.std.proofs.Common.{subst}
use Rattle.std.proofs.Common.{arith, ne_eqb, nat_eq, nat_lt, ◌||◌}
use Rattle.std.specs.Prelude.{codes, if◌then◌else◌, ◌↔◌}
use Rattle.std.specs.List.{list_all}
use Rattle.std.proofs.lemmas.Bool.{and_parts, and_from, both_ways}
use Rattle.std.proofs.lemmas.List.{append_assoc, append_cancel_left, take-append-drop}
use Rattle.std.proofs.lemmas.List.Elements.{All-head, All-tail, All-nil, All-cons}
use Rattle.pcb_model.specs.Sound.{IsPrintable}
use Rattle.ses_writer.specs.Words.{is_bare, is_bare_byte, spelled}
use Rattle.told_words.specs.Stops.{Stops}
use Rattle.told_words.proofs.Bytes.{cut}
use Rattle.told_words.proofs.Spelling.{spelled_tells}
use Rattle.report_form.specs.Form.{IsName, IsNameBeside, has_mark}
use Rattle.report_form.proofs.Fields.{front_whole}
use Rattle.report_form.specs.inner.Fields.{HasFront, HasName, HasInner, HasBare, HasPin, IsPinAt}

-- ---- with quotes or without
-- a name that needs none
pub spelled_bare : (name : List ℕ) → is_bare name ≡ true → spelled name ≡ name
unfolding spelled
spelled_bare name h = ap (λ (b : Bool). if b then name else codes "\"" ++ name ++ codes "\"") h

-- one that needs them, before others
pub spelled_quoted : (name r : List ℕ) → is_bare name ≡ false → spelled name ++ r ≡ 34 ∷ (name ++ (34 ∷ r))
unfolding spelled
spelled_quoted name r h =
    ap (λ (b : Bool). (if b then name else codes "\"" ++ name ++ codes "\"") ++ r) h
    ∙ ap (λ (x : List ℕ). 34 ∷ x) (append_assoc name (codes "\"") r)

-- ---- bytes
-- those of a bare name need no quotes
pub bare_bytes : (name : List ℕ) → is_bare name ≡ true → list_all is_bare_byte name ≡ true
bare_bytes name h = (and_parts (not (length name == 0)) (list_all is_bare_byte name) h).1

pub bare_some : (name : List ℕ) → is_bare name ≡ true → 0 < length name
bare_some [] h = cc
bare_some (b ∷ bs) h = omega arith

pub bare_from : (name : List ℕ) → 0 < length name → list_all is_bare_byte name ≡ true → is_bare name ≡ true
bare_from [] some h = absurd (omega arith)
bare_from (b ∷ bs) some h =
    and_from (not (length (b ∷ bs) == 0)) (list_all is_bare_byte (b ∷ bs)) (some_bytes (length (b ∷ bs)) some) h
  where
    some_bytes : (n : ℕ) → 0 < n → not (n == 0) ≡ true
    some_bytes n h = grind (arith, h)

-- no quotation mark is among them
bare_printable : (name : List ℕ) → list_all is_bare_byte name ≡ true → IsPrintable name
bare_printable [] h = All-nil (λ (c : ℕ). c ≢ 34)
bare_printable (b ∷ bs) h =
    let both = and_parts (is_bare_byte b) (list_all is_bare_byte bs) h in
    All-cons (λ (c : ℕ). c ≢ 34) b bs (λ e. both_ways (is_bare_byte b) (ap is_bare_byte e) both.0)
    (bare_printable bs both.1)

abbrev pub is_inner : ℕ → Bool
is_inner b = not (b == 34)

pub inner_bytes : (name : List ℕ) → IsPrintable name → list_all is_inner name ≡ true
inner_bytes [] h = refl
inner_bytes (b ∷ bs) h = rw (ne_eqb b 34 (All-head (λ (c : ℕ). c ≢ 34) b bs h))
    (inner_bytes bs (All-tail (λ (c : ℕ). c ≢ 34) b bs h))

pub inner_printable : (name : List ℕ) → list_all is_inner name ≡ true → IsPrintable name
inner_printable [] h = All-nil (λ (c : ℕ). c ≢ 34)
inner_printable (b ∷ bs) h =
    let both = and_parts (is_inner b) (list_all is_inner bs) h in
    All-cons (λ (c : ℕ). c ≢ 34) b bs (λ e. both_ways (is_inner b) (ap is_inner e) both.0) (inner_printable bs both.1)

-- a quotation mark stands behind a front without one
pub mark_before : (name : List ℕ) (n : ℕ) → HasFront is_inner n name → nat_lt n (length name) ≡ has_mark name
mark_before name n f = by n name f.within f.all f.stops
  where
    is_mark : (b : Bool) → not b ≡ false → b ≡ true
    is_mark true h = refl
    is_mark false h = cc

    no_mark : (b : Bool) → not b ≡ true → b ≡ false
    no_mark true h = cc
    no_mark false h = refl

    by : (n : ℕ) (name : List ℕ) → n ≤ length name → list_all is_inner (take n name) ≡ true
        → Stops is_inner (drop n name) → nat_lt n (length name) ≡ has_mark name
    by n [] less all stop = grind (arith, less)
    by zero (b ∷ bs) less all stop =
        let some : nat_lt 0 (length (b ∷ bs)) ≡ true = grind arith in
        some ∙ sym (ap (λ (x : Bool). x || has_mark bs) (is_mark (b == 34) stop))
    by (suc n) (b ∷ bs) less all stop =
        let both = and_parts (is_inner b) (list_all is_inner (take n bs)) all in
        let shift : nat_lt (suc n) (length (b ∷ bs)) ≡ nat_lt n (length bs) = grind arith in
        shift ∙ by n bs (omega (arith, less)) both.1 stop
        ∙ sym (ap (λ (x : Bool). x || has_mark bs) (no_mark (b == 34) both.0))

-- a name of bare bytes alone
pub bare_whole : (name : List ℕ) (n : ℕ) → HasFront is_bare_byte n name → (length name == 0) ≡ false
    → nat_eq n (length name) ≡ is_bare name
bare_whole name n f some = front_whole is_bare_byte n name f
    ∙ sym (ap (λ (b : Bool). not b && list_all is_bare_byte name) some)

-- ---- bare names
pub bare_one : (text name r : List ℕ) (count : ℕ) → HasFront is_bare_byte count text → HasBare name r text
    → (take count text ≡ name) × (drop count text ≡ r)
bare_one text name r count f h =
    cut is_bare_byte (take count text) name (drop count text) r f.all (bare_bytes name h.bare) f.stops h.stops
    (take-append-drop count text ∙ h.is)

pub bare_here : (text : List ℕ) (count : ℕ) → HasFront is_bare_byte count text → 0 < length (take count text)
    → HasBare (take count text) (drop count text) text
bare_here text count f some =
    record { bare = bare_from (take count text) some f.all; stops = f.stops; is = sym (take-append-drop count text) }

pub bare_name : (name r text : List ℕ) → HasBare name r text → HasName name r text
bare_name name r text h = record {
  printable = bare_printable name (bare_bytes name h.bare);
  stops = h.stops;
  is = h.is ∙ ap (λ (x : List ℕ). x ++ r) (sym (spelled_bare name h.bare));
}

pub no_bare : (text name r : List ℕ) (count : ℕ) → HasFront is_bare_byte count text → count ≡ 0 → HasBare name r text
    → ⊥
no_bare text name r count f e h =
    let some = bare_some name h.bare in
    let same : [] ≡ name = ap (λ (k : ℕ). take k text) (sym e) ∙ (bare_one text name r count f h).0 in
    let none : 0 ≡ length name = ap length same in omega (arith, some, none)

-- ---- names between quotation marks
pub inner_here : (inner name behind rest : List ℕ) (count : ℕ) → HasFront is_inner count inner
    → name ≡ take count inner → behind ≡ drop count inner → behind ≡ 34 ∷ rest → is_bare name ≡ false
    → Stops is_bare_byte rest → HasInner name rest inner
inner_here inner name behind rest count f a b e no_bare stops = record {
  printable = inner_printable name (ap (λ (x : List ℕ). list_all is_inner x) a ∙ f.all);
  no_bare = no_bare;
  stops = stops;
  is = sym (take-append-drop count inner) ∙ (λ i. sym a i ++ (sym b ∙ e) i);
}

pub inner_one : (inner name r : List ℕ) (count : ℕ) → HasFront is_inner count inner → HasInner name r inner
    → (take count inner ≡ name) × (drop count inner ≡ 34 ∷ r)
inner_one inner name r count f h =
    cut is_inner (take count inner) name (drop count inner) (34 ∷ r) f.all (inner_bytes name h.printable) f.stops refl
    (take-append-drop count inner ∙ h.is)

pub inner_name : (inner name r text : List ℕ) → text ≡ 34 ∷ inner → HasInner name r inner → HasName name r text
inner_name inner name r text e h = record {
  printable = h.printable;
  stops = h.stops;
  is = e ∙ ap (λ (x : List ℕ). 34 ∷ x) h.is ∙ sym (spelled_quoted name r h.no_bare);
}

-- ---- either
-- a name with its quotation marks, or without
pub name_cases : (name r text : List ℕ) → HasName name r text
    → HasBare name r text ⊎ ((is_bare name ≡ false) × (text ≡ 34 ∷ (name ++ (34 ∷ r))))
name_cases name r text h = by (is_bare name) refl
  where
    by : (b : Bool) → is_bare name ≡ b
        → HasBare name r text ⊎ ((is_bare name ≡ false) × (text ≡ 34 ∷ (name ++ (34 ∷ r))))
    by true e = inl (record {
      bare = e;
      stops = h.stops;
      is = h.is ∙ ap (λ (x : List ℕ). x ++ r) (spelled_bare name e);
    })
    by false e = inr (e, h.is ∙ spelled_quoted name r e)

-- behind a first quotation mark it is one that needs them
pub name_inner : (inner name r text : List ℕ) → text ≡ 34 ∷ inner → HasName name r text → HasInner name r inner
name_inner inner name r text e h = by (name_cases name r text h)
  where
    by : HasBare name r text ⊎ ((is_bare name ≡ false) × (text ≡ 34 ∷ (name ++ (34 ∷ r)))) → HasInner name r inner
    by (inl b) = absurd (clash name b.bare (sym b.is ∙ e))
      where
        clash : (name : List ℕ) → is_bare name ≡ true → name ++ r ≡ 34 ∷ inner → ⊥
        clash [] h e = cc
        clash (c ∷ cs) h e = both_ways (is_bare_byte c)
            (ap is_bare_byte (ap (λ (xs : List ℕ). get_or xs 0 0) e))
            (and_parts (is_bare_byte c) (list_all is_bare_byte cs) (bare_bytes (c ∷ cs) h)).0
    by (inr q) = record {
      printable = h.printable;
      no_bare = q.0;
      stops = h.stops;
      is = ap (λ (x : List ℕ). drop 1 x) (sym e ∙ q.1);
    }

-- without one it is bare
pub name_bare : (name r text : List ℕ) → ((x : List ℕ) → text ≡ 34 ∷ x → ⊥) → HasName name r text
    → HasBare name r text
name_bare name r text none h = by (name_cases name r text h)
  where
    by : HasBare name r text ⊎ ((is_bare name ≡ false) × (text ≡ 34 ∷ (name ++ (34 ∷ r)))) → HasBare name r text
    by (inl b) = b
    by (inr q) = absurd (none (name ++ (34 ∷ r)) q.1)

-- ---- names behind `cut`
pub pin_of_name : (first : Option (List ℕ)) (name r text : List ℕ) → IsName first name → HasName name r text
    → HasPin first name r text
pin_of_name first name r text n h = record { name = n; stops = h.stops; is = h.is }

-- where any name may stand
abbrev pub IsFree : Option (List ℕ) → Type 0
IsFree None = Unit {0}
IsFree (Some first) = has_mark first ≡ false

free_is : (first : Option (List ℕ)) (name : List ℕ) → IsFree first → IsName first name → IsPrintable name
free_is None name f n = n
free_is (Some first) name f n = subst (λ (b : Bool). IsNameBeside b first name) f n

is_free : (first : Option (List ℕ)) (name : List ℕ) → IsFree first → IsPrintable name → IsName first name
is_free None name f n = n
is_free (Some first) name f n = subst (λ (b : Bool). IsNameBeside b first name) (sym f) n

pub free_name : (first : Option (List ℕ)) (name r text : List ℕ) → IsFree first → HasPin first name r text
    → HasName name r text
free_name first name r text f h =
    record { printable = free_is first name f h.name; stops = h.stops; is = h.is }

pub free_pin : (first : Option (List ℕ)) (named : Bool) (name r text : List ℕ) → IsFree first → HasName name r text
    → (named ≡ true) ↔ (first ≡ Some name) → IsPinAt first named r text
free_pin first named name r text f h same = record {
  pin = name;
  name = is_free first name f h.printable;
  is = h.is;
  only = λ other x o. spelled_tells name other r x h.printable (free_is first other f o.name) h.stops o.stops
      (sym h.is ∙ o.is);
  named_is = same;
}

-- a name where there is no first pin
pub unnamed : (name r text : List ℕ) → HasName name r text → IsPinAt None false r text
unnamed name r text h = free_pin None false name r text tt h (λ e. cc, λ e. cc)

-- where the first pin's own must stand
pub marked_is : (first name : List ℕ) → has_mark first ≡ true → IsName (Some first) name → name ≡ first
marked_is first name m n = subst (λ (b : Bool). IsNameBeside b first name) m n

pub marked_pin : (first r text : List ℕ) → has_mark first ≡ true → text ≡ spelled first ++ r
    → IsPinAt (Some first) true r text
marked_pin first r text m e = record {
  pin = first;
  name = subst (λ (b : Bool). IsNameBeside b first first) (sym m) refl;
  is = e;
  only = λ other x o. let same = marked_is first other m o.name in (
    sym same,
    append_cancel_left (spelled first) r x (sym e ∙ o.is ∙ ap (λ (z : List ℕ). spelled z ++ x) same),
  );
  named_is = (λ h. refl, λ h. refl);
}
