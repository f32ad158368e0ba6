-- What `clap` holds after words that fit: a row for each part, in order.
use Rattle.std.proofs.Common.{◌≡◌, ◌∙◌, ◌+◌, ◌&&◌, ◌||◌, ℕ, Bool, true, false, not, refl, sym, ap, subst, arith}
use Rattle.std.proofs.Common.{true≢false}
use Rattle.std.proofs.Common.{List, [], ◌∷◌, ◌++◌, map, fold, Option, Some, None, if◌then◌else◌, nat_lt, codes}
use Rattle.std.proofs.Common.{append_assoc}
use Rattle.std.proofs.lemmas.List.{append-nil}
use Rattle.clap.specs.Walk.{Row, Rule, Walk, idle, option, arg_by_index, has_row, is_pending, pushed, reading_by}
use Rattle.clap.specs.Walk.{settled, settled_rows, to_positional, used, walked}
use Rattle.route_words.specs.Parts.{Form, Look, Part, Word, dashes, fit_from, has, long, look_of, option_parts}
use Rattle.route_words.specs.Parts.{other, parts_by, parts_from, plain, stray}
use Rattle.route_words.specs.Parts.{name as name_part, option as option_part}
use Rattle.route_words.proofs.Bools.{and_left, and_right}
use Rattle.route_words.proofs.Looking.{Looks, looks}
use Rattle.route_words.proofs.Reading.{lt_itself, not_true, parts_when}
use Rattle.route_words.proofs.Rows.{Stands, added, flag_stands, name_stands, pending_name, pending_value, row_with}
use Rattle.route_words.proofs.Rows.{value_stands}
use Rattle.route_words.proofs.Walking.{F, P, Pending, Serves, V, at, found, held, same_bytes}

-- the rows at the end of a walk
abbrev pub ends : List Rule → Walk → List Word → List Row
ends c w words = (settled c (fold (walked c []) w words).held).rows

module _ (f : Form) (c : List Rule) (serves : Serves f c) where
  -- the row of a part, where so many names stand before it
  abbrev pub row_for : ℕ → Word → Row
  row_for n t = row_with (serves.id n) (reading_by (P (serves.id n) (n + 1))) (t ∷ [])

  abbrev pub laid : ℕ → List Part → List Row
  laid n [] = []
  laid n (name_part t ∷ parts) = row_for n t ∷ laid (n + 1) parts
  laid n (option_part x (Some v) ∷ parts) = row_with x (reading_by (V x)) (v ∷ []) ∷ laid n parts
  laid n (option_part x None ∷ parts) = row_with x (reading_by (F x)) (codes "true" ∷ []) ∷ laid n parts
  laid n (stray ∷ parts) = laid n parts

  -- ---- steps
  taken : (rows : List Row) (pending : Pending) (n : ℕ) (word : Word) (position : ℕ) (q t : Bool) → position ≡ n + 2
      → record {
        held = pushed (serves.id n) word (if q && false then held f c serves rows pending else settled c
            (held f c serves rows pending));
        waiting = idle;
        position = position;
        is_trailing = t || false;
        stopped = None;
      } ≡ at (settled_rows c pending rows) (Some (serves.id n, word ∷ [])) idle (n + 2) t
  taken rows pending n word position true true is = rw is refl
  taken rows pending n word position true false is = rw is refl
  taken rows pending n word position false true is = rw is refl
  taken rows pending n word position false false is = rw is refl

  to_name : (rows : List Row) (pending : Pending) (n : ℕ) (word : Word) (t : Bool) → nat_lt n f.names ≡ true
      → to_positional c (arg_by_index c (n + 1)) word (at rows pending idle (n + 1) t) (held f c serves rows pending)
      ≡ at (settled_rows c pending rows) (Some (serves.id n, word ∷ [])) idle (n + 2) t
  to_name rows pending n word t e =
      let found : arg_by_index c (n + 1) ≡ Some (P (serves.id n) (n + 1)) =
      serves.by_index n ∙ ap (λ (b : Bool). if b then Some (P (serves.id n) (n + 1)) else None) e in
      rw found (taken rows pending n word _ (is_pending (P (serves.id n) (n + 1)) pending) t (serves.next n e))

  trailing_step : (rows : List Row) (pending : Pending) (n : ℕ) (word : Word) → nat_lt n f.names ≡ true
      → walked c [] (at rows pending idle (n + 1) true) word
      ≡ at (settled_rows c pending rows) (Some (serves.id n, word ∷ [])) idle (n + 2) true
  unfolding walked
  trailing_step rows pending n word e = to_name rows pending n word true e

  plain_step : (rows : List Row) (pending : Pending) (n : ℕ) (word : Word) → Looks word plain → nat_lt n f.names ≡ true
      → walked c [] (at rows pending idle (n + 1) false) word
      ≡ at (settled_rows c pending rows) (Some (serves.id n, word ∷ [])) idle (n + 2) false
  unfolding walked
  plain_step rows pending n word look e = rw (look.0, look.1, look.2) (to_name rows pending n word false e)

  dashes_step : (rows : List Row) (pending : Pending) (n : ℕ) (word : Word) → Looks word dashes
      → walked c [] (at rows pending idle (n + 1) false) word ≡ at rows pending idle (n + 1) true
  unfolding walked
  dashes_step rows pending n word look = rw look refl

  with_value_step : (rows : List Row) (pending : Pending) (n : ℕ) (word x v : Word) → Looks word (long x (Some v))
      → has f.valued x ≡ true
      → walked c [] (at rows pending idle (n + 1) false) word ≡ at (used (V x) (v ∷ []) (settled_rows c pending rows))
      None idle (n + 1) false
  unfolding walked
  with_value_step rows pending n word x v look a = rw (look.0, look.1, found f c serves x true (has f.flags x) a refl)
      refl

  option_step : (rows : List Row) (pending : Pending) (n : ℕ) (word x : Word) → Looks word (long x None)
      → has f.valued x ≡ true
      → walked c [] (at rows pending idle (n + 1) false) word ≡ at (settled_rows c pending rows) (Some (x, []))
      (option x) (n + 1) false
  unfolding walked
  option_step rows pending n word x look a = rw (look.0, look.1, found f c serves x true (has f.flags x) a refl) refl

  flag_step : (rows : List Row) (pending : Pending) (n : ℕ) (word x : Word) → Looks word (long x None) → has f.valued x
      ≡ false → has f.flags x ≡ true
      → walked c [] (at rows pending idle (n + 1) false) word ≡ at (used (F x) [] (settled_rows c pending rows)) None
      idle (n + 1) false
  unfolding walked
  flag_step rows pending n word x look a b = rw (look.0, look.1, found f c serves x false true a b) refl

  value_step : (rows : List Row) (n : ℕ) (x word : Word) → has f.valued x ≡ true → Looks word plain
      → walked c [] (at rows (Some (x, [])) (option x) (n + 1) false) word ≡ at rows (Some (x, word ∷ [])) idle (n + 1)
      false
  unfolding walked
  value_step rows n x word known look = rw (look.0, look.1, look.2, serves.by_id x known, same_bytes x) refl

  -- ---- the walk over words that fit
  pub record Lays (words : List Word) : Type 0 where
    pub ready : (rows : List Row) (pending : Pending) (seen : List Word) (n : ℕ) (t : Bool)
        → Stands f c serves (settled_rows c pending rows) seen n
        → fit_from f seen n (parts_when f c serves t words) ≡ true
        → ends c (at rows pending idle (n + 1) t) words ≡ settled_rows c pending rows
        ++ laid n (parts_when f c serves t words)
    pub waits : (rows : List Row) (x : Word) (seen : List Word) (n : ℕ) → has f.valued x ≡ true
        → Stands f c serves rows seen n
        → fit_from f seen n (parts_from f (Some x) words) ≡ true
        → ends c (at rows (Some (x, [])) (option x) (n + 1) false) words ≡ rows ++ laid n (parts_from f (Some x) words)

  -- a name is laid at the end
  name_lays : (words : List Word) → Lays words → (rows : List Row) (seen : List Word) (n : ℕ) (t : Bool) (word : Word)
      → Stands f c serves rows seen n → nat_lt n f.names ≡ true
      → fit_from f seen (n + 1) (parts_when f c serves t words) ≡ true
      → ends c (at rows (Some (serves.id n, word ∷ [])) idle (n + 2) t) words
      ≡ rows ++ row_for n word ∷ laid (n + 1) (parts_when f c serves t words)
  name_lays words r rows seen n t word s below fits =
      let fresh : has_row (serves.id n) rows ≡ false = s.names n below ∙ lt_itself n in
      let lies : settled_rows c (Some (serves.id n, word ∷ [])) rows ≡ rows ++ row_for n word ∷ [] =
      pending_name f c serves rows n word below ∙ added (serves.id n) _ (word ∷ []) rows fresh in
      let rest = r.ready rows (Some (serves.id n, word ∷ [])) seen (n + 1) t (name_stands f c serves rows seen n word s
      below fresh) fits in
      let place : n + 1 + 1 ≡ n + 2 = omega arith in
      subst (λ i. ends c (at rows (Some (serves.id n, word ∷ [])) idle i t) words ≡ rows
      ++ row_for n word ∷ laid (n + 1) (parts_when f c serves t words)) place
      (rest ∙ ap (λ (rs : List Row). rs ++ laid (n + 1) (parts_when f c serves t words)) lies
      ∙ append_assoc rows (row_for n word ∷ []) (laid (n + 1) (parts_when f c serves t words)))

  -- so is an option that was used
  used_lays : (words : List Word) → Lays words → (rows new : List Row) (row : Row) (x : Word) (seen : List Word) (n : ℕ)
      → new ≡ rows ++ row ∷ [] → Stands f c serves new (x ∷ seen) n → fit_from f (x ∷ seen) n (parts_from f None words)
      ≡ true
      → ends c (at new None idle (n + 1) false) words ≡ rows ++ row ∷ laid n (parts_from f None words)
  used_lays words r rows new row x seen n is s fits =
      r.ready new None (x ∷ seen) n false s fits ∙ ap (λ (rs : List Row). rs ++ laid n (parts_from f None words)) is
      ∙ append_assoc rows (row ∷ []) (laid n (parts_from f None words))

  fresh_option : (rows : List Row) (seen : List Word) (n : ℕ) (x : Word) → Stands f c serves rows seen n
      → (has f.valued x || has f.flags x) ≡ true
      → not (has seen x) ≡ true → has_row x rows ≡ false
  fresh_option rows seen n x s mine new = s.options x mine ∙ not_true (has seen x) new

  long_lays : (word : Word) (words : List Word) → Lays words → (rows : List Row) (pending : Pending) (seen : List Word)
      (n : ℕ) (x : Word) (v : Option Word)
      → Looks word (long x v) → Stands f c serves (settled_rows c pending rows) seen n → (a : Bool) → has f.valued x ≡ a
      → fit_from f seen n (option_parts f x v (λ w. parts_from f w words)) ≡ true
      → ends c (at rows pending idle (n + 1) false) (word ∷ words) ≡ settled_rows c pending rows
      ++ laid n (option_parts f x v (λ w. parts_from f w words))
  long_lays word words r rows pending seen n x (Some v) look s true a fits =
      let settled_are = settled_rows c pending rows in
      let new = and_left _ _ (and_right (has f.valued x) _ fits) in
      let fresh = fresh_option settled_are seen n x s (rw a refl) new in
      ap (λ (w : Walk). ends c w words) (with_value_step rows pending n word x v look a)
      ∙ used_lays words r settled_are _ _ x seen n (added x _ (v ∷ []) settled_are fresh)
      (value_stands f c serves settled_are seen n x v s a fresh)
      (and_right (not (has seen x)) _ (and_right (has f.valued x) _ fits))
  long_lays word words r rows pending seen n x (Some v) look s false a fits =
      absurd (true≢false (sym (and_left _ _ fits) ∙ a))
  long_lays word words r rows pending seen n x None look s true a fits =
      ap (λ (w : Walk). ends c w words) (option_step rows pending n word x look a)
      ∙ rw a (r.waits (settled_rows c pending rows) x seen n a s (rw a at fits))
  long_lays word words r rows pending seen n x None look s false a fits =
      let settled_are = settled_rows c pending rows in
      let fits_are = rw a at fits in
      let flags = and_left _ _ (and_left _ _ fits_are) in
      let new = and_left _ _ (and_right _ _ fits_are) in
      let fresh = fresh_option settled_are seen n x s (rw (a, flags) refl) new in
      ap (λ (w : Walk). ends c w words) (flag_step rows pending n word x look a flags)
      ∙ rw a (used_lays words r settled_are _ _ x seen n (added x _ _ settled_are fresh)
      (flag_stands f c serves settled_are seen n x s flags fresh)
      (and_right _ _ (and_right _ _ fits_are)))

  by_look : (word : Word) (words : List Word) → Lays words → (l : Look) → Looks word l
      → (rows : List Row) (pending : Pending) (seen : List Word) (n : ℕ)
      → Stands f c serves (settled_rows c pending rows) seen n
      → fit_from f seen n (parts_by f None word l (map name_part words) (λ w. parts_from f w words)) ≡ true
      → ends c (at rows pending idle (n + 1) false) (word ∷ words)
      ≡ settled_rows c pending rows ++ laid n (parts_by f None word l (map name_part words) (λ w. parts_from f w words))
  by_look word words r dashes look rows pending seen n s fits =
      ap (λ (w : Walk). ends c w words) (dashes_step rows pending n word look) ∙ r.ready rows pending seen n true s fits
  by_look word words r (long x v) look rows pending seen n s fits = long_lays word words r rows pending seen n x v look
      s (has f.valued x) refl fits
  by_look word words r other look rows pending seen n s fits = absurd (true≢false (sym fits))
  by_look word words r plain look rows pending seen n s fits =
      let below = and_left _ _ fits in
      ap (λ (w : Walk). ends c w words) (plain_step rows pending n word look below)
      ∙ name_lays words r (settled_rows c pending rows) seen n false word s below (and_right _ _ fits)

  -- an option that takes a value isn't right without one
  in_vain : (x : Word) (seen : List Word) (n : ℕ) (parts : List Part) → has f.valued x ≡ true
      → fit_from f seen n (option_part x None ∷ parts) ≡ true → ⊥
  in_vain x seen n parts known fits =
      let free : not (has f.valued x) ≡ true = and_right (has f.flags x) _ (and_left _ _ fits) in
      true≢false (sym free ∙ ap not known)

  by_look_waiting : (word : Word) (words : List Word) → Lays words → (l : Look) → Looks word l
      → (rows : List Row) (x : Word) (seen : List Word) (n : ℕ)
      → has f.valued x ≡ true → Stands f c serves rows seen n
      → fit_from f seen n (parts_by f (Some x) word l (map name_part words) (λ w. parts_from f w words)) ≡ true
      → ends c (at rows (Some (x, [])) (option x) (n + 1) false) (word ∷ words)
      ≡ rows ++ laid n (parts_by f (Some x) word l (map name_part words) (λ w. parts_from f w words))
  by_look_waiting word words r dashes look rows x seen n known s fits = absurd (in_vain x seen n _ known fits)
  by_look_waiting word words r (long y v) look rows x seen n known s fits = absurd (in_vain x seen n _ known fits)
  by_look_waiting word words r other look rows x seen n known s fits =
      absurd (in_vain x seen n (stray ∷ parts_from f None words) known fits)
  by_look_waiting word words r plain look rows x seen n known s fits =
      let new = and_left _ _ (and_right (has f.valued x) _ fits) in
      let fresh = fresh_option rows seen n x s (rw known refl) new in
      let lies : settled_rows c (Some (x, word ∷ [])) rows ≡ rows ++ row_with x (reading_by (V x)) (word ∷ []) ∷ [] =
      pending_value f c serves rows x word known ∙ added x _ (word ∷ []) rows fresh in
      let stands = subst (λ (rs : List Row). Stands f c serves rs (x ∷ seen) n)
      (sym (pending_value f c serves rows x word known))
      (value_stands f c serves rows seen n x word s known fresh) in
      ap (λ (w : Walk). ends c w words) (value_step rows n x word known look)
      ∙ r.ready rows (Some (x, word ∷ [])) (x ∷ seen) n false stands (and_right (not (has seen x)) _
      (and_right (has f.valued x) _ fits))
      ∙ ap (λ (rs : List Row). rs ++ laid n (parts_from f None words)) lies
      ∙ append_assoc rows (row_with x (reading_by (V x)) (word ∷ []) ∷ []) (laid n (parts_from f None words))

  -- whatever words fit
  pub lays : (words : List Word) → Lays words
  lays [] = record {
    ready = λ rows pending seen n t s fits. at_end t (settled_rows c pending rows) n;
    waits = λ rows x seen n known s fits. absurd (in_vain x seen n [] known fits);
  }
    where
      at_end : (t : Bool) (rows : List Row) (n : ℕ) → rows ≡ rows ++ laid n (parts_when f c serves t [])
      at_end true rows n = sym (append-nil rows)
      at_end false rows n = sym (append-nil rows)
  lays (word ∷ words) =
      let r = lays words in
      record {
        ready = λ rows pending seen n t s fits. when r t rows pending seen n s fits;
        waits = λ rows x seen n known s fits. by_look_waiting word words r (look_of word) (looks word) rows x seen n
            known s fits;
      }
    where
      when : Lays words → (t : Bool) (rows : List Row) (pending : Pending) (seen : List Word) (n : ℕ)
          → Stands f c serves (settled_rows c pending rows) seen n
          → fit_from f seen n (parts_when f c serves t (word ∷ words)) ≡ true
          → ends c (at rows pending idle (n + 1) t) (word ∷ words) ≡ settled_rows c pending rows
          ++ laid n (parts_when f c serves t (word ∷ words))
      when r true rows pending seen n s fits =
          let below = and_left _ _ fits in
          ap (λ (w : Walk). ends c w words) (trailing_step rows pending n word below)
          ∙ name_lays words r (settled_rows c pending rows) seen n true word s below (and_right _ _ fits)
      when r false rows pending seen n s fits = by_look word words r (look_of word) (looks word) rows pending seen n s
          fits
