-- `clap` takes the words exactly where their parts fit the form.
use Rattle.std.proofs.Common.{◌≡◌, ◌∙◌, ◌+◌, ◌&&◌, ℕ, Bool, true, false, not, refl, sym, ap, subst, arith, List, []}
use Rattle.std.proofs.Common.{◌∷◌, map, Option, Some, None, if◌then◌else◌, nat_lt, true≢false}
use Rattle.std.proofs.lemmas.Bool.{ltb-true}
use Rattle.clap.specs.Walk.{Row, Rule, Waiting, idle, option, arg_by_index, has_row, is_pending, settled_rows}
use Rattle.clap.specs.Walk.{to_positional, used, value, walked}
use Rattle.clap.specs.Faults.{settle_fault, step_fault, use_fault}
use Rattle.route_words.specs.Parts.{Form, Look, Part, Word, dashes, fit_from, has, long, look_of, option_parts, other}
use Rattle.route_words.specs.Parts.{parts_by, parts_from, plain, stray}
use Rattle.route_words.specs.Parts.{name as name_part, option as option_part}
use Rattle.route_words.proofs.Bools.{and_false, and_true}
use Rattle.route_words.proofs.Looking.{Looks, looks}
use Rattle.route_words.proofs.Rows.{Stands, flag_clear, flag_stands, name_debt, name_stands, no_value_debt}
use Rattle.route_words.proofs.Rows.{pending_value, valued_clear, value_debt, value_stands}
use Rattle.route_words.proofs.Walking.{F, IsSpelt, P, Pending, Serves, V, at, clear, dashes_word, debt, goes_on, held}
use Rattle.route_words.proofs.Walking.{long_goes, long_step, other_step, plain_word, run, run_ends, run_steps}
use Rattle.route_words.proofs.Walking.{shape_with, trailing_word, value_step}

abbrev pub AreSpelt : List Word → Type 0
AreSpelt [] = Unit {0}
AreSpelt (w ∷ ws) = IsSpelt w × AreSpelt ws

pub not_true : (b : Bool) → not b ≡ true → b ≡ false
not_true true e = absurd (true≢false (sym e))
not_true false e = refl

pub lt_itself : (n : ℕ) → nat_lt n n ≡ false
lt_itself n = by (nat_lt n n) refl
  where
    by : (b : Bool) → nat_lt n n ≡ b → nat_lt n n ≡ false
    by true e = absurd (omega (arith, ltb-true n n e))
    by false e = e

module _ (f : Form) (c : List Rule) (serves : Serves f c) where
  abbrev pub parts_when : Bool → List Word → List Part
  parts_when true words = map name_part words
  parts_when false words = parts_from f None words

  pub record Reads (words : List Word) : Type 0 where
    pub ready : (rows : List Row) (pending : Pending) (seen : List Word) (n : ℕ) (t : Bool)
        → (debt c pending rows ≡ true → Stands f c serves (settled_rows c pending rows) seen n)
        → run c (at rows pending idle (n + 1) t) words ≡ (debt c pending rows && fit_from f seen n (parts_when t words))
    pub waits : (rows : List Row) (x : Word) (seen : List Word) (n : ℕ) → has f.valued x ≡ true
        → Stands f c serves rows seen n
        → run c (at rows (Some (x, [])) (option x) (n + 1) false) words
        ≡ fit_from f seen n (parts_from f (Some x) words)
    pub dead : (rows : List Row) (pending : Pending) (waiting : Waiting) (n : ℕ) → debt c pending rows ≡ false
        → run c (at rows pending waiting (n + 1) true) words ≡ false

  -- an option that takes a value and has none isn't right
  in_vain : (x : Word) (seen : List Word) (n : ℕ) (parts : List Part) → has f.valued x ≡ true
      → fit_from f seen n (option_part x None ∷ parts) ≡ false
  in_vain x seen n parts known = rw (known, and_false (has f.flags x)) refl

  -- a name, or a word behind two hyphens
  name_goes : (words : List Word) → Reads words → (rows : List Row) (pending : Pending) (seen : List Word) (n : ℕ)
      (t : Bool) (word : Word)
      → (debt c pending rows ≡ true → Stands f c serves (settled_rows c pending rows) seen n)
      → goes_on f c serves rows pending n t word words
      ≡ (debt c pending rows && (nat_lt n f.names && fit_from f seen (n + 1) (parts_when t words)))
  name_goes words r rows pending seen n t word stands = by (nat_lt n f.names) refl (debt c pending rows) refl
    where
      by : (b : Bool) → nat_lt n f.names ≡ b → (d : Bool) → debt c pending rows ≡ d
          → (if b then d && run c (at (settled_rows c pending rows) (Some (serves.id n, word ∷ [])) idle (n + 2) t)
          words else false) ≡ (d && (b && fit_from f seen (n + 1) (parts_when t words)))
      by false e d de = sym (and_false d)
      by true e false de = refl
      by true e true de =
          let s = stands de in
          let fresh : has_row (serves.id n) (settled_rows c pending rows) ≡ false = s.names n e ∙ lt_itself n in
          let owes : debt c (Some (serves.id n, word ∷ [])) (settled_rows c pending rows) ≡ true =
          name_debt f c serves n word (settled_rows c pending rows) e ∙ ap not fresh in
          let next = r.ready (settled_rows c pending rows) (Some (serves.id n, word ∷ [])) seen (n + 1) t
          (λ _. name_stands f c serves (settled_rows c pending rows) seen n word s e fresh) in
          subst (λ i. run c (at (settled_rows c pending rows) (Some (serves.id n, word ∷ [])) idle i t) words
          ≡ fit_from f seen (n + 1) (parts_when t words)) (omega arith)
          (next ∙ ap (λ (x : Bool). x && fit_from f seen (n + 1) (parts_when t words)) owes)

  -- an option with its value, or a flag
  used_goes : (words : List Word) → Reads words → (rows : List Row) (x : Word) (seen : List Word) (n : ℕ) (a : Rule)
      (vs : List Word) → clear (use_fault false a vs rows) ≡ not (has_row x rows)
      → has_row x rows ≡ has seen x → (has_row x rows ≡ false → Stands f c serves (used a vs rows) (x ∷ seen) n)
      → (clear (use_fault false a vs rows) && run c (at (used a vs rows) None idle (n + 1) false) words)
      ≡ (not (has seen x) && fit_from f (x ∷ seen) n (parts_from f None words))
  used_goes words r rows x seen n a vs clears same stands = by (has seen x) same
    where
      by : (h : Bool) → has_row x rows ≡ h → (clear (use_fault false a vs rows)
          && run c (at (used a vs rows) None idle (n + 1) false) words)
          ≡ (not h && fit_from f (x ∷ seen) n (parts_from f None words))
      by true e = ap (λ (b : Bool). b && run c (at (used a vs rows) None idle (n + 1) false) words) (clears ∙ ap not e)
      by false e = ap (λ (b : Bool). b && run c (at (used a vs rows) None idle (n + 1) false) words) (clears ∙ ap not e)
          ∙ r.ready (used a vs rows) None (x ∷ seen) n false (λ _. stands e)

  -- `--x` or `--x=v`, where nothing waits
  long_ready : (words : List Word) → Reads words → (rows : List Row) (pending : Pending) (seen : List Word) (n : ℕ)
      (x : Word) (v : Option Word)
      → (debt c pending rows ≡ true → Stands f c serves (settled_rows c pending rows) seen n) → (d : Bool)
      → debt c pending rows ≡ d → (a : Bool) → has f.valued x ≡ a → (b : Bool) → has f.flags x ≡ b
      → long_goes f c serves rows pending idle n x v words
      ≡ (d && fit_from f seen n (option_parts f x v (λ w. parts_from f w words)))
  long_ready words r rows pending seen n x (Some t) stands d de false ae b be = rw (ae) (sym (and_false d))
  long_ready words r rows pending seen n x (Some t) stands false de true ae b be = rw (ae, de) refl
  long_ready words r rows pending seen n x (Some t) stands true de true ae b be =
      let s = stands de in
      rw (ae, de) (used_goes words r (settled_rows c pending rows) x seen n (V x) (t ∷ [])
      (valued_clear f c serves x t (settled_rows c pending rows)) (s.options x (rw ae refl))
      (λ none. value_stands f c serves (settled_rows c pending rows) seen n x t s ae none))
  long_ready words r rows pending seen n x None stands false de true ae b be = rw (ae, de) refl
  long_ready words r rows pending seen n x None stands true de true ae b be =
      rw (ae, de) (r.waits (settled_rows c pending rows) x seen n ae (stands de))
  long_ready words r rows pending seen n x None stands d de false ae false be = rw (ae, be) (sym (and_false d))
  long_ready words r rows pending seen n x None stands false de false ae true be = rw (ae, be, de) refl
  long_ready words r rows pending seen n x None stands true de false ae true be =
      let s = stands de in
      rw (ae, be, de, ae) (used_goes words r (settled_rows c pending rows) x seen n (F x) []
      (flag_clear f c serves x (settled_rows c pending rows)) (s.options x (rw (ae, be) refl))
      (λ none. flag_stands f c serves (settled_rows c pending rows) seen n x s be none))

  -- the same, where what is pending doesn't pass
  long_dead : (words : List Word) (rows : List Row) (pending : Pending) (waiting : Waiting) (n : ℕ) (x : Word)
      (v : Option Word) → debt c pending rows ≡ false → (a : Bool) → has f.valued x ≡ a → (b : Bool) → has f.flags x ≡ b
      → long_goes f c serves rows pending waiting n x v words ≡ false
  long_dead words rows pending waiting n x (Some t) de true ae b be = rw (ae, de) refl
  long_dead words rows pending waiting n x (Some t) de false ae b be = rw ae refl
  long_dead words rows pending waiting n x None de true ae b be = rw (ae, de) refl
  long_dead words rows pending waiting n x None de false ae true be = rw (ae, be, de) refl
  long_dead words rows pending waiting n x None de false ae false be = rw (ae, be) refl

  -- a name behind two hyphens, where what is pending doesn't pass
  trailing_dead : (words : List Word) (rows : List Row) (pending : Pending) (waiting : Waiting) (n : ℕ) (word : Word)
      → debt c pending rows ≡ false
      → run c (at rows pending waiting (n + 1) true) (word ∷ words) ≡ false
  unfolding walked
  trailing_dead words rows pending waiting n word de = run_steps c (at rows pending waiting (n + 1) true) word words
      ∙ by (nat_lt n f.names) refl
    where
      taken_dead : (q r : Bool) → (clear (if q && false then [] else settle_fault c false
          (held f c serves rows pending)) && r) ≡ false
      taken_dead true r = ap (λ (b : Bool). b && r) de
      taken_dead false r = ap (λ (b : Bool). b && r) de

      by : (b : Bool) → nat_lt n f.names ≡ b
          → (clear (step_fault (shape_with c) (n + 1) (held f c serves rows pending) value)
          && run c (to_positional c (arg_by_index c (n + 1)) word (at rows pending waiting (n + 1) true)
          (held f c serves rows pending)) words) ≡ false
      by true e =
          let found : arg_by_index c (n + 1) ≡ Some (P (serves.id n) (n + 1)) = serves.by_index n
          ∙ ap (λ (b : Bool). if b then Some (P (serves.id n) (n + 1)) else None) e in
          rw found (taken_dead (is_pending (P (serves.id n) (n + 1)) pending) _)
      by false e =
          let found : arg_by_index c (n + 1) ≡ None = serves.by_index n
          ∙ ap (λ (b : Bool). if b then Some (P (serves.id n) (n + 1)) else None) e in
          rw found refl

  by_look : (word : Word) (words : List Word) → IsSpelt word → Reads words → (l : Look) → Looks word l
      → (rows : List Row) (pending : Pending) (seen : List Word) (n : ℕ)
      → (debt c pending rows ≡ true → Stands f c serves (settled_rows c pending rows) seen n)
      → run c (at rows pending idle (n + 1) false) (word ∷ words)
      ≡ (debt c pending rows && fit_from f seen n (parts_by f None word l (map name_part words)
      (λ w. parts_from f w words)))
  by_look word words spelt r dashes look rows pending seen n stands = dashes_word f c serves rows pending idle n word
      words look ∙ r.ready rows pending seen n true stands
  by_look word words spelt r (long x v) look rows pending seen n stands =
      long_step f c serves rows pending idle n word x v words look ∙ long_ready words r rows pending seen n x v stands
      (debt c pending rows) refl (has f.valued x) refl (has f.flags x) refl
  by_look word words spelt r other look rows pending seen n stands = other_step f c serves rows pending idle n word
      words look spelt ∙ sym (and_false (debt c pending rows))
  by_look word words spelt r plain look rows pending seen n stands = plain_word f c serves rows pending n word words
      look ∙ name_goes words r rows pending seen n false word stands

  by_look_waiting : (word : Word) (words : List Word) → IsSpelt word → Reads words → (l : Look) → Looks word l
      → (rows : List Row) (x : Word) (seen : List Word) (n : ℕ) → has f.valued x ≡ true
      → Stands f c serves rows seen n
      → run c (at rows (Some (x, [])) (option x) (n + 1) false) (word ∷ words)
      ≡ fit_from f seen n (parts_by f (Some x) word l (map name_part words) (λ w. parts_from f w words))
  by_look_waiting word words spelt r dashes look rows x seen n known stands =
      dashes_word f c serves rows (Some (x, [])) (option x) n word words look ∙ r.dead rows (Some (x, [])) (option x) n
      (no_value_debt f c serves x rows known) ∙ sym (in_vain x seen n _ known)
  by_look_waiting word words spelt r (long y v) look rows x seen n known stands =
      long_step f c serves rows (Some (x, [])) (option x) n word y v words look
      ∙ long_dead words rows (Some (x, [])) (option x) n y v (no_value_debt f c serves x rows known) (has f.valued y)
      refl (has f.flags y) refl ∙ sym (in_vain x seen n _ known)
  by_look_waiting word words spelt r other look rows x seen n known stands =
      other_step f c serves rows (Some (x, [])) (option x) n word words look spelt
      ∙ sym (in_vain x seen n (stray ∷ parts_from f None words) known)
  by_look_waiting word words spelt r plain look rows x seen n known stands =
      value_step f c serves rows n x word words known look ∙ by (has_row x rows) refl
    where
      by : (h : Bool) → has_row x rows ≡ h → run c (at rows (Some (x, word ∷ [])) idle (n + 1) false) words
          ≡ (has f.valued x && (not (has seen x) && fit_from f (x ∷ seen) n (parts_from f None words)))
      by true e = (let owes : debt c (Some (x, word ∷ [])) rows ≡ false = value_debt f c serves x word rows known
          ∙ ap not e in let same : has seen x ≡ true = sym (stands.options x (rw known refl)) ∙ e in
          r.ready rows (Some (x, word ∷ [])) (x ∷ seen) n false (λ paid. absurd (true≢false (sym paid ∙ owes)))
          ∙ rw (known, same) (ap (λ (b : Bool). b && fit_from f (x ∷ seen) n (parts_from f None words)) owes))
      by false e = (let owes : debt c (Some (x, word ∷ [])) rows ≡ true = value_debt f c serves x word rows known
          ∙ ap not e in let same : has seen x ≡ false = sym (stands.options x (rw known refl)) ∙ e in
          r.ready rows (Some (x, word ∷ [])) (x ∷ seen) n false
          (λ paid. subst (λ (rs : List Row). Stands f c serves rs (x ∷ seen) n)
          (sym (pending_value f c serves rows x word known)) (value_stands f c serves rows seen n x word stands
          known e))
          ∙ rw (known, same) (ap (λ (b : Bool). b && fit_from f (x ∷ seen) n (parts_from f None words)) owes))

  -- whatever the words are
  pub reads : (words : List Word) → AreSpelt words → Reads words
  reads [] spelt = record {
    ready = λ rows pending seen n t stands. run_ends c (at rows pending idle (n + 1) t)
        ∙ sym (at_end t (debt c pending rows) seen n);
    waits = λ rows x seen n known stands. run_ends c (at rows (Some (x, [])) (option x) (n + 1) false)
        ∙ no_value_debt f c serves x rows known ∙ sym (in_vain x seen n [] known);
    dead = λ rows pending waiting n de. run_ends c (at rows pending waiting (n + 1) true) ∙ de;
  }
    where
      at_end : (t : Bool) (d : Bool) (seen : List Word) (n : ℕ) → (d && fit_from f seen n (parts_when t [])) ≡ d
      at_end true d seen n = and_true d
      at_end false d seen n = and_true d
  reads (word ∷ words) spelt =
      let r = reads words spelt.1 in
      record {
        ready = λ rows pending seen n t stands. when r t rows pending seen n stands;
        waits = λ rows x seen n known stands. by_look_waiting word words spelt.0 r (look_of word) (looks word) rows x
            seen n known stands;
        dead = λ rows pending waiting n de. trailing_dead words rows pending waiting n word de;
      }
    where
      when : Reads words → (t : Bool) (rows : List Row) (pending : Pending) (seen : List Word) (n : ℕ)
          → (debt c pending rows ≡ true → Stands f c serves (settled_rows c pending rows) seen n)
          → run c (at rows pending idle (n + 1) t) (word ∷ words)
          ≡ (debt c pending rows && fit_from f seen n (parts_when t (word ∷ words)))
      when r true rows pending seen n stands = trailing_word f c serves rows pending n word words
          ∙ name_goes words r rows pending seen n true word stands
      when r false rows pending seen n stands = by_look word words spelt.0 r (look_of word) (looks word) rows pending
          seen n stands
