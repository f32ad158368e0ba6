-- `clap` takes words exactly where their parts fit the form, and then has a row for each part.
use Rattle.std.proofs.Common.{◌≡◌, ◌∙◌, ◌&&◌, ℕ, Bool, true, false, refl, sym, ap, List, [], Option, Some, None}
use Rattle.std.proofs.Common.{is_some, fold, nat_lt, arith}
use Rattle.std.proofs.lemmas.Bool.{ltb-true}
use Rattle.clap.specs.Walk.{Row, Rule, finished, nothing_held, rows_after, walk, walk_from, with_default}
use Rattle.clap.specs.Simple.{App, entered}
use Rattle.clap.specs.Kinds.{Kinds, or_else}
use Rattle.clap.specs.Faults.{built_fault, check_fault, defaults_fault, entered_fault, walk_fault}
use Rattle.route_words.specs.Parts.{Form, Word, fit, parts_of}
use Rattle.route_words.proofs.Bools.{and_true}
use Rattle.route_words.proofs.Laying.{laid, lays}
use Rattle.route_words.proofs.Reading.{AreSpelt, reads}
use Rattle.route_words.proofs.Rows.{Stands}
use Rattle.route_words.proofs.Walking.{Serves, clear, clear_or, run, shape_with}

-- nothing that follows the walk may fail
pub record PassesAfter (c : List Rule) : Type 0 where
  pub defaults : (rows : List Row) → defaults_fault rows c ≡ []
  pub checks : (rows : List Row) (entered : Bool) → check_fault (shape_with c) rows entered ≡ []

-- the built command with these rules
abbrev pub app_with : List Rule → App
app_with c = record { top = shape_with c; subs = [] }

none_below : (m : ℕ) → nat_lt m 0 ≡ false
none_below m = by (nat_lt m 0) refl
  where
    by : (b : Bool) → nat_lt m 0 ≡ b → nat_lt m 0 ≡ false
    by true e = absurd (omega (arith, ltb-true m 0 e))
    by false e = e

module _ (f : Form) (c : List Rule) (serves : Serves f c) where
  start : Stands f c serves [] [] 0
  start = record { options = λ x mine. refl; names = λ m below. sym (none_below m) }

  -- nothing but what is pending may fail
  later : PassesAfter c → (stop : Option (Word × List Word)) (settle : Kinds) (rows last : List Row)
      → clear (or_else (entered_fault (app_with c) stop) (or_else settle (or_else (defaults_fault rows c)
      (check_fault (shape_with c) last (is_some (entered (app_with c) stop)))))) ≡ clear settle
  later passes None settle rows last =
      rw (passes.defaults rows, passes.checks last false) (clear_or settle [] ∙ and_true (clear settle))
  later passes (Some p) settle rows last =
      rw (passes.defaults rows, passes.checks last false) (clear_or settle [] ∙ and_true (clear settle))

  pub fits : PassesAfter c → (words : List Word) → AreSpelt words
      → clear (built_fault (app_with c) nothing_held words) ≡ fit f (parts_of f words)
  unfolding run
  fits passes words spelt =
      let walked_all = walk_fault (shape_with c) [] (walk_from nothing_held) words in
      clear_or walked_all _
      ∙ ap (λ (b : Bool). clear walked_all && b) (later passes _ _ _ (finished c (walk c [] nothing_held words).held))
      ∙ (reads f c serves words spelt).ready [] None [] 0 false (λ _. start)

  pub rows_are : (words : List Word) → fit f (parts_of f words) ≡ true
      → rows_after c [] words ≡ fold with_default (laid f c serves 0 (parts_of f words)) c
  rows_are words fit_is = ap (λ (rows : List Row). fold with_default rows c) ((lays f c serves words).ready [] None [] 0
      false start fit_is)
