-- Words and numbers at the front of a text.
use Rattle.std.specs.Prelude.{◌≡◌, ◌≤◌, ◌↔◌, ◌^◌, ◌-◌, ℕ, Bool, true, false, List, ◌∷◌, ◌++◌, length, take, drop}
use Rattle.std.specs.Prelude.{Option, Some}
use Rattle.std.specs.List.{list_all}
use Rattle.std.specs.Char.{is_ascii_digit}
use Rattle.pcb_model.specs.declared.item.Kind.{Kind}
use Rattle.pcb_model.specs.Sound.{IsPrintable}
use Rattle.ses_writer.specs.Words.{is_bare, is_bare_byte, spelled}
use Rattle.told_words.specs.Stops.{Stops}
use Rattle.report_form.specs.Form.{IsNumber, IsName, value, RunTold, IsRun, by_line, cut_line, run_line}
use Rattle.report_form.specs.Reading.{capped, run_kept}
use Rattle.report_form.specs.declared.reading.ReadRun.{ReadRun}
use Rattle.report_form.specs.inner.State.{bare, IsGrid, grid_line, gridded, pass_line, complete_line, opened_line}

-- so many bytes at the front pass the test, and no more
pub record HasFront (test : ℕ → Bool) (count : ℕ) (text : List ℕ) : Type 0 where
  pub within : count ≤ length text
  pub all : list_all test (take count text) ≡ true
  pub stops : Stops test (drop count text)

-- a word, a number, and what is behind them
pub record HasField (word digits behind text : List ℕ) : Type 0 where
  pub number : IsNumber digits
  pub stops : Stops is_ascii_digit behind
  pub is : text ≡ word ++ (digits ++ behind)

-- lines of words and numbers
pub record HasOne (word a behind text : List ℕ) : Type 0 where
  pub number : IsNumber a
  pub is : text ≡ word ++ (a ++ (10 ∷ behind))

pub record HasTwo (v w a b behind text : List ℕ) : Type 0 where
  pub first : IsNumber a
  pub second : IsNumber b
  pub is : text ≡ v ++ (a ++ (w ++ (b ++ (10 ∷ behind))))

pub record HasThree (u v w a b c behind text : List ℕ) : Type 0 where
  pub first : IsNumber a
  pub second : IsNumber b
  pub third : IsNumber c
  pub is : text ≡ u ++ (a ++ (v ++ (b ++ (w ++ (c ++ (10 ∷ behind))))))

pub record HasFour (word a b c e behind text : List ℕ) : Type 0 where
  pub first : IsNumber a
  pub second : IsNumber b
  pub third : IsNumber c
  pub fourth : IsNumber e
  pub is : text ≡ word ++ (a ++ (32 ∷ (b ++ (32 ∷ (c ++ (32 ∷ (e ++ (10 ∷ behind))))))))

-- a word before whose bytes a number ends
abbrev pub IsStop : List ℕ → Type 0
IsStop v = (x : List ℕ) → Stops is_ascii_digit (v ++ x)

-- the line of a grid in its range
pub record HasGrid (grid nodes behind text : List ℕ) : Type 0 where
  pub good : IsGrid (gridded grid nodes)
  pub is : text ≡ grid_line grid nodes ++ behind

-- the line of a pass
pub record HasPass (k : ℕ) (a b behind text : List ℕ) : Type 0 where
  pub first : IsNumber a
  pub second : IsNumber b
  pub is : text ≡ pass_line k (record { commits = a; parted = b }) ++ behind

pub record PassAt (k : ℕ) (behind text : List ℕ) : Type 0 where
  pub a : List ℕ
  pub b : List ℕ
  pub has : HasPass k a b behind text

-- ---- names
-- a spelled name without a quotation mark, before a byte that needs quotes
pub record HasName (name behind text : List ℕ) : Type 0 where
  pub printable : IsPrintable name
  pub stops : Stops is_bare_byte behind
  pub is : text ≡ spelled name ++ behind

-- a name between quotation marks
pub record HasQuoted (name behind text : List ℕ) : Type 0 where
  pub is : text ≡ 34 ∷ (name ++ (34 ∷ behind))

-- one that needs them, behind the first
pub record HasInner (name behind text : List ℕ) : Type 0 where
  pub printable : IsPrintable name
  pub no_bare : is_bare name ≡ false
  pub stops : Stops is_bare_byte behind
  pub is : text ≡ name ++ (34 ∷ behind)

-- a name that needs no quotes
pub record HasBare (name behind text : List ℕ) : Type 0 where
  pub bare : is_bare name ≡ true
  pub stops : Stops is_bare_byte behind
  pub is : text ≡ name ++ behind

-- a name that can stand behind `cut`, before a byte that needs quotes
pub record HasPin (first : Option (List ℕ)) (pin behind text : List ℕ) : Type 0 where
  pub name : IsName first pin
  pub stops : Stops is_bare_byte behind
  pub is : text ≡ spelled pin ++ behind

-- such a name, and no other, and whether it is the first pin's
pub record IsPinAt (first : Option (List ℕ)) (named : Bool) (behind text : List ℕ) : Type 0 where
  pub pin : List ℕ
  pub name : IsName first pin
  pub is : text ≡ spelled pin ++ behind
  pub only : (other r : List ℕ) → HasPin first other r text → (pin ≡ other) × (behind ≡ r)
  pub named_is : (named ≡ true) ↔ (first ≡ Some pin)

-- ---- lines of a cut
pub record HasCut (first : Option (List ℕ)) (pin a b behind text : List ℕ) : Type 0 where
  pub name : IsName first pin
  pub first_number : IsNumber a
  pub second_number : IsNumber b
  pub is : text ≡ cut_line (bare pin a b) ++ behind

-- a cut's own line, and what is kept of it
pub record IsCutAt (first : Option (List ℕ)) (named : Bool) (reached blocked : ℕ) (behind text : List ℕ) : Type 0 where
  pub pin : List ℕ
  pub a : List ℕ
  pub b : List ℕ
  pub has : HasCut first pin a b behind text
  pub named_is : (named ≡ true) ↔ (first ≡ Some pin)
  pub reached_is : reached ≡ capped (2 ^ 64 - 1) a
  pub blocked_is : blocked ≡ capped (2 ^ 64 - 1) b

pub record HasItem (item : Kind × List ℕ) (behind text : List ℕ) : Type 0 where
  pub number : IsNumber item.1
  pub is : text ≡ by_line item ++ behind

pub record ItemAt (behind text : List ℕ) : Type 0 where
  pub item : Kind × List ℕ
  pub has : HasItem item behind text

pub record HasRun (run : RunTold) (behind text : List ℕ) : Type 0 where
  pub told : IsRun run
  pub is : text ≡ run_line run ++ behind

pub record RunAt (run : ReadRun) (behind text : List ℕ) : Type 0 where
  pub told : RunTold
  pub has : HasRun told behind text
  pub kept : run ≡ run_kept told

-- ---- lines of a net
-- what its line says: nothing, or how many islands it has
pub record HasWhole (name behind text : List ℕ) : Type 0 where
  pub is : text ≡ complete_line name ++ behind

pub record HasOpened (name islands behind text : List ℕ) : Type 0 where
  pub number : IsNumber islands
  pub many : 2 ≤ value islands
  pub is : text ≡ opened_line name islands ++ behind

pub record OpenedAt (name : List ℕ) (count : ℕ) (behind text : List ℕ) : Type 0 where
  pub islands : List ℕ
  pub has : HasOpened name islands behind text
  pub count_is : count ≡ capped (2 ^ 64 - 1) islands
