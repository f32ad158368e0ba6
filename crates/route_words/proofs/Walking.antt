-- What `clap` makes of words, by the parts that they make.
use Rattle.std.proofs.Common.{◌≡◌, ◌∙◌, ◌+◌, ◌&&◌, ◌||◌, ℕ, Bool, true, false, refl, ap, ap₂, List, [], ◌∷◌, Option}
use Rattle.std.proofs.Common.{Some, None, if◌then◌else◌, nat_lt, codes, fold, min}
use Rattle.std.specs.Str.{bytes_eq, chars}
use Rattle.clap.specs.Walk.{Held, Row, Rule, Waiting, Walk, idle, option, positional, used, after_step, long_word}
use Rattle.clap.specs.Walk.{arg_by_id, arg_by_index, arg_by_long, arg_by_short, is_pending, pushed, settled}
use Rattle.clap.specs.Walk.{settled_rows, to_positional, value, walked}
use Rattle.clap.specs.Lexer.{usize_max}
use Rattle.clap.specs.Simple.{Shape, filled, new_shape, with_index}
use Rattle.clap.specs.Kinds.{Kinds, or_else}
use Rattle.clap.specs.Faults.{bundle_fault, flags_fault, long_fault, settle_fault, step_fault, use_fault, turn_fault}
use Rattle.clap.specs.Faults.{walk_fault}
use Rattle.std.proofs.lemmas.Slice.Eq.{bytes_eq-Decides}
use Rattle.route_words.specs.inner.Forms.{flag, named, valued}
use Rattle.route_words.specs.Parts.{Form, Word, has}
use Rattle.route_words.specs.Parts.{dashes, long, other, plain}
use Rattle.route_words.proofs.Looking.{Looks}
use Rattle.route_words.proofs.Bools.{and_group}

abbrev pub clear : Kinds → Bool
clear [] = true
clear (k ∷ ks) = false

pub clear_or : (a b : Kinds) → clear (or_else a b) ≡ (clear a && clear b)
clear_or [] b = refl
clear_or (k ∷ ks) b = refl

pub clear_alone : (a : Kinds) (r : Bool) → (clear (or_else a []) && r) ≡ (clear a && r)
clear_alone [] r = refl
clear_alone (k ∷ ks) r = refl

pub clear_both : (a b : Kinds) (r : Bool) → (clear (or_else (or_else a b) []) && r) ≡ (clear a && (clear b && r))
clear_both a b r = clear_alone (or_else a b) r ∙ ap (λ (x : Bool). x && r) (clear_or a b)
    ∙ and_group (clear a) (clear b) r

-- a word that begins with a hyphen has a character behind it, if there is a byte
abbrev pub IsSpelt : Word → Type 0
IsSpelt word = (y : ℕ) (ys : Word) → word ≡ 45 ∷ y ∷ ys → (x : ℕ) × (xs : List ℕ) × (chars (y ∷ ys) ≡ x ∷ xs)

-- the built shape of a command with these rules
abbrev pub shape_with : List Rule → Shape
shape_with c = record (new_shape (codes "dsnroute")) {
  rules = c;
  no_binary_name = true;
  disable_help_flag = true;
  disable_help_subcommand = true;
  disable_version_flag = true;
  is_built = true;
}

pub same_bytes : (x : Word) → bytes_eq x x ≡ true
same_bytes x = (bytes_eq-Decides x x).1 refl

abbrev pub Pending : Type 0
Pending = Option (Word × List Word)

abbrev pub at : List Row → Pending → Waiting → ℕ → Bool → Walk
at rows pending waiting position trailing = record {
  held = record { rows = rows; pending = pending; skip = 0 };
  waiting = waiting;
  position = position;
  is_trailing = trailing;
  stopped = None;
}

-- the words pass from here on, and so does what is pending at their end
unfoldable pub run : List Rule → Walk → List Word → Bool
run c w words = clear (walk_fault (shape_with c) [] w words)
    && clear (settle_fault c false (fold (walked c []) w words).held)

pub run_ends : (c : List Rule) (w : Walk) → run c w [] ≡ clear (settle_fault c false w.held)
unfolding run walk_fault
run_ends c w = refl

pub run_steps : (c : List Rule) (w : Walk) (word : Word) (words : List Word)
    → run c w (word ∷ words) ≡ (clear (turn_fault (shape_with c) [] w word) && run c (walked c [] w word) words)
unfolding run walk_fault
run_steps c w word words =
    ap (λ (b : Bool). b && clear (settle_fault c false (fold (walked c []) (walked c [] w word) words).held))
    (clear_or (turn_fault (shape_with c) [] w word) (walk_fault (shape_with c) [] (walked c [] w word) words))
    ∙ and_group (clear (turn_fault (shape_with c) [] w word))
    (clear (walk_fault (shape_with c) [] (walked c [] w word) words))
    (clear (settle_fault c false (fold (walked c []) (walked c [] w word) words).held))

-- what is pending passes
abbrev pub debt : List Rule → Pending → List Row → Bool
debt c pending rows = clear (settle_fault c false (record { rows = rows; pending = pending; skip = 0 }))

-- ---- the rules of a form
abbrev pub V : Word → Rule
V x = filled (valued x)

abbrev pub F : Word → Rule
F x = filled (flag x)

abbrev pub P : Word → ℕ → Rule
P x i = with_index i (filled (named x))

-- an option of the form
abbrev pub ours : Form → Word → Bool
ours f x = has f.valued x || has f.flags x

-- these rules are those of the form
pub record Serves (f : Form) (c : List Rule) : Type 0 where
  pub by_long : (x : Word) → arg_by_long c x
      ≡ (if has f.valued x then Some (V x) else (if has f.flags x then Some (F x) else None))
  pub by_id : (x : Word) → has f.valued x ≡ true → arg_by_id c x ≡ Some (V x)
  pub id : ℕ → Word
  pub by_index : (n : ℕ) → arg_by_index c (n + 1) ≡ (if nat_lt n f.names then Some (P (id n) (n + 1)) else None)
  pub by_name : (n : ℕ) → nat_lt n f.names ≡ true → arg_by_id c (id n) ≡ Some (P (id n) (n + 1))
  pub no_short : (x : ℕ) → arg_by_short c x ≡ None
  pub next : (n : ℕ) → nat_lt n f.names ≡ true → min (n + 1 + 1) usize_max ≡ n + 2
  -- options and names have different ids, and so have two names
  pub apart : (m : ℕ) → nat_lt m f.names ≡ true → (x : Word) → ours f x ≡ true → (bytes_eq x (id m) ≡ false)
      × (bytes_eq (id m) x ≡ false)
  pub counts : (m n : ℕ) → nat_lt m f.names ≡ true → nat_lt n f.names ≡ true
      → (nat_lt m n || (bytes_eq (id n) (id m) || false)) ≡ nat_lt m (n + 1)

module _ (f : Form) (c : List Rule) (serves : Serves f c) where
  -- ---- a word that goes to a positional
  abbrev pub goes_on : List Row → Pending → ℕ → Bool → Word → List Word → Bool
  goes_on rows pending n trailing word words =
      if nat_lt n f.names then debt c pending rows
      && run c (at (settled_rows c pending rows) (Some (serves.id n, word ∷ [])) idle (n + 2) trailing) words
      else false

  abbrev pub held : List Row → Pending → Held
  held rows pending = record { rows = rows; pending = pending; skip = 0 }

  pub taken : (rows : List Row) (pending : Pending) (n : ℕ) (trailing : Bool) (word : Word) (words : List Word)
      (position : ℕ) → position ≡ n + 2 → (q : Bool)
      → (clear (if q && false then [] else settle_fault c false (held rows pending)) && run c (record {
        held = pushed (serves.id n) word (if q && false then held rows pending else settled c (held rows pending));
        waiting = idle;
        position = position;
        is_trailing = trailing || false;
        stopped = None;
      }) words) ≡ (debt c pending rows && run c (at (settled_rows c pending rows) (Some (serves.id n, word ∷ [])) idle
      (n + 2) trailing) words)
  taken rows pending n true word words position is true = rw is refl
  taken rows pending n true word words position is false = rw is refl
  taken rows pending n false word words position is true = rw is refl
  taken rows pending n false word words position is false = rw is refl

  pub by_position : (rows : List Row) (pending : Pending) (n : ℕ) (trailing : Bool) (word : Word) (words : List Word)
      (b : Bool) → nat_lt n f.names ≡ b
      → (clear (step_fault (shape_with c) (n + 1) (held rows pending) value)
      && run c (to_positional c (arg_by_index c (n + 1)) word (at rows pending idle (n + 1) trailing)
      (held rows pending)) words)
      ≡ (if b then debt c pending rows && run c (at (settled_rows c pending rows) (Some (serves.id n, word ∷ [])) idle
      (n + 2) trailing) words else false)
  by_position rows pending n trailing word words true e =
      let found : arg_by_index c (n + 1) ≡ Some (P (serves.id n) (n + 1)) = serves.by_index n
      ∙ ap (λ (b : Bool). if b then Some (P (serves.id n) (n + 1)) else None) e in
      rw found (taken rows pending n trailing word words (min (n + 1 + 1) usize_max) (serves.next n e)
      (is_pending (P (serves.id n) (n + 1)) pending))
  by_position rows pending n trailing word words false e =
      let found : arg_by_index c (n + 1) ≡ None = serves.by_index n
      ∙ ap (λ (b : Bool). if b then Some (P (serves.id n) (n + 1)) else None) e in
      rw found refl

  -- behind two hyphens
  pub trailing_word : (rows : List Row) (pending : Pending) (n : ℕ) (word : Word) (words : List Word)
      → run c (at rows pending idle (n + 1) true) (word ∷ words) ≡ goes_on rows pending n true word words
  unfolding walked
  trailing_word rows pending n word words = run_steps c (at rows pending idle (n + 1) true) word words
      ∙ by_position rows pending n true word words (nat_lt n f.names) refl

  -- a name
  pub plain_word : (rows : List Row) (pending : Pending) (n : ℕ) (word : Word) (words : List Word) → Looks word plain
      → run c (at rows pending idle (n + 1) false) (word ∷ words) ≡ goes_on rows pending n false word words
  unfolding walked
  plain_word rows pending n word words look = run_steps c (at rows pending idle (n + 1) false) word words
      ∙ rw (look.0, look.1, look.2) (by_position rows pending n false word words (nat_lt n f.names) refl)

  -- two hyphens
  pub dashes_word : (rows : List Row) (pending : Pending) (waiting : Waiting) (n : ℕ) (word : Word) (words : List Word)
      → Looks word dashes
      → run c (at rows pending waiting (n + 1) false) (word ∷ words) ≡ run c (at rows pending waiting (n + 1) true)
      words
  unfolding walked
  dashes_word rows pending idle n word words look = run_steps c (at rows pending idle (n + 1) false) word words
      ∙ rw look refl
  dashes_word rows pending (option x) n word words look = run_steps c (at rows pending (option x) (n + 1) false) word
      words ∙ rw look refl
  dashes_word rows pending positional n word words look = run_steps c (at rows pending positional (n + 1) false) word
      words ∙ rw look refl

  -- an option with a value, or without one
  abbrev pub long_goes : List Row → Pending → Waiting → ℕ → Word → Option Word → List Word → Bool
  long_goes rows pending waiting n x (Some v) words =
      if has f.valued x then debt c pending rows
      && (clear (use_fault false (V x) (v ∷ []) (settled_rows c pending rows))
      && run c (at (used (V x) (v ∷ []) (settled_rows c pending rows)) None idle (n + 1) false) words)
      else false
  long_goes rows pending waiting n x None words =
      if has f.valued x then debt c pending rows && run c (at (settled_rows c pending rows) (Some (x, [])) (option x)
      (n + 1) false) words
      else (if has f.flags x then debt c pending rows && (clear (use_fault false (F x) [] (settled_rows c pending rows))
      && run c (at (used (F x) [] (settled_rows c pending rows)) None idle (n + 1) false) words)
      else false)

  pub found : (x : Word) (a b : Bool) → has f.valued x ≡ a → has f.flags x ≡ b → arg_by_long c x
      ≡ (if a then Some (V x) else (if b then Some (F x) else None))
  found x a b ea eb = serves.by_long x
      ∙ ap₂ (λ (p q : Bool). if p then Some (V x) else (if q then Some (F x) else None)) ea eb

  by_long_is : (rows : List Row) (pending : Pending) (waiting : Waiting) (n : ℕ) (word x : Word) (v : Option Word)
      (words : List Word) (a b : Bool) → has f.valued x ≡ a → has f.flags x ≡ b
      → (clear (or_else (long_fault c false (arg_by_long c x) v (held rows pending))
      (step_fault (shape_with c) (n + 1) (long_word c waiting word x v (held rows pending)).0
      (long_word c waiting word x v (held rows pending)).1))
      && run c (after_step c word (at rows pending waiting (n + 1) false) (long_word c waiting word x v
      (held rows pending)).0 (long_word c waiting word x v (held rows pending)).1) words)
      ≡ long_goes rows pending waiting n x v words
  by_long_is rows pending waiting n word x (Some v) words true b ea eb =
      rw (found x true b ea eb, ea) (clear_both (settle_fault c false (held rows pending))
      (use_fault false (V x) (v ∷ []) (settled_rows c pending rows)) _)
  by_long_is rows pending waiting n word x (Some v) words false true ea eb = rw (found x false true ea eb, ea) refl
  by_long_is rows pending waiting n word x (Some v) words false false ea eb = rw (found x false false ea eb, ea) refl
  by_long_is rows pending waiting n word x None words true b ea eb =
      rw (found x true b ea eb, ea) (clear_alone (settle_fault c false (held rows pending)) _)
  by_long_is rows pending waiting n word x None words false true ea eb =
      rw (found x false true ea eb, ea, eb) (clear_both (settle_fault c false (held rows pending))
      (use_fault false (F x) [] (settled_rows c pending rows)) _)
  by_long_is rows pending waiting n word x None words false false ea eb = rw (found x false false ea eb, ea, eb) refl

  pub long_step : (rows : List Row) (pending : Pending) (waiting : Waiting) (n : ℕ) (word x : Word) (v : Option Word)
      (words : List Word) → Looks word (long x v)
      → run c (at rows pending waiting (n + 1) false) (word ∷ words) ≡ long_goes rows pending waiting n x v words
  unfolding walked
  long_step rows pending idle n word x v words look = run_steps c (at rows pending idle (n + 1) false) word words
      ∙ rw (look.0, look.1) (by_long_is rows pending idle n word x v words _ _ refl refl)
  long_step rows pending (option o) n word x v words look = run_steps c (at rows pending (option o) (n + 1) false) word
      words ∙ rw (look.0, look.1) (by_long_is rows pending (option o) n word x v words _ _ refl refl)
  long_step rows pending positional n word x v words look = run_steps c (at rows pending positional (n + 1) false) word
      words ∙ rw (look.0, look.1) (by_long_is rows pending positional n word x v words _ _ refl refl)

  -- another option
  by_other : (rows : List Row) (pending : Pending) (y : ℕ) (ys : Word) (x : ℕ) (xs : List ℕ) → chars (y ∷ ys) ≡ x ∷ xs
      → (s : Kinds) (r : Bool)
      → (clear (or_else (bundle_fault c false (y ∷ ys) (held rows pending)) s) && r) ≡ false
  unfolding flags_fault
  by_other rows pending y ys x xs spelt s r = rw (spelt, serves.no_short x) refl

  pub other_step : (rows : List Row) (pending : Pending) (waiting : Waiting) (n : ℕ) (word : Word) (words : List Word)
      (look : Looks word other) → IsSpelt word
      → run c (at rows pending waiting (n + 1) false) (word ∷ words) ≡ false
  unfolding walked
  other_step rows pending idle n word words look spelt =
      let e = spelt look.2 look.3 look.4 in
      run_steps c (at rows pending idle (n + 1) false) word words
      ∙ rw (look.0, look.1, look.5) (by_other rows pending look.2 look.3 e.0 e.1 e.2 _ _)
  other_step rows pending (option o) n word words look spelt =
      let e = spelt look.2 look.3 look.4 in
      run_steps c (at rows pending (option o) (n + 1) false) word words
      ∙ rw (look.0, look.1, look.5) (by_other rows pending look.2 look.3 e.0 e.1 e.2 _ _)
  other_step rows pending positional n word words look spelt =
      let e = spelt look.2 look.3 look.4 in
      run_steps c (at rows pending positional (n + 1) false) word words
      ∙ rw (look.0, look.1, look.5) (by_other rows pending look.2 look.3 e.0 e.1 e.2 _ _)

  -- the value of an option that waits
  pub value_step : (rows : List Row) (n : ℕ) (x word : Word) (words : List Word) → has f.valued x ≡ true
      → Looks word plain
      → run c (at rows (Some (x, [])) (option x) (n + 1) false) (word ∷ words)
      ≡ run c (at rows (Some (x, word ∷ [])) idle (n + 1) false) words
  unfolding walked
  value_step rows n x word words known look =
      run_steps c (at rows (Some (x, [])) (option x) (n + 1) false) word words
      ∙ rw (look.0, look.1, look.2, serves.by_id x known, same_bytes x) refl
