-- A line on, or a stop: the head, the places and the passes.
use Rattle.std.proofs.Common.{◌≡◌, inl, inr, ℕ, ◌+◌, ◌<◌, List, [], ◌∷◌, ◌++◌, length}
use Rattle.std.proofs.Common.{refl}
use Rattle.std.proofs.Common.{ap, ◌∙◌, arith}
use Rattle.std.specs.Prelude.{codes}
use Rattle.std.proofs.lemmas.List.{length_push}
use Rattle.report_form.specs.Form.{Told, PassTold, value, line, size_line}
use Rattle.report_form.specs.inner.State.{Page, Start, Named, Sized, Gridded, Dropping, Passing, Joining}
use Rattle.report_form.specs.inner.State.{Netting}
use Rattle.report_form.specs.inner.State.{IsPage, At, IsStopped, IsStoppedEarly, board_line}
use Rattle.report_form.specs.inner.State.{grid_line}
use Rattle.report_form.specs.inner.State.{pass_line, gridded}
use Rattle.report_form.specs.inner.Fields.{HasOne, HasGrid, HasPass}
use Rattle.report_form.specs.inner.Halts.{PlacesRead, PassesRead, AllPassesRead, IsPassingAt, IsJoiningAt, IsNettingAt}
use Rattle.report_form.proofs.Standing.{line_on}
use Rattle.report_form.proofs.Fields.{one_line, one_of_line}

-- a line that is the beginning
shown : (l m r rest : List ℕ) → rest ≡ l ++ r → l ≡ m → rest ≡ m ++ r
shown l m r rest e f = e ∙ ap (λ (x : List ℕ). x ++ r) f

-- ---- the head
pub board_on : (p : Page) (rest r : List ℕ) → IsPage p → At p Start rest → rest ≡ board_line p.design ++ r
    → At p Named r
board_on p rest r page at e = line_on p Start Named (board_line p.design) rest r page at (refl, refl) e

pub board_stop : (p : Page) (rest : List ℕ) → At p Start rest
    → ((r : List ℕ) → rest ≡ board_line p.design ++ r → ⊥) → IsStoppedEarly p rest
board_stop p rest at none = record {
  state = Start;
  before = tt;
  at = at;
  stuck = record {
    none = λ l t r step e. none r (shown l (board_line p.design) r rest e step.0);
    more = λ e f. e;
  };
}

pub sizes_on : (p : Page) (rest r : List ℕ) → IsPage p → At p Named rest → rest ≡ size_line p.design ++ r
    → At p Sized r
sizes_on p rest r page at e = line_on p Named Sized (size_line p.design) rest r page at (refl, refl) e

pub sizes_stop : (p : Page) (rest : List ℕ) → At p Named rest → ((r : List ℕ) → rest ≡ size_line p.design ++ r → ⊥)
    → IsStoppedEarly p rest
sizes_stop p rest at none = record {
  state = Named;
  before = tt;
  at = at;
  stuck = record {
    none = λ l t r step e. none r (shown l (size_line p.design) r rest e step.0);
    more = λ e f. e;
  };
}

pub grid_on : (p : Page) (g n rest r : List ℕ) → IsPage p → At p Sized rest → HasGrid g n r rest
    → At p (Gridded (gridded g n)) r
grid_on p g n rest r page at h =
    line_on p Sized (Gridded (gridded g n)) (grid_line g n) rest r page at
    (record { grid = g; nodes = n; good = h.good; is = refl; to = refl }) h.is

pub grid_stop : (p : Page) (rest : List ℕ) → At p Sized rest → ((g n r : List ℕ) → HasGrid g n r rest → ⊥)
    → IsStoppedEarly p rest
grid_stop p rest at none = record {
  state = Sized;
  before = tt;
  at = at;
  stuck = record {
    none = λ l t r step e. none step.grid step.nodes r
        (record { good = step.good; is = shown l (grid_line step.grid step.nodes) r rest e step.is });
    more = λ e f. e;
  };
}

-- ---- what was dropped
pub dropped_on : (p : Page) (h : Told) (w rest r : List ℕ) → IsPage p → At p (Gridded h) rest
    → HasOne (codes "dropped ") w r rest → At p (Dropping (record h { dropped = w }) []) r
dropped_on p h w rest r page at one =
    line_on p (Gridded h) (Dropping (record h { dropped = w }) []) (line (codes "dropped " ++ w)) rest r page at
    (record { dropped = w; number = one.number; is = refl; to = refl }) (one_line (codes "dropped ") w r rest one)

pub dropped_stop : (p : Page) (h : Told) (rest : List ℕ) → At p (Gridded h) rest
    → ((w r : List ℕ) → HasOne (codes "dropped ") w r rest → ⊥) → IsStopped p rest
dropped_stop p h rest at none = record {
  state = Gridded h;
  at = at;
  stuck = record {
    none = λ l t r step e. none step.dropped r (one_of_line (codes "dropped ") step.dropped r rest step.number
        (shown l (line (codes "dropped " ++ step.dropped)) r rest e step.is));
    more = λ e f. e;
  };
}

pub place_on : (p : Page) (h : Told) (ps : List (List ℕ)) (w rest r : List ℕ) → IsPage p → At p (Dropping h ps) rest
    → length ps < value h.dropped → HasOne (codes "drop ") w r rest → At p (Dropping h (ps ++ w ∷ [])) r
place_on p h ps w rest r page at less one =
    line_on p (Dropping h ps) (Dropping h (ps ++ w ∷ [])) (line (codes "drop " ++ w)) rest r page at
    (inl (record { more = less; place = w; number = one.number; is = refl; to = refl }))
    (one_line (codes "drop ") w r rest one)

pub place_stop : (p : Page) (h : Told) (ps : List (List ℕ)) (rest : List ℕ) → At p (Dropping h ps) rest
    → length ps < value h.dropped → ((w r : List ℕ) → HasOne (codes "drop ") w r rest → ⊥) → IsStopped p rest
place_stop p h ps rest at less none = record {
  state = Dropping h ps;
  at = at;
  stuck = record {
    none = λ l t r step e. elim step [
      | inl a ↦ none a.place r (one_of_line (codes "drop ") a.place r rest a.number
          (shown l (line (codes "drop " ++ a.place)) r rest e a.is))
      | inr b ↦ omega (arith, less, b.all)
    ];
    more = λ e f. e;
  };
}

pub notes_on : (p : Page) (h : Told) (w rest r : List ℕ) → IsPage p → PlacesRead p h rest
    → HasOne (codes "notes ") w r rest → IsPassingAt p r
notes_on p h w rest r page read one =
    let g = record h { places = read.places; notes = w } in record {
      told = g;
      at = line_on p (Dropping h read.places) (Passing g []) (line (codes "notes " ++ w)) rest r page read.at
          (inr (record { all = read.all; notes = w; number = one.number; is = refl; to = refl }))
          (one_line (codes "notes ") w r rest one);
    }

pub notes_stop : (p : Page) (h : Told) (rest : List ℕ) → PlacesRead p h rest
    → ((w r : List ℕ) → HasOne (codes "notes ") w r rest → ⊥) → IsStopped p rest
notes_stop p h rest read none = record {
  state = Dropping h read.places;
  at = read.at;
  stuck = record {
    none = λ l t r step e. elim step [
      | inl a ↦ omega (arith, a.more, read.all)
      | inr b ↦ none b.notes r (one_of_line (codes "notes ") b.notes r rest b.number
          (shown l (line (codes "notes " ++ b.notes)) r rest e b.is))
    ];
    more = λ e f. e;
  };
}

-- ---- the passes
pub pass_on : (p : Page) (h : Told) (count : ℕ) (a b rest r : List ℕ) → IsPage p → PassesRead p h count rest
    → HasPass (count + 1) a b r rest → PassesRead p h (count + 1) r
pass_on p h count a b rest r page read has =
    let x : PassTold = record { commits = a; parted = b } in
    let k : count + 1 ≡ 1 + length read.passes = omega (arith, read.count_is) in record {
      passes = read.passes ++ x ∷ [];
      at = line_on p (Passing h read.passes) (Passing h (read.passes ++ x ∷ [])) (pass_line (count + 1) x) rest r page
          read.at (inl (record {
            pass = x;
            told = record { commits = has.first; parted = has.second };
            is = ap (λ (j : ℕ). pass_line j x) k;
            to = refl;
          })) has.is;
      count_is = omega (arith, read.count_is, length_push read.passes x);
    }

pub passes_end : (p : Page) (h : Told) (count : ℕ) (rest : List ℕ) → PassesRead p h count rest
    → ((a b r : List ℕ) → HasPass (count + 1) a b r rest → ⊥) → AllPassesRead p h count rest
passes_end p h count rest read none =
    let k : 1 + length read.passes ≡ count + 1 = omega (arith, read.count_is) in record {
      passes = read.passes;
      at = read.at;
      count_is = read.count_is;
      none = λ l t r step e. none step.pass.commits step.pass.parted r (record {
        first = step.told.commits;
        second = step.told.parted;
        is = shown l (pass_line (1 + length read.passes) step.pass) r rest e step.is
            ∙ ap (λ (j : ℕ). pass_line j step.pass ++ r) k;
      });
    }

pub kept_on : (p : Page) (h : Told) (count : ℕ) (w rest r : List ℕ) → IsPage p → AllPassesRead p h count rest
    → 0 < count → HasOne (codes "kept ") w r rest → IsJoiningAt p r
kept_on p h count w rest r page read some one =
    let g = record h { passes = read.passes; kept = w } in record {
      told = g;
      at = line_on p (Passing h read.passes) (Joining g) (line (codes "kept " ++ w)) rest r page read.at
          (inr (record {
            some = omega (arith, some, read.count_is);
            kept = w;
            number = one.number;
            is = refl;
            to = refl;
          }))
          (one_line (codes "kept ") w r rest one);
    }

pub no_pass_stop : (p : Page) (h : Told) (count : ℕ) (rest : List ℕ) → AllPassesRead p h count rest → count ≡ 0
    → IsStopped p rest
no_pass_stop p h count rest read empty = record {
  state = Passing h read.passes;
  at = read.at;
  stuck = record {
    none = λ l t r step e. elim step [
      | inl a ↦ read.none l t r a e
      | inr b ↦ omega (arith, b.some, read.count_is, empty)
    ];
    more = λ e f. e;
  };
}

pub kept_stop : (p : Page) (h : Told) (count : ℕ) (rest : List ℕ) → AllPassesRead p h count rest
    → ((w r : List ℕ) → HasOne (codes "kept ") w r rest → ⊥) → IsStopped p rest
kept_stop p h count rest read none = record {
  state = Passing h read.passes;
  at = read.at;
  stuck = record {
    none = λ l t r step e. elim step [
      | inl a ↦ read.none l t r a e
      | inr b ↦ none b.kept r (one_of_line (codes "kept ") b.kept r rest b.number
          (shown l (line (codes "kept " ++ b.kept)) r rest e b.is))
    ];
    more = λ e f. e;
  };
}

pub joins_on : (p : Page) (h : Told) (w rest r : List ℕ) → IsPage p → At p (Joining h) rest
    → HasOne (codes "joins ") w r rest → IsNettingAt p r
joins_on p h w rest r page at one =
    let g = record h { joins = w } in record {
      told = g;
      at = line_on p (Joining h) (Netting g []) (line (codes "joins " ++ w)) rest r page at
          (record { joins = w; number = one.number; is = refl; to = refl }) (one_line (codes "joins ") w r rest one);
    }

pub joins_stop : (p : Page) (h : Told) (rest : List ℕ) → At p (Joining h) rest
    → ((w r : List ℕ) → HasOne (codes "joins ") w r rest → ⊥) → IsStopped p rest
joins_stop p h rest at none = record {
  state = Joining h;
  at = at;
  stuck = record {
    none = λ l t r step e. none step.joins r (one_of_line (codes "joins ") step.joins r rest step.number
        (shown l (line (codes "joins " ++ step.joins)) r rest e step.is));
    more = λ e f. e;
  };
}
