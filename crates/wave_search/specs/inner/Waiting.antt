-- The entries that wait in a front, whichever way they are kept.
use Rattle.std.specs.Prelude.{◌≡◌, ◌+◌, ◌≤◌, ◌<◌, List, [], ◌∷◌, length, ◌⊎◌}
use Rattle.wave_search.specs.declared.front.Entry.{Entry}

-- e is one of them
abbrev pub Waits : List Entry → Entry → Type 0
Waits [] e = ⊥
Waits (x ∷ xs) e = (x ≡ e) ⊎ Waits xs e

-- new has the entries of old and e
pub record IsAdded (old : List Entry) (e : Entry) (new : List Entry) : Type 0 where
  pub here : Waits new e
  pub kept : (x : Entry) → Waits old x → Waits new x
  pub only : (x : Entry) → Waits new x → Waits old x ⊎ (x ≡ e)
  pub len : length new ≤ length old + 1

-- e, of which no key is less, was taken out of old, and new has the others
pub record IsTaken (old : List Entry) (e : Entry) (new : List Entry) : Type 0 where
  pub there : Waits old e
  pub least : (x : Entry) → Waits old x → e.key ≤ x.key
  pub kept : (x : Entry) → Waits old x → Waits new x ⊎ (x ≡ e)
  pub only : (x : Entry) → Waits new x → Waits old x
  pub len : length new < length old

-- e was taken out of old, and new has the others
pub record IsDrawn (old : List Entry) (e : Entry) (new : List Entry) : Type 0 where
  pub there : Waits old e
  pub kept : (x : Entry) → Waits old x → Waits new x ⊎ (x ≡ e)
  pub only : (x : Entry) → Waits new x → Waits old x
  pub len : length new < length old

-- new has the entries of old
pub record IsSame (old new : List Entry) : Type 0 where
  pub kept : (x : Entry) → Waits old x → Waits new x
  pub only : (x : Entry) → Waits new x → Waits old x
  pub len : length new ≤ length old
