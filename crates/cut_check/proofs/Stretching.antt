-- Stretches on a lattice.
use Rattle.std.proofs.Common.{◌≡◌, ◌∙◌, ◌⊎◌, ap, inl, inr, ℕ, ◌+◌, ◌<◌, ◌≤◌, List, arith, get_or, length, refl, subst}
use Rattle.std.proofs.Common.{sym, take}
use Rattle.std.specs.Prelude.{Contains}
use Rattle.std.proofs.lemmas.Bool.{cases_lt}
use Rattle.std.proofs.lemmas.List.{get_or-take, get_or_default, length-take, take_all}
use Rattle.route_lattice.specs.Mesh.{Mesh, node_at, node_count}
use Rattle.route_lattice.proofs.Places.{node_below}
use Rattle.cut_check.specs.declared.stretch.Stretch.{Stretch}
use Rattle.cut_check.specs.Stretches.{IsOfSome, IsOfStretch, IsOnLattice}
use Rattle.cut_check.specs.inner.Marking.{Gains, IsBefore}

-- a stretch on the lattice has its first node
pub on_lattice : (m : Mesh) (s : Stretch) → s.level < length m.layers → s.row < length m.ys → s.last < length m.xs
    → s.first ≤ s.last → IsOnLattice m s
on_lattice m s level row last up = (
  node_at m s.level s.row s.first,
  record {
    level_there = level;
    row_there = row;
    column = s.first;
    from = omega arith;
    to = up;
    there = last;
    is = refl;
  },
)

-- and so each of its columns
pub there_in : (m : Mesh) (s : Stretch) (column : ℕ) → IsOnLattice m s → column ≤ s.last
    → node_at m s.level s.row column < node_count m
there_in m s column on to =
    node_below (length m.xs) (length m.ys) (length m.layers) s.level s.row column on.1.level_there on.1.row_there
    (omega (arith, to, on.1.there))

-- a column is at most its node
pub column_below : (m : Mesh) (s : Stretch) (column v : ℕ) → v ≡ node_at m s.level s.row column → column ≤ v
column_below m s column v is = omega (arith, is)

-- ---- column by column
pub before_none : (m : Mesh) (s : Stretch) (old : List ℕ) → Gains (IsBefore m s s.first) old old
before_none m s old = record {
  kept = λ v there. there;
  gained = λ v b. let up = b.from in let low = b.below in absurd (omega (arith, up, low));
  only = λ v there. inl there;
}

-- what joins two gains
pub gains_join : (P Q R : ℕ → Type 0) (a b c : List ℕ) → Gains P a b → Gains Q b c
    → ((v : ℕ) → R v → P v ⊎ Q v) → ((v : ℕ) → P v → R v) → ((v : ℕ) → Q v → R v) → Gains R a c
gains_join P Q R a b c g h split left right = record {
  kept = λ v there. h.kept v (g.kept v there);
  gained = λ v r. elim (split v r) [
    | inl p ↦ h.kept v (g.gained v p)
    | inr q ↦ h.gained v q
  ];
  only = λ v there. elim (h.only v there) [
    | inl before ↦ elim (g.only v before) [ inl old ↦ inl old | inr p ↦ inr (left v p) ]
    | inr q ↦ inr (right v q)
  ];
}

pub before_more : (m : Mesh) (s : Stretch) (column node : ℕ) (a b c : List ℕ) → s.first ≤ column
    → node ≡ node_at m s.level s.row column → Gains (IsBefore m s column) a b → Gains (λ v. node ≡ v) b c
    → Gains (IsBefore m s (column + 1)) a c
before_more m s column node a b c from is g h =
    gains_join (IsBefore m s column) (λ v. node ≡ v) (IsBefore m s (column + 1)) a b c g h
    (λ v b. elim (cases_lt b.at column) [
      | inl early ↦ inl (record { at = b.at; from = b.from; below = early; is = b.is })
      | inr late ↦
          let low = b.below in
          let same : b.at ≡ column = omega (arith, low, late) in
          inr (is ∙ ap (λ (i : ℕ). node_at m s.level s.row i) (sym same) ∙ sym b.is)
    ])
    (λ v b. let low = b.below in record { at = b.at; from = b.from; below = omega (arith, low); is = b.is })
    (λ v e. record { at = column; from = from; below = omega arith; is = sym e ∙ is })

-- all columns
pub before_all : (m : Mesh) (s : Stretch) (column : ℕ) (a b : List ℕ) → IsOnLattice m s → s.last + 1 ≤ column
    → column ≤ s.last + 1 → Gains (IsBefore m s column) a b → Gains (IsOfStretch m s) a b
before_all m s column a b on past to g = record {
  kept = g.kept;
  gained = λ v o. let up = o.to in
      g.gained v (record { at = o.column; from = o.from; below = omega (arith, up, past); is = o.is });
  only = λ v there. elim (g.only v there) [
    | inl old ↦ inl old
    | inr o ↦ let low = o.below in inr (record {
      level_there = on.1.level_there;
      row_there = on.1.row_there;
      column = o.at;
      from = o.from;
      to = omega (arith, low, to);
      there = on.1.there;
      is = o.is;
    })
  ];
}

-- ---- stretch by stretch
pub some_none : (m : Mesh) (runs : List Stretch) (old : List ℕ) → Gains (IsOfSome m (take 0 runs)) old old
some_none m runs old = record {
  kept = λ v there. there;
  gained = λ v o. let low = o.there.1 in absurd (omega (arith, low, length-take 0 runs));
  only = λ v there. inl there;
}

-- a stretch of the first ones is one of one more
in_more : (runs : List Stretch) (i : ℕ) (s : Stretch) → Contains (take i runs) s → Contains (take (i + 1) runs) s
in_more runs i s h =
    let low : h.0 < length (take i runs) = h.1 in (
      h.0,
      omega (arith, low, length-take i runs, length-take (i + 1) runs),
      get_or-take (i + 1) runs h.0 s (omega (arith, low, length-take i runs))
          ∙ sym (get_or-take i runs h.0 s (omega (arith, low, length-take i runs))) ∙ h.2,
    )

module _ (m : Mesh) (runs : List Stretch) (i : ℕ) (s : Stretch) (within : i < length runs)
    (is : s ≡ get_or runs i s) where
  last_there : Contains (take (i + 1) runs) s
  last_there = (
    i,
    omega (arith, within, length-take (i + 1) runs),
    get_or-take (i + 1) runs i s (omega arith) ∙ sym is,
  )

  split_some : (v : ℕ) → IsOfSome m (take (i + 1) runs) v → IsOfSome m (take i runs) v ⊎ IsOfStretch m s v
  split_some v o =
      let low : o.there.0 < length (take (i + 1) runs) = o.there.1 in
      let seen = get_or-take (i + 1) runs o.there.0 o.run (omega (arith, low, length-take (i + 1) runs)) in
      elim (cases_lt o.there.0 i) [
        | inl early ↦ inl (record {
          run = o.run;
          there = (
            o.there.0,
            omega (arith, early, within, length-take i runs),
            get_or-take i runs o.there.0 o.run early ∙ sym seen ∙ o.there.2,
          );
          of_run = o.of_run;
        })
        | inr late ↦
            let same : o.there.0 ≡ i = omega (arith, low, late, length-take (i + 1) runs) in
            let one : o.run ≡ s =
            sym o.there.2 ∙ seen ∙ ap (λ (k : ℕ). get_or runs k o.run) same
            ∙ get_or_default runs i o.run s within ∙ sym is in
            inr (subst (λ (r : Stretch). IsOfStretch m r v) one o.of_run)
      ]

  pub some_more : (a b c : List ℕ) → Gains (IsOfSome m (take i runs)) a b → Gains (IsOfStretch m s) b c
      → Gains (IsOfSome m (take (i + 1) runs)) a c
  some_more a b c g h =
      gains_join (IsOfSome m (take i runs)) (IsOfStretch m s) (IsOfSome m (take (i + 1) runs)) a b c g h split_some
      (λ v o. record { run = o.run; there = in_more runs i o.run o.there; of_run = o.of_run })
      (λ v o. record { run = s; there = last_there; of_run = o })

pub some_all : (m : Mesh) (runs : List Stretch) (i : ℕ) (a b : List ℕ) → length runs ≤ i
    → Gains (IsOfSome m (take i runs)) a b → Gains (IsOfSome m runs) a b
some_all m runs i a b past g =
    subst (λ (rs : List Stretch). Gains (IsOfSome m rs) a b) (take_all i runs past) g
