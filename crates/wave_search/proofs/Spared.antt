-- What spares searches: how loops begin and end, and sizes after writes.
use Rattle.std.proofs.Common.{◌≡◌, ℕ, ◌≤◌, List, [], ◌∷◌, length, take, Option, reverse, refl, sym, ap, subst}
use Rattle.std.proofs.Common.{arith, ℤ, pos, ◌-ℤ◌, ◌^◌, ◌∙◌, ◌++◌, ap₂, unsigned_abs, true}
use Rattle.std.specs.Prelude.{int_lt}
use Rattle.std.proofs.lemmas.Bool.{cond-true}
use Rattle.std.proofs.Math.ListN.{set, length-set}
use Rattle.std.proofs.lemmas.Int.{ints}
use Rattle.std.proofs.lemmas.List.{length-map, take_all}
use Rattle.geo_kernel.proofs.Bounds.{seen, unseen}
use Rattle.geo_kernel.proofs.Parity.{lt_yes}
use Rattle.route_lattice.proofs.Between.{passes_lt}
use Rattle.route_lattice.specs.declared.moves.Move.{Move}
use Rattle.route_lattice.specs.Walks.{MoveGraph}
use Rattle.wave_search.specs.Around.{above_by}
use Rattle.wave_search.specs.declared.rows.Label.{Label}
use Rattle.wave_search.specs.declared.rows.Row.{Row}
use Rattle.wave_search.specs.declared.front.Entry.{Entry}
use Rattle.wave_search.specs.inner.Rows.{row_label, labels_of}
use Rattle.wave_search.specs.inner.State.{IsState}
use Rattle.wave_search.proofs.Kept.{AreBelow}
use Rattle.wave_search.proofs.Tracing.{Walked}

-- no node is below 0
pub none_below : (t : List (Option Label)) (nodes : List ℕ) → nodes ≡ [] → AreBelow t 0 nodes
none_below t nodes e = subst (λ (xs : List ℕ). AreBelow t 0 xs) (sym e) (record {
  ascends = λ k h. absurd (omega (arith, h));
  below = λ k d h. absurd (omega (arith, h));
  labelled = λ u c. absurd (omega (arith, c.1));
  complete = λ u l h f. absurd (omega (arith, h));
})

-- a row that is written leaves as many labels
pub set_size : (rows : List Row) (t : List (Option Label)) (v : ℕ) (r : Row) → labels_of rows ≡ t
    → length (labels_of (set rows v r)) ≡ length t
set_size rows t v r is = omega (
  arith,
  length-map (set rows v r) row_label,
  length-set rows v r,
  length-map rows row_label,
  ap length is,
)

-- before any move the walk is one of no moves
pub none_walked : (graph : MoveGraph) (nodes : List ℕ) (moves : List Move) (at total : ℕ) → nodes ≡ at ∷ []
    → moves ≡ [] → Walked graph nodes moves at at total total
none_walked graph nodes moves at total ne me = record {
  hops = [];
  leads = refl;
  nodes_are = ap reverse ne;
  moves_are = ap reverse me;
  price_is = omega arith;
}

-- behind the last start all are seeded
pub all_seeded : (graph : MoveGraph) (starts xs goals : List ℕ) (low : ℕ → ℕ) (t : List (Option Label))
    (q : List Entry) (i : ℕ) → xs ≡ starts → length xs ≤ i
    → IsState graph (take i starts) goals low t q 0 0 0 graph.arity
    → IsState graph starts goals low t q 0 0 0 graph.arity
all_seeded graph starts xs goals low t q i e h s =
    subst (λ (ys : List ℕ). IsState graph ys goals low t q 0 0 0 graph.arity)
    (take_all i starts (omega (arith, h, ap (length {A = ℕ}) e))) s

-- nothing is left of a list that was empty with nothing behind it
pub none_of : (xs ys : List ℕ) → ys ≡ xs ++ [] → length ys ≡ 0 → xs ≡ []
none_of [] ys e h = refl
none_of (x ∷ xs) ys e h = absurd (omega (arith, h, ap (length {A = ℕ}) e))

-- how far a coordinate is above another, as the code computes it
pub above_is : (a b : ℤ) (r : ℕ) → unsigned_abs a ≤ 2 ^ 29 → unsigned_abs b ≤ 2 ^ 29
    → int_lt (seen b) (seen a) ≡ true → r ≡ unsigned_abs (seen (seen a -ℤ seen b)) → r ≡ above_by a b
above_is a b r h k less is =
    let a_is : seen a ≡ a = unseen a (omega (arith, h)) in
    let b_is : seen b ≡ b = unseen b (omega (arith, k)) in
    let gap : seen (seen a -ℤ seen b) ≡ a -ℤ b = ap₂ (λ (y z : ℤ). seen (y -ℤ z)) a_is b_is
    ∙ unseen (a -ℤ b) (omega (arith, ints, h, k)) in
    let lower : int_lt b a ≡ true = ap₂ (λ (y z : ℤ). int_lt y z) (sym b_is) (sym a_is) ∙ less in
    let over : int_lt (pos 0) (a -ℤ b) ≡ true =
    lt_yes (pos 0) (a -ℤ b) (omega (arith, ints, passes_lt b a lower)) in
    is ∙ ap unsigned_abs gap
    ∙ ap unsigned_abs (sym (cond-true (int_lt (pos 0) (a -ℤ b)) (a -ℤ b) (pos 0) over))
