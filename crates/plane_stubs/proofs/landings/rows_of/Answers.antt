use Rattle.std.proofs.Common.{ℕ, ◌+◌, arith, sym, ap, ◌∙◌, subst, Bool, List, [], ◌∷◌, length}
use Rattle.std.specs.Prelude.{slice_get}
use Rattle.std.proofs.lemmas.List.{length-append}
use Rattle.plane_stubs.specs.inner.Landings.{IsLandingRow}
use Rattle.plane_joins.proofs.Places.{each_more}
use Rattle.plane_stubs.proofs.landings.rows_of.Goals as goal

pub loop-i-preserved : goal.loop-i-preserved
loop-i-preserved c =
    let n = c.args.moves.now in
    let rows = c.loop-i.rows in
    let row = c.in_ok-row.row in
    let count = c.loop-i.invariant.count in
    let more = ap (λ (xs : List (List Bool)). length xs) c.in_ok-push.ensures.ok ∙ length-append rows (row ∷ []) in
    record {
      count = omega (arith, more, count);
      each = λ k r at. each_more (λ (j : ℕ) (x : List Bool). IsLandingRow n.on n.net (4 + j) x) rows row
          c.loop-i.invariant.each
          (subst (λ (j : ℕ). IsLandingRow n.on n.net j row) (omega (arith, count)) c.in_ok-row.ensures) k r
          (sym (ap (λ (xs : List (List Bool)). slice_get xs k) c.in_ok-push.ensures.ok) ∙ at);
    }
