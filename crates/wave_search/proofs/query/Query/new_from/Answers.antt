use Rattle.std.proofs.Common.{ℕ, List, sym, ◌∙◌, ap, subst, arith, inl, inr}
use Rattle.std.specs.Prelude.{Contains}
use Rattle.std.proofs.lemmas.List.Filters.{dedup_is}
use Rattle.std.proofs.lemmas.List.Kept.{Contains-dedup_nat, Contains-from_dedup}
use Rattle.std.proofs.lemmas.List.Sorted.{Contains-permutation, IsPermutation-sym}
use Rattle.std.proofs.lemmas.Map.Keys.{IsStrictlyIncreasing-dedup}
use Rattle.wave_search.specs.inner.State.{IsStep}
use Rattle.wave_search.specs.inner.Passing.{IsMarked}
use Rattle.wave_search.proofs.Stating.{more_has, has_more, has_last, below_or}
use Rattle.wave_search.proofs.query.Query.new_from.Goals as goal
use Rattle.wave_search.proofs.query.Query.new_from.Goals.{in-Some+in_ok-push, in_default}

pub loop-i-preserved : goal.loop-i-preserved
loop-i-preserved g c =
    let graph = g.M.Moves.graph c.args.self.now.m.now in
    let t = c.args.table.now in
    let marks = c.args.marks.now in
    let node = c.args.node in
    elim c.match-new_over.branch [
      | in-Some+in_ok-push w ↦
          let grown = ap (λ x. x.items) w.fresh-is ∙ w.in_ok-push.ensures.items in record {
            led = more_has (λ v. IsStep graph t node v × (IsMarked marks v → ⊥)) c.loop-i.fresh.items
                c.match-new_over.fresh.items w.in-Some.to grown c.loop-i.invariant.led
                (w.in-Some.ensures.step, w.in-Some.ensures.new);
            every = λ v s h. elim (below_or s.tight.hop.index c.loop-i.i h) [
              | inl lt ↦ elim (c.loop-i.invariant.every v s lt) [
                | inl a ↦ inl (has_more c.loop-i.fresh.items c.match-new_over.fresh.items w.in-Some.to grown v a)
                | inr b ↦ inr b
              ]
              | inr e ↦ inl (subst (λ (x : ℕ). Contains c.match-new_over.fresh.items x) (w.in-Some.ensures.only v s e)
                  (has_last c.loop-i.fresh.items c.match-new_over.fresh.items w.in-Some.to grown))
            ];
          }
      | in_default w ↦
          let same = ap (λ x. x.items) w.fresh-is in record {
            led = λ v h. c.loop-i.invariant.led v (subst (λ (l : List ℕ). Contains l v) same h);
            every = λ v s h. elim (below_or s.tight.hop.index c.loop-i.i h) [
              | inl lt ↦ elim (c.loop-i.invariant.every v s lt) [
                | inl a ↦ inl (subst (λ (l : List ℕ). Contains l v) (sym same) a)
                | inr b ↦ inr b
              ]
              | inr e ↦ inr (w.in_default.ensures v s e)
            ];
          }
    ]

pub returns : goal.returns
returns g c =
    let is = dedup_is _ _ _ c.dedup.ensures.filtered in
    let moved = c.sort_unstable.ensures.permutation in record {
      ascend = rw is (IsStrictlyIncreasing-dedup _ c.sort_unstable.ensures.sorted);
      led = λ v h. c.loop-i.invariant.led v
          (Contains-permutation _ _ v (IsPermutation-sym _ _ moved) (Contains-from_dedup _ _ v (rw is at h)));
      every = λ v s. elim (c.loop-i.invariant.every v s
          (omega (arith, s.tight.opens.listed, c.loop-i-test.false, c.loop-i.auto.i-end, c.arity-i-end.ensures))) [
            | inl a ↦ inl (rw is (Contains-dedup_nat _ v (Contains-permutation _ _ v moved a)))
            | inr b ↦ inr b
          ];
    }
