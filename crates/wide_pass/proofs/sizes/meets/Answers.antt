use Rattle.std.proofs.Common.{ℕ, get_or, refl, true≢false, sym, ◌∙◌}
use Rattle.std.specs.Prelude.{Contains}
use Rattle.std.proofs.lemmas.Bool.{false≢true}
use Rattle.std.proofs.lemmas.List.Elements.{All-contains, Contains-get_or}
use Rattle.cut_certificate.proofs.Each.{each_more, each_true}
use Rattle.wide_pass.proofs.sizes.meets.Goals as goal

pub loop-goal-preserved : goal.loop-goal-preserved
loop-goal-preserved c =
    each_more (λ g. Contains c.args.nodes.now g → ⊥) c.args.goals.now c.loop-goal.goal-index 0 c.loop-goal-test.true
    c.loop-goal.invariant (λ m. true≢false (sym (c.has.ensures.1 m) ∙ c.if-has.false))

pub returns-then-has : goal.returns-then-has
returns-then-has c =
    let k = c.loop-goal.goal-index in (
      λ _. record {
        node = get_or c.args.goals.now k 0;
        there = c.has.ensures.0 c.if-has.true;
        goal = Contains-get_or c.args.goals.now k 0 c.loop-goal-test.true;
      },
      λ _. refl,
    )

pub returns : goal.returns
returns c =
    let none : (n : ℕ) → Contains c.args.nodes.now n → Contains c.args.goals.now n → ⊥ = λ n h k.
    All-contains (λ g. Contains c.args.nodes.now g → ⊥) c.args.goals.now n
    ((each_true (λ g. Contains c.args.nodes.now g → ⊥) c.args.goals.now c.loop-goal.goal-index
    c.loop-goal-test.false c.loop-goal.invariant).0 refl) k h in
    (λ t. absurd (false≢true t), λ m. absurd (none m.node m.there m.goal))
