use Rattle.std.proofs.Common.{◌≡◌, ℕ, ◌<◌, arith}
use Rattle.fault_notes.specs.declared.trouble.Choice.TheVariants.{Grid, Workers, Passes, ViaCost, Tries, OmitFixed}
use Rattle.fault_notes.specs.declared.trouble.Choice.TheVariants.{Diagonal, From}
use Rattle.fault_notes.specs.Words.{name_of, with_value}
use Rattle.fault_notes.proofs.look.option_look.Goals as goal

pub returns : goal.returns
returns c =
    let none = λ (k : ℕ) (less : k < 8). c.loop-choice.invariant k (omega arith) in (
      c.requires,
      record {
        alone = λ choice. elim choice as (λ x. c.args.word.now ≡ name_of x → ⊥) [
          | Grid ↦ (none 0 (omega arith)).0
          | Workers ↦ (none 1 (omega arith)).0
          | Passes ↦ (none 2 (omega arith)).0
          | ViaCost ↦ (none 3 (omega arith)).0
          | Tries ↦ (none 4 (omega arith)).0
          | OmitFixed ↦ (none 5 (omega arith)).0
          | From ↦ (none 6 (omega arith)).0
          | Diagonal ↦ (none 7 (omega arith)).0
        ];
        valued = λ choice value. elim choice as (λ x. c.args.word.now ≡ with_value x value → ⊥) [
          | Grid ↦ (none 0 (omega arith)).1 value
          | Workers ↦ (none 1 (omega arith)).1 value
          | Passes ↦ (none 2 (omega arith)).1 value
          | ViaCost ↦ (none 3 (omega arith)).1 value
          | Tries ↦ (none 4 (omega arith)).1 value
          | OmitFixed ↦ (none 5 (omega arith)).1 value
          | From ↦ (none 6 (omega arith)).1 value
          | Diagonal ↦ (none 7 (omega arith)).1 value
        ];
      },
    )
