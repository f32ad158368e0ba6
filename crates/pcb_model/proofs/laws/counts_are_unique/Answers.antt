use Rattle.pcb_model.specs.Pairs.{Agrees}
use Rattle.pcb_model.proofs.Counting.{same_count}
use Rattle.pcb_model.proofs.laws.counts_are_unique.Goals as goal

pub returns : goal.returns
returns c = λ d a items m n. same_count (λ b. Agrees d a b → ⊥) items m n
