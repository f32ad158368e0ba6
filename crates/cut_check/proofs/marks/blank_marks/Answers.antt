use Rattle.std.proofs.Common.{subst}
use Rattle.std.specs.Prelude.{ℕ}
use Rattle.cut_check.specs.Marks.{IsBlank}
use Rattle.cut_check.proofs.Marking.{blank_of}
use Rattle.cut_check.proofs.marks.blank_marks.Goals as goal

pub returns : goal.returns
returns c = subst (λ (n : ℕ). IsBlank n c.in_ok-marks.marks.items) c.count.ensures.nodes
    (blank_of c.count.result c.in_ok-marks.marks.items (c.in_ok-marks.ensures.items_if_clones_equal (λ y e. e)))
