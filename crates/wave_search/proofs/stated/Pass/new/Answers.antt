use Rattle.wave_search.proofs.Passing.{blank_pass}
use Rattle.wave_search.proofs.stated.Pass.new.Goals as goal

pub returns : goal.returns
returns c = blank_pass c.args.count _ c.new.ensures.items c.new-2.ensures.items
    (c.in_ok-marks.ensures.items_if_clones_equal (λ _ h. h))
