use Rattle.wave_search.specs.inner.Order.{entries_of}
use Rattle.wave_search.proofs.Joined.{all_emptied, none_of_four}
use Rattle.wave_search.proofs.front.Bins.gather.Goals as goal

pub returns-clause-same : goal.returns-clause-same
returns-clause-same c = all_emptied
    (entries_of c.args.self.now.near) c.args.self.now.next c.args.self.now.later c.args.self.now.last
    c.args.self.now.spare
    (entries_of c.empty_into.new.near) (entries_of c.empty_into-2.new.near) (entries_of c.empty_into-3.new.near)
    (entries_of c.empty_into-4.new.near)
    c.empty_into.new.bin c.empty_into-2.new.bin c.empty_into-3.new.bin c.empty_into-4.new.bin
    c.in_ok-empty_into.ensures.same c.in_ok-empty_into-2.ensures.same c.in_ok-empty_into-3.ensures.same
    c.in_ok-empty_into-4.ensures.same
    c.in_ok-empty_into.ensures.empty c.in_ok-empty_into-2.ensures.empty c.in_ok-empty_into-3.ensures.empty
    c.in_ok-empty_into-4.ensures.empty

pub returns-clause-ready : goal.returns-clause-ready
returns-clause-ready c = record {
  before = λ e w. absurd (none_of_four c.empty_into.new.bin c.empty_into-2.new.bin c.empty_into-3.new.bin
      c.empty_into-4.new.bin c.in_ok-empty_into.ensures.empty c.in_ok-empty_into-2.ensures.empty
      c.in_ok-empty_into-3.ensures.empty c.in_ok-empty_into-4.ensures.empty e w);
}
