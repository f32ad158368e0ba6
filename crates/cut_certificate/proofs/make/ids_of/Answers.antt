use Rattle.std.proofs.Common.{refl, All}
use Rattle.std.specs.Prelude.{Contains}
use Rattle.pcb_islands.specs.declared.net.Island.{Island}
use Rattle.cut_certificate.proofs.Each.{each_true}
use Rattle.cut_certificate.proofs.Making.{ids_step, ids_made}
use Rattle.cut_certificate.proofs.make.ids_of.Goals as goal

pub loop-other-preserved : goal.loop-other-preserved
loop-other-preserved c =
    ids_step c.args.others.now c.loop-other.other-index c.other-item.result c.loop-other.ids.items c.as_slice.result.now
    c.extend_from_slice.new.self.items c.loop-other-test.true c.other-item.is c.as_slice.ensures
    c.in_ok-extend_from_slice.ensures.items c.loop-other.invariant.sound c.loop-other.invariant.complete

pub returns : goal.returns
returns c = ids_made c.args.others.now c.loop-other.ids.items c.loop-other.invariant.sound
    ((each_true (λ (p : Island). All (Contains c.loop-other.ids.items) p.items) c.args.others.now
    c.loop-other.other-index c.loop-other-test.false c.loop-other.invariant.complete).0 refl)
