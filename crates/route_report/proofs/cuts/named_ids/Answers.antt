use Rattle.std.proofs.Common.{ℕ, Vec, Global, ap, ◌∙◌, ◌||◌, arith}
use Rattle.cut_certificate.specs.declared.cut.Block.{Block}
use Rattle.cut_certificate.specs.declared.cut.Blocker.TheVariants.{Item}
use Rattle.route_report.specs.Report.{is_named}
use Rattle.route_report.specs.inner.Naming.{holds}
use Rattle.route_report.proofs.Named.{held_all, held_more, held_on}
use Rattle.route_report.proofs.cuts.named_ids.Goals as goal
use Rattle.route_report.proofs.cuts.named_ids.Goals.{in-Item+in_ok-push, in_default}

pub loop-b-init : goal.loop-b-init
loop-b-init c = λ id. ap (λ ids. holds ids id || is_named c.args.blocked.now id) c.new-ids.ensures.items

pub loop-b-preserved : goal.loop-b-preserved
loop-b-preserved c =
    let blocked = c.args.blocked.now in
    let i = c.loop-b.b-index in
    let none : Block = record { node = 0; index = 0; by = Item 0 } in
    λ id. elim c.match-b.branch [
      | in-Item+in_ok-push w ↦
          held_more blocked i none w.in-Item.id id (is_named blocked id) c.loop-b.ids.items c.match-b.ids.items
          c.loop-b-test.true w.in-Item.is (ap (λ (v : Vec ℕ Global). v.items) w.ids-is ∙ w.in_ok-push.ensures.items)
          (c.loop-b.invariant id)
      | in_default w ↦
          held_on blocked i none id (is_named blocked id) c.loop-b.ids.items c.match-b.ids.items
          c.loop-b-test.true w.in_default.is (ap (λ (v : Vec ℕ Global). v.items) w.ids-is) (c.loop-b.invariant id)
    ]

pub returns : goal.returns
returns c = record {
  named = λ id. held_all c.args.blocked.now c.loop-b.b-index id _ c.loop-b.ids.items
      (omega (arith, c.loop-b-test.false)) (c.loop-b.invariant id);
}
