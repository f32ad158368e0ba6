use Rattle.std.proofs.Common.{◌≡◌, ℕ, List, Bool, true, true≢false, sym, subst, ◌∙◌}
use Rattle.std.proofs.Math.ListN.{set}
use Rattle.cut_certificate.specs.inner.Marks.{Gains, fill_of}
use Rattle.cut_certificate.proofs.Gaining.{gains_one}
use Rattle.cut_certificate.proofs.front.Front.mark.Goals as goal

pub returns : goal.returns
returns c =
    let f = fill_of c.args.self.now in
    let node = c.args.node in
    let waiting = c.push.new.self.items in
    subst (λ (ms : List Bool). Gains (λ v. node ≡ v) f (record { marks = ms; waiting = waiting }))
    (sym c.in_ok-set.ensures)
    (subst (λ (xs : List ℕ). Gains (λ v. node ≡ v) f (record { marks = set f.marks node true; waiting = xs }))
    (sym c.in_ok-push.ensures.items)
    (gains_one f node c.requires (λ m. true≢false (sym (c.has.ensures.1 m) ∙ c.if-has.false))))
