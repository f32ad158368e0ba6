use Rattle.std.proofs.Common.{◌≡◌, ◌+◌, Some, sym, subst, ◌∙◌}
use Rattle.route_lattice.proofs.Gaining.{on_ok}
use Rattle.cut_certificate.specs.inner.Marks.{IsLedTo, fill_of}
use Rattle.cut_certificate.proofs.Gaining.{gains_as}
use Rattle.cut_certificate.proofs.Leading.{led_there, leads_there}
use Rattle.cut_certificate.proofs.sound.SoundMoves.follow_one.Goals as goal

pub returns : goal.returns
returns g c =
    let graph = g.M.Moves.graph c.args.self.now in
    let node = c.args.node in
    let i = c.args.i in
    let move = c.in-Some.field-0-0 in
    let to = c.in-Some.to in
    let there : graph.at node i ≡ Some (move, to) =
    sym (subst (λ m. c.at.result ≡ (g.M.Moves.graph m).at node i) c.self.view_is c.at.ensures) ∙ c.in-Some.is in
    let is_open = subst (λ m. (g.M.Moves.graph m).open_at node i) c.self.view_is c.if-not-is_open.ensures.opens in
    let priced = subst (λ m. (g.M.Moves.graph m).priced node i c.price-price.result) c.self.view_is
    c.price-price.ensures in
    let led : IsLedTo graph node i (i + 1) to = leads_there graph node i move to c.price-price.result c.requires.index
    there is_open priced in
    on_ok c.mark.result
    (gains_as (λ v. to ≡ v) (IsLedTo graph node i (i + 1)) (fill_of c.args.front.now) (fill_of c.mark.new.self)
    (λ v e. subst (IsLedTo graph node i (i + 1)) e led) (led_there graph node i move to there))
    c.mark.ensures
