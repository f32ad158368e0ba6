use Rattle.std.proofs.Common.{ℕ, ◌<◌, subst}
use Rattle.cut_certificate.proofs.sound.SoundMoves.have_prices.Goals as goal

pub returns : goal.returns
returns g c =
    subst (λ m. (node i : ℕ) → node < (g.M.Moves.graph m).count → i < (g.M.Moves.graph m).arity
    → (p : ℕ) × (g.M.Moves.graph m).priced node i p) c.self.view_is c.has_prices.ensures
