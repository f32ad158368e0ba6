-- A trial of an offer: what the board answers, and the walks behind it.
use Rattle.std.proofs.Common.{◌≡◌, ℕ, ◌<◌, List, length, sym, subst, arith, Option, Some, None, Result, Ok, Err}
use Rattle.std.specs.Prelude.{IfOk}
use Rattle.pcb_model.specs.Sound.{Serves}
use Rattle.pcb_islands.specs.declared.net.Island.{Island}
use Rattle.pcb_islands.specs.Islands.{AreIslands}
use Rattle.route_lattice.specs.Mesh.{Mesh}
use Rattle.board_offers.specs.declared.offer.Offer.{Offer}
use Rattle.board_offers.specs.Offers.{IsWellFormed}
use Rattle.pcb_board.specs.declared.answer.Answer.{Answer}
use Rattle.pcb_board.specs.declared.answer.Answer.TheVariants.{Committed, Stale, Wrong, Malformed, Full}
use Rattle.pcb_board.specs.Boards.{BoardOf, given}
use Rattle.pcb_board.specs.Answers.{Step, joined, known}
use Rattle.pcb_board.specs.Keeping.{Grows, IsBoard}
use Rattle.least_offer.specs.Least.{MayBeMade}
use Rattle.closing_pass.specs.Closing.{JoinsBy}
use Rattle.closing_pass.specs.Settled.{Rejoins}
use Rattle.closing_pass.specs.inner.Trials.{IsTrial, Retried, TriesOffer}
use Rattle.closing_pass.proofs.Closings.{joins_on}
use Rattle.closing_pass.proofs.Joining.{Single, joins_by, no_clause}

-- an offer that may be made is committed
pub not_other : (b : BoardOf) (o : Offer) (a : Answer) (c : BoardOf) → MayBeMade b o → o.worker ≡ 16 → Step b o a c
    → ((n : ℕ) → a ≡ Committed n → ⊥) → ⊥
not_other b o (Committed number) c may closer step other = other number (λ i. Committed number)
not_other b o Full c may closer step other = let full = step.0.worker in absurd (omega (arith, full, closer))
not_other b o (Malformed clause) c may closer step other = no_clause b o clause may.formed step.1
not_other b o (Stale item commit) c may closer step other = step.0.least.0 (may.clear item)
not_other b o (Wrong item commit) c may closer step other = step.0.least.0 (may.clear item)

-- what is committed is well formed, and made
pub was_made : (b x c : BoardOf) (o : Offer) (a : Answer) (n : ℕ) → x ≡ b → a ≡ Committed n → Step x o a c
    → IsWellFormed (known b) o × (c ≡ joined b o)
was_made b x c o a n x_is a_is step =
    let s = subst (λ (k : Answer). Step b o k c) a_is (subst (λ (y : BoardOf). Step y o a c) x_is step) in
    (s.0.formed, s.3)

-- so any other answer is that of an offer that isn't well formed
pub none_formed : (m : Mesh) (via_cost net : ℕ) (b x c : BoardOf) (o : Offer) (a : Answer)
    → IsTrial m via_cost b o net → x ≡ b → Step x o a c → ((n : ℕ) → a ≡ Committed n → ⊥)
    → TriesOffer m via_cost b o net None
none_formed m via_cost net b x c o a trial x_is step other = λ formed walks f.
    not_other b o a c (trial.may formed) trial.closer.worker_is
    (subst (λ (y : BoardOf). Step y o a c) x_is step) other

-- a board grows by joins
pub joins_grow : (m : Mesh) (via_cost : ℕ) (a b c : BoardOf) → JoinsBy 16 m via_cost a b → JoinsBy 16 m via_cost b c
    → Grows a c
joins_grow m via_cost a b c first second =
    let all = joins_on 16 m via_cost a b c first second in
    record {
      design_stays = all.design_stays;
      start_stays = all.start_stays;
      cap_stays = all.cap_stays;
      entries = all.entries;
      history_is = all.history_is;
    }

-- a trial's offer, made
module _ (m : Mesh) (via_cost net : ℕ) (b x : BoardOf) (o : Offer) (kept : IsBoard b)
    (trial : IsTrial m via_cost b o net) (x_is : x ≡ joined b o) where
  pub trial_joins : JoinsBy 16 m via_cost b x
  trial_joins = subst (JoinsBy 16 m via_cost b) (sym x_is)
      (joins_by 16 m via_cost b o kept trial.closer.worker_is trial.closer.penalty_is trial.closer.base_is trial.least
      trial.takes)

  pub trial_net : net < length x.design.nets
  trial_net = subst (λ (y : BoardOf). net < length y.design.nets) (sym x_is) trial.net_there

  module _ (before : List Island) (most : ℕ) (count : most ≡ length before)
      (islands : AreIslands b.design b.items net before) (single : Single) (serves : Serves b.items b.design) where
    -- the net was joined again, or can't be
    turned : (c : Option BoardOf) → Retried m via_cost net most x c
        → Retried m via_cost net (length before) (joined b o) c
    turned c r = subst (λ (k : ℕ). Retried m via_cost net k (joined b o) c) count
        (subst (λ (y : BoardOf). Retried m via_cost net most y c) x_is r)

    tried : (c : Option BoardOf) → IsWellFormed (known b) o → Retried m via_cost net most x c
        → TriesOffer m via_cost b o net c
    tried (Some c) formed r =
        let t = turned (Some c) r in
        record {
          formed = formed;
          walks = t.0.0;
          follows = record { before = before; islands = islands; rejoins = t.0.1 };
          few = t.1;
          joins = t.2;
        }
    tried None formed r = λ again walks f.
        let same = single b.design b.items net f.before before kept.sound serves f.islands islands in
        turned None r walks (subst (λ (fs : List Island). Rejoins b.design m via_cost net (length fs)
        (joined b o).items (length (given (joined b o))) walks) same f.rejoins)

    pub tried_all : {E : Type 0} (r : Result (Option BoardOf) E) → IsWellFormed (known b) o
        → IfOk r (Retried m via_cost net most x) → IfOk r (TriesOffer m via_cost b o net)
    tried_all (Ok c) formed h = tried c formed h
    tried_all (Err e) formed h = h
