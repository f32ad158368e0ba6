-- Rounds one after another, and that they end.
use Rattle.std.proofs.Common.{◌≡◌, ◌∙◌, ℕ, ◌+◌, ◌-◌, inl, inr, ◌<◌, ◌≤◌, Bool, true, false}
use Rattle.std.proofs.Common.{List, [], ◌∷◌, ◌++◌, length, sym}
use Rattle.std.proofs.Common.{ap, subst}
use Rattle.std.specs.Prelude.{sum_by, flat_map}
use Rattle.std.specs.List.{AllZip}
use Rattle.route_lattice.specs.Mesh.{Mesh}
use Rattle.cut_certificate.specs.declared.cut.Cut.{Cut}
use Rattle.pcb_board.specs.Boards.{BoardOf}
use Rattle.pcb_board.specs.Keeping.{IsBoard}
use Rattle.pcb_board.proofs.Standing.{serves_now}
use Rattle.closing_pass.specs.Closing.{AreEnds, Closes, HasClosed, IsClosedOut}
use Rattle.closing_pass.specs.OpenCount.{NeverMore}
use Rattle.closing_pass.specs.Settled.{AreSettled}
use Rattle.closing_pass.specs.declared.closed.Closed.{Closed}
use Rattle.closing_pass.proofs.Closings.{joins_none}
use Rattle.closing_pass.proofs.Fewer.{fewer_on, never_fewer, never_on}
use Rattle.wide_pass.specs.declared.round.Round.{Round}
use Rattle.wide_pass.specs.declared.close.Wide.{Wide}
use Rattle.wide_pass.specs.Rounds.{ClosesWide, HasClosedWide, IsClosedWide, IsWideSize, JoinsWide, Rounds}
use Rattle.wide_pass.specs.inner.Passes.{HasGrown, HasLooked, HasRounded}
use Rattle.wide_pass.proofs.Ended.{open_count}
use Rattle.wide_pass.proofs.Joined.{closed_design, rounds_longer}

-- so many connections are open where nets end so
abbrev pub open_of : List (List Cut) → ℕ
open_of ends = sum_by (λ (cuts : List Cut). length cuts - 1) ends

module _ (m : Mesh) (via_cost : ℕ) where
  -- rounds, joins between, and rounds again
  rounds_on : (bs cs : List BoardOf) (a b c e : BoardOf) → Rounds m via_cost bs a b → JoinsWide m via_cost b c
      → Rounds m via_cost cs c e → Rounds m via_cost (bs ++ c ∷ cs) a e
  rounds_on [] cs a b c e first joins then = (b, first, joins, then)
  rounds_on (x ∷ bs) cs a b c e first joins then =
      (first.0, first.1, first.2, rounds_on bs cs x b c e first.3 joins then)

  pub closes_on : (a b c e : BoardOf) → ClosesWide m via_cost a b → JoinsWide m via_cost b c
      → ClosesWide m via_cost c e → ClosesWide m via_cost a e
  closes_on a b c e first joins then = record {
    boards = first.boards ++ c ∷ then.boards;
    rounds = rounds_on first.boards then.boards a b c e first.rounds joins then.rounds;
  }

  pub closes_once : (a b : BoardOf) → Closes m via_cost a b → ClosesWide m via_cost a b
  closes_once a b c = record { boards = []; rounds = c }

  -- ---- what comes back
  pub back_closed : (a b : BoardOf) → HasClosed m via_cost a b → HasClosedWide m via_cost a b
  back_closed a b h = record { closes = closes_once a b h.closes; fewer = h.fewer }

  -- joins after a closing pass are rounds of which the last does nothing
  back_joins : (a b c : BoardOf) → IsBoard b → HasClosed m via_cost a b → JoinsWide m via_cost b c
      → HasClosedWide m via_cost a c
  back_joins a b c kept h j = record {
    closes = closes_on a b c c (closes_once a b h.closes) j (closes_once c c (joins_none 16 m via_cost c));
    fewer = never_on a b c kept h.fewer (never_fewer b c j.fewer);
  }

  pub back_grown : (a b c : BoardOf) → IsBoard b → HasClosed m via_cost a b → HasGrown m via_cost b c
      → HasClosedWide m via_cost a c
  back_grown a b c kept h g = elim g [
    | inl same ↦ subst (HasClosedWide m via_cost a) (sym same) (back_closed a b h)
    | inr j ↦ back_joins a b c kept h j
  ]

  -- ---- rounds
  module _ (tries : ℕ) where
    -- one round
    pub rounded_once : (a : BoardOf) (closed : Closed) (r : Round) → IsBoard closed.board → IsBoard r.board
        → IsClosedOut m via_cost tries a closed → r.ends ≡ closed.ends
        → HasLooked m via_cost closed.board r.board r.ends r.wide r.led → HasRounded m via_cost tries a r
    rounded_once a closed r kept kept_r h ends_are looked = record {
      shut = closed.board;
      shut_kept = kept;
      closes = closes_once a closed.board h.closes;
      never = h.fewer;
      ends = subst (AreEnds closed.board.design m via_cost closed.board.items (length closed.board.design.nets))
          (sym ends_are) h.ends;
      settled = subst (AreSettled m via_cost tries closed.board) (sym ends_are) h.settled;
      looked = looked;
      kept = kept_r;
    }

    joins_of : (a : BoardOf) (r : Round) → r.led ≡ true → (h : HasRounded m via_cost tries a r)
        → JoinsWide m via_cost h.shut r.board
    joins_of a r led h = subst (HasLooked m via_cost h.shut r.board r.ends r.wide) led h.looked

    -- and the next
    pub rounded_on : (a : BoardOf) (r s : Round) → r.led ≡ true → HasRounded m via_cost tries a r
        → HasRounded m via_cost tries r.board s → HasRounded m via_cost tries a s
    rounded_on a r s led h k =
        let j = joins_of a r led h in
        record {
          shut = k.shut;
          shut_kept = k.shut_kept;
          closes = closes_on a h.shut r.board k.shut h.closes j k.closes;
          never = never_on a h.shut k.shut h.shut_kept h.never
              (never_on h.shut r.board k.shut h.kept (never_fewer h.shut r.board j.fewer) k.never);
          ends = k.ends;
          settled = k.settled;
          looked = k.looked;
          kept = k.kept;
        }

    pub back_on : (a : BoardOf) (r : Round) (c : BoardOf) → r.led ≡ true → HasRounded m via_cost tries a r
        → HasClosedWide m via_cost r.board c → HasClosedWide m via_cost a c
    back_on a r c led h k =
        let j = joins_of a r led h in
        record {
          closes = closes_on a h.shut r.board c h.closes j k.closes;
          fewer = never_on a h.shut c h.shut_kept h.never
              (never_on h.shut r.board c h.kept (never_fewer h.shut r.board j.fewer) k.fewer);
        }

    -- fewer connections are open after it
    pub falls_on : (a : BoardOf) (r s : Round) → r.led ≡ true → HasRounded m via_cost tries a r
        → HasRounded m via_cost tries r.board s → open_of s.ends < open_of r.ends
    falls_on a r s led h k =
        let j = joins_of a r led h in
        fewer_on h.shut r.board k.shut h.kept j.fewer k.never (open_of r.ends) (open_of s.ends)
        (open_count h.shut.design m via_cost h.shut.items h.shut_kept.sound (serves_now h.shut h.shut_kept) r.ends
        h.ends)
        (open_count k.shut.design m via_cost k.shut.items k.shut_kept.sound (serves_now k.shut k.shut_kept) s.ends
        k.ends)

    -- the board has the design still
    pub design_on : (a : BoardOf) (r : Round) → HasRounded m via_cost tries a r → r.board.design ≡ a.design
    design_on a r h = same_by r.led h.looked ∙ closed_design m via_cost a h.shut h.closes
      where
        same_by : (led : Bool) → HasLooked m via_cost h.shut r.board r.ends r.wide led → r.board.design ≡ h.shut.design
        same_by true j = j.design_stays
        same_by false k = ap (λ (x : BoardOf). x.design) k.0

    -- the last round
    pub rounds_end : (a : BoardOf) (r : Round) (joins : ℕ) (w : Wide) → r.led ≡ false
        → HasRounded m via_cost tries a r → length a.history + joins ≡ length r.board.history
        → w.closed.board ≡ r.board → w.closed.ends ≡ r.ends → w.closed.joins ≡ joins → w.wide ≡ r.wide
        → IsClosedWide m via_cost tries a w
    rounds_end a r joins w led h count board_is ends_is joins_is wide_is =
        let last = subst (HasLooked m via_cost h.shut r.board r.ends r.wide) led h.looked in
        let same : w.closed.board ≡ h.shut = board_is ∙ last.0 in
        record {
          closes = subst (ClosesWide m via_cost a) (sym same) h.closes;
          count = ap (λ (k : ℕ). length a.history + k) joins_is ∙ (count
              ∙ ap (λ (x : BoardOf). length x.history) (sym board_is));
          ends = subst (λ (p : BoardOf × List (List Cut)).
              AreEnds p.0.design m via_cost p.0.items (length p.0.design.nets) p.1)
              (λ i. (sym same i, sym ends_is i)) h.ends;
          settled = subst (λ (p : BoardOf × List (List Cut)). AreSettled m via_cost tries p.0 p.1)
              (λ i. (sym same i, sym ends_is i)) h.settled;
          fewer = subst (NeverMore a) (sym same) h.never;
          wide = subst (λ (p : BoardOf × List (List Cut) × List ℕ).
              AllZip (IsWideSize p.0.design m p.0.items via_cost) (flat_map (λ (cuts : List Cut). cuts) p.1) p.2)
              (λ i. (sym same i, sym ends_is i, sym wide_is i)) last.1;
        }

    -- no entry goes
    pub last_longer : (a : BoardOf) (r : Round) → r.led ≡ false → HasRounded m via_cost tries a r
        → length a.history ≤ length r.board.history
    last_longer a r led h =
        let last = subst (HasLooked m via_cost h.shut r.board r.ends r.wide) led h.looked in
        subst (λ (x : BoardOf). length a.history ≤ length x.history) (sym last.0)
        (rounds_longer m via_cost h.closes.boards a h.shut h.closes.rounds)
