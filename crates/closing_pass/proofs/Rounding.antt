-- Rounds of settled moves: what a net's turn leaves, a round of them, and rounds until nobody is helped.
use Rattle.std.proofs.Common.{◌≡◌, ◌⊎◌, ℕ, ◌+◌, ◌<◌, ◌≤◌, List, [], ◌∷◌, ◌++◌, length, Some, refl}
use Rattle.std.proofs.Common.{sym, ap, ◌∙◌, subst, inl}
use Rattle.std.proofs.Common.{inr, arith, length-append, ◌==◌, eq-eqb, Bool, true, false}
use Rattle.std.specs.Prelude.{Contains, not, slice_get}
use Rattle.std.specs.Bool.{OnFalse, OnTrue}
use Rattle.std.proofs.lemmas.Bool.{eqb-true, false≢true}
use Rattle.std.proofs.lemmas.List.{append-nil, nil_from_length}
use Rattle.std.proofs.lemmas.Option.{slice_get_within}
use Rattle.pcb_model.specs.declared.item.Item.{Item}
use Rattle.pcb_islands.specs.declared.net.Island.{Island}
use Rattle.pcb_islands.specs.Islands.{AreIslands, IsComplete}
use Rattle.pcb_islands.proofs.Elements.{look_cases}
use Rattle.pcb_islands.proofs.Touches.{below_or_same}
use Rattle.route_lattice.specs.Mesh.{Mesh}
use Rattle.cut_certificate.specs.declared.cut.Cut.{Cut}
use Rattle.pcb_board.specs.declared.answer.Entry.{Entry}
use Rattle.pcb_board.specs.Boards.{BoardOf, replay}
use Rattle.pcb_board.specs.Keeping.{IsBoard}
use Rattle.pcb_board.proofs.Standing.{serves_now}
use Rattle.closing_pass.specs.Closing.{CanClose, Closes, HasClosed, HaveCuts}
use Rattle.closing_pass.specs.OpenCount.{FewerOpen, IsOpenCount}
use Rattle.closing_pass.specs.inner.Steps.{IsClosed, IsShutAt, JoinsNet}
use Rattle.closing_pass.specs.inner.Tries.{AreCutsSettled, AreShutOn, IsHelped}
use Rattle.closing_pass.specs.inner.Rounds.{AreSettledEnds, EndsSettled, GrowsFewer, HasCutsOf, HasHelped, HasRounded}
use Rattle.closing_pass.specs.inner.Rounds.{HasTurned, IsNetSettled}
use Rattle.closing_pass.proofs.Closings.{grows_stays, history_grows, joins_none, joins_on}
use Rattle.closing_pass.proofs.Ending.{shut_of}
use Rattle.closing_pass.proofs.Fewer.{fewer_on, never_fewer, never_grown, never_on, never_same, single}

-- ---- the history
-- a board with no further entry is the same
pub same_board : (m : Mesh) (via_cost : ℕ) (a b : BoardOf) → IsBoard a → IsBoard b → Closes m via_cost a b
    → length b.history ≤ length a.history → b ≡ a
same_board m via_cost a b before after joins le =
    let all : length b.history ≡ length a.history + length joins.entries =
    ap (λ (es : List Entry). length es) joins.history_is ∙ length-append a.history joins.entries in
    let none : joins.entries ≡ [] = nil_from_length joins.entries (omega (arith, all, le)) in
    let history : b.history ≡ a.history =
    joins.history_is ∙ (ap (λ (es : List Entry). a.history ++ es) none ∙ append-nil a.history) in
    let items : b.items ≡ a.items = sym after.replays ∙ ((λ i. replay (joins.design_stays i) (joins.start_stays i)
    (history i) (length (history i))) ∙ before.replays) in
    λ i. record {
      design = joins.design_stays i;
      start = joins.start_stays i;
      cap = joins.cap_stays i;
      history = history i;
      items = items i;
    }

-- ---- tests
pub unchanged : (a b : ℕ) → a ≡ b → not (a == b) ≡ false
unchanged a b e = ap not (eq-eqb a b e)

pub same_length : (a b : ℕ) → not (a == b) ≡ false → a ≡ b
same_length a b e = by (a == b) refl
  where
    by : (t : Bool) → (a == b) ≡ t → a ≡ b
    by true is = eqb-true a b is
    by false is = absurd (false≢true (sym e ∙ ap not is))

pub on_same : (a b : ℕ) (P : Type 0) → (a ≡ b → P) → OnFalse (not (a == b)) P
on_same a b P h = by (a == b) refl
  where
    by : (t : Bool) → (a == b) ≡ t → OnFalse (not t) P
    by true is = h (eqb-true a b is)
    by false is = tt

pub on_other : (a b : ℕ) (P : Type 0) → (¬ (a ≡ b) → P) → OnTrue (not (a == b)) P
on_other a b P h = by (a == b) refl
  where
    by : (t : Bool) → (a == b) ≡ t → OnTrue (not t) P
    by true is = tt
    by false is = h (λ e. false≢true (sym is ∙ eq-eqb a b e))

-- ---- steps
module _ (m : Mesh) (via_cost : ℕ) where
  pub closed_same : (b c : BoardOf) → IsBoard b → c ≡ b → HasClosed m via_cost b c
  closed_same b c kept same = record {
    closes = subst (λ (x : BoardOf). Closes m via_cost b x) (sym same) (joins_none 16 m via_cost b);
    fewer = never_same b c kept same;
  }

  pub closed_then : (a b c : BoardOf) → IsBoard b → HasClosed m via_cost a b → HasClosed m via_cost b c
      → HasClosed m via_cost a c
  closed_then a b c kept first second = record {
    closes = joins_on 16 m via_cost a b c first.closes second.closes;
    fewer = never_on a b c kept first.fewer second.fewer;
  }

  pub closed_grown : (b c : BoardOf) → IsBoard b → Closes m via_cost b c
      → ((x : Item) → Contains b.items x → Contains c.items x) → HasClosed m via_cost b c
  closed_grown b c kept closes more =
      record { closes = closes; fewer = never_grown b c kept closes.design_stays more }

  pub closed_net : (net : ℕ) (b c : BoardOf) → IsBoard b → JoinsNet m via_cost net b c → HasClosed m via_cost b c
  closed_net net b c kept joins = closed_grown b c kept joins.closes
      (grows_stays net b c joins.grows)

  pub closed_helped : (b c : BoardOf) → IsHelped m via_cost b c → HasClosed m via_cost b c
  closed_helped b c h = record { closes = h.closes; fewer = never_fewer b c h.fewer }

  pub grows_helped : (b c : BoardOf) → IsHelped m via_cost b c → GrowsFewer b c
  grows_helped b c h =
      record { fewer = λ _. h.fewer; same = λ le. absurd (let more = h.longer in omega (arith, more, le)) }

pub grows_same : (b c : BoardOf) → c ≡ b → GrowsFewer b c
grows_same b c same = record {
  fewer = λ more. absurd (let e = ap (λ (x : BoardOf). length x.history) same in omega (arith, e, more));
  same = λ _. same;
}

-- ---- a net's turn
module _ (m : Mesh) (via_cost tries net : ℕ) where
  pub net_settled : (b : BoardOf) (cuts : List Cut) (found : List Island) → IsBoard b
      → AreIslands b.design b.items net found → AreCutsSettled m via_cost tries b found cuts
      → IsNetSettled m via_cost tries b net cuts
  net_settled b cuts found kept are settled other other_are =
      subst (λ (fs : List Island). AreCutsSettled m via_cost tries b fs cuts)
      (single b.design b.items net found other kept.sound (serves_now b kept) are other_are) settled

  -- a net that is closed, and isn't whole
  shut_there : (b : BoardOf) (found : List Island) → IsBoard b → AreIslands b.design b.items net found
      → IsClosed m via_cost b net → ¬ (length found ≤ 1) → (place : ℕ)
      → IsShutAt b.design m via_cost b.items found place
  shut_there b found kept are closed several = shut_of b.design m via_cost net b.items found closed
      (single b.design b.items net closed.found found kept.sound (serves_now b kept) closed.islands are) several

  pub shut_on : (b : BoardOf) (found : List Island) → IsBoard b → CanClose m via_cost b.design
      → net < length b.design.nets → AreIslands b.design b.items net found → IsClosed m via_cost b net
      → ¬ (length found ≤ 1) → AreShutOn m via_cost b found
  shut_on b found kept can there are closed several = record {
    can = can;
    net = net;
    net_there = there;
    islands = are;
    shut = shut_there b found kept are closed several;
  }

  pub cuts_of : (b : BoardOf) (found : List Island) (cuts : List Cut) → IsBoard b
      → AreIslands b.design b.items net found → IsClosed m via_cost b net → ¬ (length found ≤ 1)
      → HaveCuts b.design m via_cost b.items found cuts → HasCutsOf m via_cost b net cuts
  cuts_of b found cuts kept are closed several have = record {
    found = found;
    islands = are;
    several = omega (arith, several);
    shut = shut_there b found kept are closed several;
    cuts_are = have;
  }

  -- a complete net
  pub whole_ends : (b : BoardOf) (found : List Island) → AreIslands b.design b.items net found
      → IsComplete b.design b.items net → EndsSettled m via_cost tries b net []
  whole_ends b found are complete = record {
    ends = record { found = found; islands = are; ends = inl (complete, refl) };
    settled = λ other other_are. record {
      each = λ place island cut at cut_at. absurd
          (let w = slice_get_within {A = Cut} [] place cut cut_at in omega (arith, w));
    };
  }

  -- one with cuts
  pub cuts_end : (b c : BoardOf) (cuts : List Cut) → HasCutsOf m via_cost b net cuts
      → HasHelped m via_cost tries net cuts b c → HasTurned m via_cost tries net b c cuts
  cuts_end b c cuts of helped = record { quiet = by helped }
    where
      by : HasHelped m via_cost tries net cuts b c → length c.history ≤ length b.history
          → EndsSettled m via_cost tries b net cuts
      by (inl h) le = absurd (let more = h.longer in omega (arith, more, le))
      by (inr h) le = record {
        ends = record { found = of.found; islands = of.islands; ends = inr (of.several, of.cuts_are) };
        settled = h.1;
      }

  pub helped_closed : (b c : BoardOf) (cuts : List Cut) → IsBoard b → HasHelped m via_cost tries net cuts b c
      → HasClosed m via_cost b c
  helped_closed b c cuts kept (inl h) = closed_helped m via_cost b c h
  helped_closed b c cuts kept (inr h) = closed_same m via_cost b c kept h.0

  pub helped_grows : (b c : BoardOf) (cuts : List Cut) → HasHelped m via_cost tries net cuts b c → GrowsFewer b c
  helped_grows b c cuts (inl h) = grows_helped m via_cost b c h
  helped_grows b c cuts (inr h) = grows_same b c h.0

  -- behind joins of the net
  pub turned_later : (a b c : BoardOf) (cuts : List Cut) → IsBoard a → IsBoard b → Closes m via_cost a b
      → Closes m via_cost b c → HasTurned m via_cost tries net b c cuts → HasTurned m via_cost tries net a c cuts
  turned_later a b c cuts before kept first second turned = record {
    quiet = λ le.
        let more = history_grows 16 m via_cost a b first in
        let later = history_grows 16 m via_cost b c second in
        let same = same_board m via_cost a b before kept first (omega (arith, later, le)) in
        subst (λ (x : BoardOf). EndsSettled m via_cost tries x net cuts) same
        (turned.quiet (omega (arith, more, le)));
  }

-- ---- a round
-- the first n nets end on the board, and no settled move helps them
pub record AreSettledTo (m : Mesh) (via_cost tries : ℕ) (b : BoardOf) (n : ℕ) (ends : List (List Cut)) : Type 0 where
  pub all : length ends ≡ n
  pub each : (net : ℕ) (cuts : List Cut) → slice_get ends net ≡ Some cuts → EndsSettled m via_cost tries b net cuts

-- so many nets had their turn
pub record IsRounding (m : Mesh) (via_cost tries n : ℕ) (old b : BoardOf) (ends : List (List Cut)) : Type 0 where
  pub closes : HasClosed m via_cost old b
  pub fewer : GrowsFewer old b
  pub quiet : length b.history ≤ length old.history → AreSettledTo m via_cost tries old n ends

module _ (m : Mesh) (via_cost tries : ℕ) where
  pub rounding_none : (b : BoardOf) → IsBoard b → IsRounding m via_cost tries 0 b b []
  rounding_none b kept = record {
    closes = closed_same m via_cost b b kept refl;
    fewer = grows_same b b refl;
    quiet = λ _. record {
      all = refl;
      each = λ net cuts at. absurd (let w = slice_get_within {A = List Cut} [] net cuts at in omega (arith, w));
    };
  }

  -- no entry, or some
  quiet_or_not : (k l : ℕ) → (k ≤ l) ⊎ (l < k)
  quiet_or_not k l = elim (below_or_same l k) [
    | inl less ↦ inr less
    | inr o ↦ elim o [ inl more ↦ inl (omega (arith, more)) | inr same ↦ inl (omega (arith, same)) ]
  ]

  pub grows_more : (old b c : BoardOf) → IsBoard b → GrowsFewer old b
      → (length b.history ≤ length old.history → GrowsFewer b c) → HasClosed m via_cost b c → GrowsFewer old c
  grows_more old b c kept before now closed = by (quiet_or_not (length b.history) (length old.history))
    where
      by : (length b.history ≤ length old.history) ⊎ (length old.history < length b.history) → GrowsFewer old c
      by (inl le) = subst (λ (x : BoardOf). GrowsFewer x c) (before.same le) (now le)
      by (inr less) = record {
        fewer = λ _. fewer_on old b c kept (before.fewer less) closed.fewer;
        same = λ le. absurd
            (let more = history_grows 16 m via_cost b c closed.closes in omega (arith, more, le, less));
      }

  pub rounding_more : (n : ℕ) (old b c : BoardOf) (ends more : List (List Cut)) (cuts : List Cut) → IsBoard b
      → IsRounding m via_cost tries n old b ends → HasTurned m via_cost tries n b c cuts
      → (length b.history ≤ length old.history → GrowsFewer b c) → HasClosed m via_cost b c
      → more ≡ ends ++ cuts ∷ [] → IsRounding m via_cost tries (n + 1) old c more
  rounding_more n old b c ends more cuts kept before turned now closed is = record {
    closes = closed_then m via_cost old b c kept before.closes closed;
    fewer = grows_more old b c kept before.fewer now closed;
    quiet = λ le.
        let grown = history_grows 16 m via_cost b c closed.closes in
        let first = history_grows 16 m via_cost old b before.closes.closes in
        let early : length b.history ≤ length old.history = omega (arith, grown, le) in
        let so = before.quiet early in
        let here : EndsSettled m via_cost tries old n cuts =
        subst (λ (x : BoardOf). EndsSettled m via_cost tries x n cuts) (before.fewer.same early)
        (turned.quiet (omega (arith, first, le))) in
        record {
          all = (let count : length ends ≡ n = so.all in
              ap length is ∙ length-append ends (cuts ∷ []) ∙ omega (arith, count));
          each = λ net own at. elim (look_cases ends cuts net own
              (subst (λ (xs : List (List Cut)). slice_get xs net ≡ Some own) is at)) [
                | inl there ↦ so.each net own there
                | inr last ↦
                    subst (λ (k : ℕ). EndsSettled m via_cost tries old k own) (sym (last.0 ∙ so.all))
                    (subst (EndsSettled m via_cost tries old n) last.1 here)
              ];
        };
  }

  pub settled_all : (b : BoardOf) (n : ℕ) (ends : List (List Cut)) → n ≡ length b.design.nets
      → AreSettledTo m via_cost tries b n ends → AreSettledEnds m via_cost tries b ends
  settled_all b n ends all so = record {
    ends_are = record { all = so.all ∙ all; each = λ net cuts at. (so.each net cuts at).ends };
    settled = record {
      each = λ net cuts found place island cut at are found_at cut_at.
          ((so.each net cuts at).settled found are).each place island cut found_at cut_at;
    };
  }

  pub rounded : (old b : BoardOf) (n : ℕ) (ends : List (List Cut)) → n ≡ length old.design.nets
      → IsRounding m via_cost tries n old b ends → HasRounded m via_cost tries old b ends
  rounded old b n ends all r = record { quiet = λ le. settled_all old n ends all (r.quiet le) }

  -- a round behind the joins
  pub round_settled : (b c : BoardOf) (ends : List (List Cut)) → GrowsFewer b c → HasRounded m via_cost tries b c ends
      → length c.history ≤ length b.history → AreSettledEnds m via_cost tries c ends
  round_settled b c ends grows round le = subst (λ (x : BoardOf). AreSettledEnds m via_cost tries x ends)
      (sym (grows.same le)) (round.quiet le)

-- ---- rounds
-- so many connections were open before the last round, and fewer are where it helped
pub record IsFalling (b : BoardOf) (count : ℕ) : Type 0 where
  pub before : BoardOf
  pub is_count : IsOpenCount before.design before.items count
  pub fewer : FewerOpen before b

pub falling : (helped : Bool) (old b : BoardOf) (count : ℕ) → IsOpenCount old.design old.items count
    → OnTrue helped (FewerOpen old b) → OnTrue helped (IsFalling b count)
falling true old b count is fewer = record { before = old; is_count = is; fewer = fewer }
falling false old b count is fewer = tt
