-- The turns of nets, one after another.
use Rattle.std.proofs.Common.{◌≡◌, ◌≢◌, ◌∙◌, ◌⊎◌, ℕ, ◌+◌, ◌<◌, ◌≤◌, Bool, true, false, List, [], ◌++◌, length}
use Rattle.std.proofs.Common.{take, get_or, Some, refl, sym, ap, subst, arith, inl, inr, All}
use Rattle.std.specs.Prelude.{◌||◌}
use Rattle.std.specs.List.{AllZip}
use Rattle.std.proofs.lemmas.List.{take_all}
use Rattle.std.proofs.lemmas.Option.{slice_get-get_or}
use Rattle.pcb_model.specs.declared.item.Item.{Item}
use Rattle.pcb_model.specs.declared.design.Design.{Design}
use Rattle.pcb_islands.specs.declared.net.Island.{Island}
use Rattle.pcb_islands.specs.Islands.{AreIslands}
use Rattle.route_lattice.specs.Mesh.{Mesh}
use Rattle.cut_certificate.specs.declared.cut.Cut.{Cut}
use Rattle.pcb_board.specs.Boards.{BoardOf, SnapOf}
use Rattle.pcb_board.specs.Answers.{snap_of}
use Rattle.pcb_board.specs.Keeping.{IsBoard}
use Rattle.pcb_board.proofs.Standing.{ascends_now, serves_now}
use Rattle.closing_pass.specs.Closing.{AreEnds, CanClose, Ends}
use Rattle.closing_pass.specs.inner.Steps.{IsClosed}
use Rattle.closing_pass.proofs.Closings.{closed_on}
use Rattle.wide_pass.specs.Rounds.{IsWideSize, JoinsWide}
use Rattle.wide_pass.specs.inner.Joins.{IsJoined, IsWideShut, TriesNet}
use Rattle.wide_pass.specs.inner.Sizes.{AddsSizes, CanReach, IsWideOpen}
use Rattle.wide_pass.specs.inner.Passes.{HasGrown, HasLooked, IsSnapTurn, Turns}
use Rattle.wide_pass.proofs.Ended.{closed_end}
use Rattle.wide_pass.proofs.Joining.{joined_grows, joined_wide, joins_on}
use Rattle.wide_pass.proofs.Sizing.{cuts_of, net_more}

-- what others_change_nothing says
abbrev pub OthersStay : Type 0
OthersStay = (b : BoardOf) → IsBoard b → (net : ℕ) (added : List Item) (found : List Island)
    → All (λ (x : Item). x.net ≢ Some net) added → AreIslands b.design b.items net found
    → AreIslands b.design (b.items ++ added) net found

module _ (m : Mesh) (via_cost : ℕ) where
  -- what was joined so far, or that nothing was
  abbrev pub SoFar : BoardOf → BoardOf → List (List Cut) → ℕ → List ℕ → Bool → Type 0
  SoFar base b ends n wide true = JoinsWide m via_cost base b
  SoFar base b ends n wide false = (b ≡ base) × AllZip (IsWideSize base.design m base.items via_cost)
      (cuts_of m via_cost (snap_of base) (take n ends)) wide

  -- the nets below one had their turns, and the others are closed
  pub record IsPassing (base b : BoardOf) (ends : List (List Cut)) (n : ℕ) (wide : List ℕ) (led : Bool) : Type 0 where
    pub board : IsBoard b
    pub closed : (net : ℕ) → n ≤ net → net < length base.design.nets → IsClosed m via_cost b net
    pub so_far : SoFar base b ends n wide led

  design_of : (base b : BoardOf) (ends : List (List Cut)) (n : ℕ) (wide : List ℕ) (led : Bool)
      → SoFar base b ends n wide led → b.design ≡ base.design
  design_of base b ends n wide true h = h.design_stays
  design_of base b ends n wide false h = ap (λ (x : BoardOf). x.design) h.0

  pub has_grown : (base b : BoardOf) (ends : List (List Cut)) (n : ℕ) (wide : List ℕ) (led : Bool)
      → SoFar base b ends n wide led → HasGrown m via_cost base b
  has_grown base b ends n wide true h = inr h
  has_grown base b ends n wide false h = inl h.0

  pub passing_none : (base : BoardOf) (ends : List (List Cut)) → IsBoard base
      → AreEnds base.design m via_cost base.items (length base.design.nets) ends
      → IsPassing base base ends 0 [] false
  passing_none base ends kept are = record {
    board = kept;
    closed = λ net le there.
        let at = slice_get-get_or ends net [] (let all = are.all in omega (arith, all, there)) in
        closed_end base.design m via_cost base.items kept.sound (serves_now base kept) net (get_or ends net [])
        (are.each net (get_or ends net []) at);
    so_far = (refl, tt);
  }

  -- a net's turn comes
  pub turn_comes : (base b : BoardOf) (s : SnapOf) (ends : List (List Cut)) (n : ℕ) (cuts e : List Cut)
      (wide : List ℕ) (led : Bool) → IsBoard base → s ≡ snap_of base → CanClose m via_cost base.design
      → AreEnds base.design m via_cost base.items (length base.design.nets) ends → n < length ends
      → cuts ≡ get_or ends n e → IsPassing base b ends n wide led → IsSnapTurn m via_cost s b n cuts
  turn_comes base b s ends n cuts e wide led kept s_is can are within is p =
      let all = are.all in
      let there : n < length base.design.nets = omega (arith, within, all) in
      let stays = design_of base b ends n wide led p.so_far in
      let at = slice_get-get_or ends n e within in
      let ends_here : Ends base.design m via_cost base.items n cuts =
      are.each n cuts (at ∙ ap (λ (cs : List Cut). Some cs) (sym is)) in
      record {
        can = subst (CanClose m via_cost) (sym stays) can;
        net_there = subst (λ (d : Design). n < length d.nets) (sym stays) there;
        closed = p.closed n (omega arith) there;
        reaches = subst (λ (x : SnapOf). CanReach m via_cost x n) (sym s_is) (record {
          can_move = record { sound = kept.sound; fits = can.fits; net_there = there; small_cost = can.small_cost };
          serves = serves_now base kept;
        });
        ends = subst (λ (x : SnapOf). Ends x.design m via_cost x.items n cuts) (sym s_is) ends_here;
      }

  -- a join, or that none is to be made
  pub led_joins : (net : ℕ) (b c : BoardOf) (t : Bool) → TriesNet m via_cost net b c t
      → IsJoined m via_cost net b c ⊎ (IsWideShut b.design m via_cost b.items net × (c ≡ b))
  led_joins net b c true j = inl j
  led_joins net b c false none = inr none

  -- a net that is still open where nothing was joined is no net that is shut
  open_is_not_shut : (d : Design) (items : List Item) (net : ℕ) → IsWideOpen d m via_cost items net
      → IsWideShut d m via_cost items net → ⊥
  open_is_not_shut d items net o shut =
      shut.each o.found o.islands o.place o.island o.island_is o.leads

  -- later nets stay closed
  still_closed : (base b c : BoardOf) (n : ℕ) → OthersStay → IsBoard b → IsBoard c → IsJoined m via_cost n b c
      → ((net : ℕ) → n ≤ net → net < length base.design.nets → IsClosed m via_cost b net)
      → (net : ℕ) → n + 1 ≤ net → net < length base.design.nets → IsClosed m via_cost c net
  still_closed base b c n others kept kept_c j closed net le there =
      closed_on m via_cost b c n net (λ same. omega (arith, same, le)) (ascends_now c kept_c)
      (joined_grows m via_cost n b c j) (others b kept net) (closed net (omega (arith, le)) there)

  -- after a join
  more_joins : (base b c : BoardOf) (ends : List (List Cut)) (n : ℕ) (wide : List ℕ) (led : Bool) → IsBoard b
      → SoFar base b ends n wide led → JoinsWide m via_cost b c → JoinsWide m via_cost base c
  more_joins base b c ends n wide true kept h j = joins_on m via_cost base b c kept h j
  more_joins base b c ends n wide false kept h j = subst (λ (x : BoardOf). JoinsWide m via_cost x c) h.0 j

  joined_on : (base b c : BoardOf) (ends : List (List Cut)) (n : ℕ) (wide later : List ℕ) (led : Bool) → OthersStay
      → IsBoard c → n < length base.design.nets → IsPassing base b ends n wide led
      → IsJoined m via_cost n b c → IsPassing base c ends (n + 1) later true
  joined_on base b c ends n wide later led others kept_c there p j = record {
    board = kept_c;
    closed = still_closed base b c n others p.board kept_c j p.closed;
    so_far = more_joins base b c ends n wide led p.board p.so_far
        (joined_wide m via_cost n b c p.board j
        (subst (λ (d : Design). n < length d.nets) (sym (design_of base b ends n wide led p.so_far)) there));
  }

  later_closed : (base b c : BoardOf) (n : ℕ) → c ≡ b
      → ((net : ℕ) → n ≤ net → net < length base.design.nets → IsClosed m via_cost b net)
      → (net : ℕ) → n + 1 ≤ net → net < length base.design.nets → IsClosed m via_cost c net
  later_closed base b c n same closed net le there =
      subst (λ (x : BoardOf). IsClosed m via_cost x net) (sym same) (closed net (omega (arith, le)) there)

  -- where the board stays
  stayed_on : (base b c : BoardOf) (ends : List (List Cut)) (n : ℕ) (wide later : List ℕ) → c ≡ b
      → IsPassing base b ends n wide true → IsPassing base c ends (n + 1) later true
  stayed_on base b c ends n wide later same p = record {
    board = subst IsBoard (sym same) p.board;
    closed = later_closed base b c n same p.closed;
    so_far = subst (JoinsWide m via_cost base) (sym same) p.so_far;
  }

  -- a turn was taken
  pub turn_taken : (base b c : BoardOf) (s : SnapOf) (ends : List (List Cut)) (n : ℕ) (cuts e : List Cut)
      (wide later : List ℕ) (led here : Bool) → OthersStay → IsBoard c → s ≡ snap_of base
      → n < length base.design.nets → n < length ends → cuts ≡ get_or ends n e → IsPassing base b ends n wide led
      → Turns m via_cost s n cuts b c wide later here → IsPassing base c ends (n + 1) later (led || here)
  turn_taken base b c s ends n cuts e wide later true true others kept_c s_is there within is p t =
      elim t.joins [
        | inl j ↦ joined_on base b c ends n wide later true others kept_c there p j
        | inr none ↦ stayed_on base b c ends n wide later none.1 p
      ]
  turn_taken base b c s ends n cuts e wide later true false others kept_c s_is there within is p t =
      stayed_on base b c ends n wide later t.1 p
  turn_taken base b c s ends n cuts e wide later false true others kept_c s_is there within is p t =
      elim t.joins [
        | inl j ↦ joined_on base b c ends n wide later false others kept_c there p j
        | inr none ↦ absurd (open_is_not_shut base.design base.items n
            (subst (λ (x : SnapOf). IsWideOpen x.design m via_cost x.items n) s_is t.leads)
            (subst (λ (x : BoardOf). IsWideShut x.design m via_cost x.items n) p.so_far.0 none.0))
      ]
  turn_taken base b c s ends n cuts e wide later false false others kept_c s_is there within is p t = record {
    board = kept_c;
    closed = later_closed base b c n t.1 p.closed;
    so_far = (
      t.1 ∙ p.so_far.0,
      net_more m via_cost (snap_of base) ends n cuts e wide later within is p.so_far.1
          (subst (λ (x : SnapOf). AddsSizes m via_cost x cuts wide later) s_is t.0),
    );
  }

  -- where memory was wanting
  pub turn_broken : (base b c : BoardOf) (ends : List (List Cut)) (n : ℕ) (wide : List ℕ) (led : Bool) → c ≡ b
      → IsPassing base b ends n wide led → HasGrown m via_cost base c
  turn_broken base b c ends n wide led same p =
      subst (HasGrown m via_cost base) (sym same) (has_grown base b ends n wide led p.so_far)

  -- all nets had their turns
  pub passed : (base b : BoardOf) (ends : List (List Cut)) (n : ℕ) (wide : List ℕ) (led : Bool) → length ends ≤ n
      → IsPassing base b ends n wide led → HasLooked m via_cost base b ends wide led
  passed base b ends n wide true le p = p.so_far
  passed base b ends n wide false le p = (
    p.so_far.0,
    subst (λ (es : List (List Cut)). AllZip (IsWideSize base.design m base.items via_cost)
        (cuts_of m via_cost (snap_of base) es) wide) (take_all n ends le) p.so_far.1,
  )
