-- The least id in a clash, while the routed items are gone over.
use Rattle.std.proofs.Common.{◌≡◌, ◌∙◌, ◌⊎◌, inl, inr, ℕ, ◌+◌, ◌<◌, ◌≤◌, min, List, Option, Some, None, ap, arith}
use Rattle.std.proofs.Common.{get_or, length, subst, sym}
use Rattle.std.specs.Prelude.{All, Contains, MatchOption}
use Rattle.std.proofs.Math.Nat.{min-le_left, min-le_right, min-eq_left, min-eq_right}
use Rattle.std.proofs.lemmas.Bool.{cases_lt}
use Rattle.std.proofs.lemmas.List.Elements.{Contains-get_or}
use Rattle.pcb_islands.proofs.Joined.{read_at}
use Rattle.pcb_model.specs.declared.item.Item.{Item}
use Rattle.pcb_model.specs.declared.design.Design.{Design}
use Rattle.pcb_model.specs.Pairs.{Agrees}
use Rattle.pcb_model.specs.Board.{IsRouted}
use Rattle.pcb_model.specs.Copper.{IsLeast}
use Rattle.copper_check.specs.Checks.{AgreesWithAll, Clashes, IsFirstBad}
use Rattle.copper_check.specs.inner.Searching.{AgreesBelow, AreSearched, HasClash, IsBelow, IsReached}

-- two ids are one where they are both the value
same_id : (m n : ℕ) → Some m ≡ Some n → m ≡ n
same_id m n e = cc

module _ (d : Design) (items : List Item) (turn : (e : Design) (x y : Item) → Agrees e x y → Agrees e y x) where
  -- the lesser id of a routed item and of the first that disagrees with it is that of a clash
  pub clash_there : (a : Item) (id m : ℕ) → Contains items a → IsRouted a
      → IsLeast (λ b. Agrees d a b → ⊥) (Agrees d a) 0 (Some a.id) items id → m ≡ min id a.id → HasClash d items m
  clash_there a id m at routed least is = elim (cases_lt id a.id) [
    | inl less ↦ record {
      item = least.item;
      there = least.there;
      id_is = least.id_is ∙ sym (is ∙ min-eq_left (omega (arith, less)));
      clashes = record {
        other = a;
        there = at;
        apart = λ e. least.looked_at.1 (ap (λ (n : ℕ). Some n) e);
        one_routed = inr routed;
        disagree = λ agrees. least.holds (turn d least.item a agrees);
      };
    }
    | inr more ↦ record {
      item = a;
      there = at;
      id_is = sym (is ∙ min-eq_right more);
      clashes = record {
        other = least.item;
        there = least.there;
        apart = λ e. least.looked_at.1 (ap (λ (n : ℕ). Some n) (sym e));
        one_routed = inl routed;
        disagree = least.holds;
      };
    }
  ]

  -- and the item agrees with the others below it
  pub clash_least : (a : Item) (id m : ℕ) → IsLeast (λ b. Agrees d a b → ⊥) (Agrees d a) 0 (Some a.id) items id
      → m ≡ min id a.id → AgreesBelow d items (Some m) a
  clash_least a id m least is = record {
    each = λ b routed there apart below. elim below [
      | inl own ↦ let low = min-le_right id a.id in absurd (omega (arith, own, is, low))
      | inr less ↦ let low = min-le_left id a.id in least.before b there
          (omega arith, λ e. apart (sym (same_id a.id b.id e)))
          (omega (arith, less, is, low))
    ];
  }

  -- below a lesser bound there is less to agree with
  pub below_lesser : (one other : Option ℕ) (a : Item) → ((id : ℕ) → IsBelow other id → IsBelow one id)
      → AgreesBelow d items one a → AgreesBelow d items other a
  below_lesser one other a lesser h = record {
    each = λ b routed there apart below. h.each b routed there apart (elim below [
      | inl own ↦ inl (lesser a.id own)
      | inr less ↦ inr (lesser b.id less)
    ]);
  }

  -- none was gone over
  pub search_none : AreSearched d items None 0
  search_none = record { reached = tt; own = λ k a less. absurd (omega (arith, less)) }

  -- one more
  pub search_more : (bound one more : Option ℕ) (i : ℕ) (a : Item) → a ≡ get_or items i a
      → AreSearched d items bound i → IsReached d items one → AgreesBelow d items one a
      → (more ≡ bound) ⊎ (more ≡ one) → ((id : ℕ) → IsBelow more id → IsBelow bound id × IsBelow one id)
      → i < length items → AreSearched d items more (i + 1)
  search_more bound one more i a is before reached own which below within = record {
    reached = elim which [
      | inl e ↦ subst (IsReached d items) (sym e) before.reached
      | inr e ↦ subst (IsReached d items) (sym e) reached
    ];
    own = λ k x less. elim (cases_lt k i) [
      | inl early ↦ below_lesser bound more (get_or items k x) (λ id h. (below id h).0) (before.own k x early)
      | inr late ↦
          let same : k ≡ i = omega (arith, less, late) in
          let here : a ≡ get_or items k x =
          is ∙ read_at items a (i, within, sym is) a ∙ sym (read_at items a (i, within, sym is) x)
          ∙ ap (λ (n : ℕ). get_or items n x) (sym same) in
          subst (AgreesBelow d items more) here (below_lesser one more a (λ id h. (below id h).1) own)
    ];
  }

  -- each item was gone over
  whole : (bound : Option ℕ) (i : ℕ) (a : Item) → AreSearched d items bound i → length items ≤ i → Contains items a
      → AgreesBelow d items bound a
  whole bound i a searched all at =
      subst (AgreesBelow d items bound) at.2 (searched.own at.0 a (omega (arith, at.1, all)))

  -- an item below the bound agrees with all
  agrees_below : (bound : Option ℕ) (i : ℕ) (b : Item) → AreSearched d items bound i → length items ≤ i
      → Contains items b → IsBelow bound b.id → AgreesWithAll d items b
  agrees_below bound i b searched all there below = record {
    each = λ c at apart routed. elim routed [
      | inl own ↦ (whole bound i b searched all there).each c own at apart (inl below)
      | inr other ↦
          turn d c b ((whole bound i c searched all at).each b other there (λ e. apart (sym e)) (inr below))
    ];
  }

  -- all were gone over
  pub search_end : (bound : Option ℕ) (i : ℕ) → AreSearched d items bound i → length items ≤ i
      → MatchOption bound (All (AgreesWithAll d items) items)
      (IsFirstBad (Clashes d items) (AgreesWithAll d items) items)
  search_end None i searched all = λ k a within.
      agrees_below None i (get_or items k a) searched all (Contains-get_or items k a within) tt
  search_end (Some m) i searched all = record {
    item = searched.reached.item;
    there = searched.reached.there;
    id_is = searched.reached.id_is;
    bad = searched.reached.clashes;
    before = λ b there less. agrees_below (Some m) i b searched all there less;
  }
