-- What a flood has reached, from its start to its end.
use Rattle.std.proofs.Common.{◌≡◌, ℕ, ◌<◌, List, [], ◌∷◌, ◌++◌, sym, refl, subst, arith, inl, inr, ◌⊎◌}
use Rattle.std.specs.Prelude.{Contains, All}
use Rattle.std.specs.List.Sorted.{IsStrictlyIncreasing}
use Rattle.std.proofs.lemmas.List.{length_push}
use Rattle.std.proofs.lemmas.List.Elements.{All-contains, All-weaker, All-head, All-tail, All-contains_itself}
use Rattle.std.proofs.lemmas.List.Elements.{Contains-push, Contains-push_cases, Contains-append_left}
use Rattle.pcb_model.specs.declared.item.Item.{Item}
use Rattle.pcb_model.specs.Board.{AreJoined, LeadsTo}
use Rattle.pcb_model.specs.Copper.{Ascends}
use Rattle.pcb_islands.specs.Islands.{HasIdJoined, AreIdsJoined}
use Rattle.pcb_islands.specs.inner.Flooding.{HasIdTouching, AreTouched, work, IsIdOf, IsTakenIn, IsSpread, IsFlooded}
use Rattle.pcb_islands.proofs.Joined.{one_item, joined_self, joined_on, joined_by_touch}

-- nothing is in the empty list
pub in_none : {X : Type 0} (x : X) → ¬ (Contains [] x)
in_none x h = absurd (omega (arith, h.1))

in_one : (x q : ℕ) → Contains (x ∷ []) q → x ≡ q
in_one x q h = elim (Contains-push_cases [] x q h) [ inl none ↦ absurd (in_none q none) | inr same ↦ same ]

-- an item is joined to itself
pub id_of_itself : (items : List Item) (a : Item) → Contains items a → HasIdJoined items a a.id
id_of_itself items a there = record { item = a; there = there; id_is = refl; joined = joined_self items a }

-- the start is taken in first
pub flood_begins : (items : List Item) (start : Item) (reached waiting : List ℕ) → Contains items start
    → IsTakenIn [] [] (start.id ∷ []) reached waiting → IsFlooded items start reached waiting
flood_begins items start reached waiting there t =
    let waits : (q : ℕ) → Contains reached q → Contains (start.id ∷ []) q × Contains waiting q =
    λ q h. elim (t.only q h) [ inl none ↦ absurd (in_none q none) | inr both ↦ both ] in
    record {
      begun = All-contains (Contains reached) (start.id ∷ []) start.id t.taken (Contains-push [] start.id);
      joined = All-weaker (Contains reached) (HasIdJoined items start)
          (λ q h. subst (HasIdJoined items start) (in_one start.id q (waits q h).0) (id_of_itself items start there))
          reached (All-contains_itself reached);
      waiting_reached =
          All-weaker (Contains waiting) (Contains reached)
          (λ q h. elim (t.waiting_only q h) [
            | inl none ↦ absurd (in_none q none)
            | inr one ↦
                All-contains (Contains reached) (start.id ∷ []) q t.taken one
          ]) waiting (All-contains_itself waiting);
      spread = λ b b_there h. inl (waits b.id h).1;
    }

pub ids_touching : (items : List Item) (a : Item) (ids : List ℕ) → AreTouched items a ids → All (IsIdOf items) ids
ids_touching items a ids t =
    All-weaker (HasIdTouching items a) (IsIdOf items)
    (λ q h. record { some = (h.there.0, h.item, h.there.1, h.there.2, h.id_is) }) ids t.each

module _ (items : List Item) (start a : Item) (reached rest ids reached' rest' : List ℕ) (up : Ascends items)
    (there : Contains items a) (f : IsFlooded items start reached (rest ++ a.id ∷ [])) (t : AreTouched items a ids)
    (n : IsTakenIn reached rest ids reached' rest') where
  a_reached : Contains reached a.id
  a_reached = All-contains (Contains reached) (rest ++ a.id ∷ []) a.id f.waiting_reached (Contains-push rest a.id)

  -- the item that is spread from is joined to the start
  a_joined : AreJoined items start a
  a_joined = let h = All-contains (HasIdJoined items start) reached a.id f.joined a_reached in
      subst (AreJoined items start) (one_item items up h.item a h.there there h.id_is) h.joined

  touched_joined : (q : ℕ) → Contains ids q → HasIdJoined items start q
  touched_joined q h = let e = All-contains (HasIdTouching items a) ids q t.each h in
      record {
        item = e.item;
        there = e.there;
        id_is = e.id_is;
        joined = joined_on items start a e.item a_joined (joined_by_touch items a e.item e.there e.touches);
      }

  a_spread : IsSpread items reached' a
  a_spread = record {
    each = λ e e_there touch. elim (t.whole e e_there touch) [
      | inl own ↦ subst (Contains reached') (sym own) (n.kept a.id a_reached)
      | inr one ↦ All-contains (Contains reached') ids e.id n.taken one
    ];
  }

  still_spread : (b : Item) → IsSpread items reached b → IsSpread items reached' b
  still_spread b s = record { each = λ e e_there touch. n.kept e.id (s.each e e_there touch) }

  spread_before : (b : Item) → Contains items b → Contains reached b.id
      → Contains rest' b.id ⊎ IsSpread items reached' b
  spread_before b b_there h = elim (f.spread b b_there h) [
    | inl waits ↦ elim (Contains-push_cases rest a.id b.id waits) [
      | inl old ↦ inl (n.waiting_kept b.id old)
      | inr same ↦ inr (subst (IsSpread items reached') (one_item items up a b there b_there same) a_spread)
    ]
    | inr s ↦ inr (still_spread b s)
  ]

  -- one item more is spread from
  pub flood_goes_on : IsFlooded items start reached' rest'
  flood_goes_on = record {
    begun = n.kept start.id f.begun;
    joined = All-weaker (Contains reached') (HasIdJoined items start)
        (λ q h. elim (n.only q h) [
          | inl old ↦ All-contains (HasIdJoined items start) reached q f.joined old
          | inr both ↦
              touched_joined q both.0
        ]) reached' (All-contains_itself reached');
    waiting_reached = All-weaker (Contains rest') (Contains reached') (λ q h. elim (n.waiting_only q h) [
      | inl old ↦ n.kept q
          (All-contains (Contains reached) (rest ++ a.id ∷ []) q f.waiting_reached
          (Contains-append_left rest (a.id ∷ []) q old))
      | inr one ↦ All-contains (Contains reached') ids q n.taken one
    ]) rest' (All-contains_itself rest');
    spread = λ b b_there h. elim (n.only b.id h) [ inl old ↦ spread_before b b_there old | inr both ↦ inl both.1 ];
  }

  -- and less is left to do
  pub less_work : work items reached' rest' < work items reached (rest ++ a.id ∷ [])
  less_work = omega (arith, n.work_left items (ids_touching items a ids t), length_push rest a.id)

reached_along : (items : List Item) (reached : List ℕ) (spread : (b : Item) → Contains items b → Contains reached b.id
    → IsSpread items reached b) (a b : Item) (chain : List Item) → Contains items a → Contains reached a.id
    → All (Contains items) chain → LeadsTo a chain b → Contains reached b.id
reached_along items reached spread a b [] there h all leads = subst (λ (x : Item). Contains reached x.id) leads h
reached_along items reached spread a b (c ∷ chain) there h all leads =
    let c_there = All-head (Contains items) c chain all in
    reached_along items reached spread c b chain c_there ((spread a there h).each c c_there leads.0)
    (All-tail (Contains items) c chain all) leads.1

-- where nothing waits, all that is joined is reached
pub flood_ends : (items : List Item) (start : Item) (reached : List ℕ) → Contains items start
    → IsFlooded items start reached [] → IsStrictlyIncreasing reached → AreIdsJoined items start reached
flood_ends items start reached there f ascend =
    let spread : (b : Item) → Contains items b → Contains reached b.id
    → IsSpread items reached b =
    λ b b_there h. elim (f.spread b b_there h) [ inl none ↦ absurd (in_none b.id none) | inr s ↦ s ] in
    record {
      ascend = ascend;
      exact = λ id. (
        λ h. All-contains (HasIdJoined items start) reached id f.joined h,
        λ h. subst (Contains reached) h.id_is
            (reached_along items reached spread start h.item h.joined.chain there f.begun h.joined.there
            h.joined.leads),
      );
    }
