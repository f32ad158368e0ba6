-- What is joined on some copper is joined on copper that is the same, twin by twin.
use Rattle.std.proofs.Common.{◌≡◌, List, [], ◌∷◌, subst, refl, All}
use Rattle.std.specs.Prelude.{Contains}
use Rattle.std.proofs.lemmas.List.Elements.{All-nil, All-cons, All-head, All-tail}
use Rattle.pcb_model.specs.declared.item.Item.{Item}
use Rattle.pcb_model.specs.Pairs.{AreTouching}
use Rattle.pcb_model.specs.Board.{AreJoined, LeadsTo}
use Rattle.copper_alike.specs.Twins.{AreTwins, HasTwin}
use Rattle.copper_alike.proofs.Twins.{twins_touch, twins_self}

-- a twin of the end, joined to the start
pub record HasEnd (ys : List Item) (a b : Item) : Type 0 where
  pub item : Item
  pub there : Contains ys item
  pub twins : AreTwins b item
  pub joined : AreJoined ys a item

module _ (touch_back : (a b : Item) → AreTouching a b → AreTouching b a) (xs ys : List Item)
    (to : (a : Item) → Contains xs a → HasTwin ys a) where
  touch_both : (a b a' b' : Item) → AreTwins a a' → AreTwins b b' → AreTouching a b → AreTouching a' b'
  touch_both a b a' b' s t h = touch_back b' a' (twins_touch b b' a' t (touch_back a' b (twins_touch a a' b s h)))

  -- a chain to b, from a twin of its start to a twin of its end
  pub leads_alike : (a b a' : Item) (chain : List Item) → AreTwins a a' → Contains ys a' → All (Contains xs) chain
      → LeadsTo a chain b → HasEnd ys a' b
  leads_alike a b a' [] s there all leads = record {
    item = a';
    there = there;
    twins = subst (λ x. AreTwins x a') leads s;
    joined = record { chain = []; there = All-nil (Contains ys); leads = refl };
  }
  leads_alike a b a' (c ∷ chain) s there all leads =
      let t = to c (All-head (Contains xs) c chain all) in
      let rest = leads_alike c b t.item chain t.twins t.there (All-tail (Contains xs) c chain all) leads.1 in
      record {
        item = rest.item;
        there = rest.there;
        twins = rest.twins;
        joined = record {
          chain = t.item ∷ rest.joined.chain;
          there = All-cons (Contains ys) t.item rest.joined.chain t.there rest.joined.there;
          leads = (touch_both a c a' t.item s t.twins leads.0, rest.joined.leads);
        };
      }

  -- the same to the end itself, which both lists have
  pub leads_same : (a b a' : Item) (chain : List Item) → AreTwins a a' → Contains ys a' → Contains ys b
      → All (Contains xs) chain → LeadsTo a chain b → (a ≡ b → a' ≡ b) → AreJoined ys a' b
  leads_same a b a' [] s there end all leads own =
      record { chain = []; there = All-nil (Contains ys); leads = own leads }
  leads_same a b a' (c ∷ []) s there end all leads own = record {
    chain = b ∷ [];
    there = All-cons (Contains ys) b [] end (All-nil (Contains ys));
    leads = (touch_both a b a' b s (twins_self b) (subst (AreTouching a) leads.1 leads.0), refl);
  }
  leads_same a b a' (c ∷ e ∷ chain) s there end all leads own =
      let more = All-tail (Contains xs) c (e ∷ chain) all in
      let t = to c (All-head (Contains xs) c (e ∷ chain) all) in
      let rest = leads_from c b t.item e chain t.twins t.there end more leads.1 in
      record {
        chain = t.item ∷ rest.chain;
        there = All-cons (Contains ys) t.item rest.chain t.there rest.there;
        leads = (touch_both a c a' t.item s t.twins leads.0, rest.leads);
      }
    where
      -- with a step at least the start may be any twin
      leads_from : (a b a' e : Item) (chain : List Item) → AreTwins a a' → Contains ys a' → Contains ys b
          → All (Contains xs) (e ∷ chain) → LeadsTo a (e ∷ chain) b → AreJoined ys a' b
      leads_from a b a' e [] s there end all leads = record {
        chain = b ∷ [];
        there = All-cons (Contains ys) b [] end (All-nil (Contains ys));
        leads = (touch_both a b a' b s (twins_self b) (subst (AreTouching a) leads.1 leads.0), refl);
      }
      leads_from a b a' e (f ∷ chain) s there end all leads =
          let t = to e (All-head (Contains xs) e (f ∷ chain) all) in
          let rest = leads_from e b t.item f chain t.twins t.there end
          (All-tail (Contains xs) e (f ∷ chain) all) leads.1 in
          record {
            chain = t.item ∷ rest.chain;
            there = All-cons (Contains ys) t.item rest.chain t.there rest.there;
            leads = (touch_both a e a' t.item s t.twins leads.0, rest.leads);
          }

  -- between items that both lists have
  pub joined_alike : (a b : Item) → Contains ys a → Contains ys b → AreJoined xs a b → AreJoined ys a b
  joined_alike a b there end j = leads_same a b a j.chain (twins_self a) there end j.there j.leads (λ e. e)

  pub ends_alike : (a b : Item) → Contains ys a → AreJoined xs a b → HasEnd ys a b
  ends_alike a b there j = leads_alike a b a j.chain (twins_self a) there j.there j.leads
