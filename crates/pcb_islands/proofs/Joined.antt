-- Being joined: it leads on from item to item, and back.
use Rattle.std.proofs.Common.{◌≡◌, ◌<◌, List, [], ◌∷◌, ◌++◌, get_or, sym, ◌∙◌, refl, subst, ap, arith, inl, inr}
use Rattle.std.specs.Prelude.{Contains, All}
use Rattle.std.proofs.lemmas.List.{get_or_default}
use Rattle.std.proofs.lemmas.List.Elements.{All-nil, All-cons, All-head, All-tail, All-append}
use Rattle.pcb_model.specs.declared.item.Item.{Item}
use Rattle.pcb_model.specs.Pairs.{AreTouching}
use Rattle.pcb_model.specs.Board.{AreJoined, LeadsTo}
use Rattle.pcb_model.specs.Copper.{Ascends}
use Rattle.pcb_islands.proofs.Touches.{below_or_same}

-- ---- ids
-- an element, read at its place
pub read_at : {X : Type 0} (xs : List X) (x : X) (h : Contains xs x) (d : X) → get_or xs h.0 d ≡ x
read_at xs x h d = get_or_default xs h.0 d x h.1 ∙ h.2

-- where ids ascend, an element before another has a lesser id
less_before : (items : List Item) → Ascends items → (a b : Item) (at : Contains items a) (bt : Contains items b)
    → at.0 < bt.0 → a.id < b.id
less_before items up a b at bt h =
    subst (λ (x : Item). x.id < b.id) (read_at items a at b)
    (subst (λ (x : Item). (get_or items at.0 b).id < x.id) bt.2 (up at.0 bt.0 b h bt.1))

-- two items of one id are one
pub one_item : (items : List Item) → Ascends items → (a b : Item) → Contains items a → Contains items b → a.id ≡ b.id
    → a ≡ b
one_item items up a b at bt same = elim (below_or_same at.0 bt.0) [
  | inl h ↦ absurd (omega (arith, less_before items up a b at bt h))
  | inr n ↦ elim n [
    | inl h ↦ absurd (omega (arith, less_before items up b a bt at h))
    | inr e ↦ sym (read_at items a at b) ∙ ap (λ k. get_or items k b) e ∙ bt.2
  ]
]

-- ---- joined
pub joined_self : (items : List Item) (a : Item) → AreJoined items a a
joined_self items a = record { chain = []; there = All-nil (Contains items); leads = refl }

leads_on : (a b c : Item) (chain more : List Item) → LeadsTo a chain b → LeadsTo b more c → LeadsTo a (chain ++ more) c
leads_on a b c [] more first next = subst (λ x. LeadsTo x more c) (sym first) next
leads_on a b c (e ∷ chain) more first next = (first.0, leads_on e b c chain more first.1 next)

pub joined_on : (items : List Item) (a b c : Item) → AreJoined items a b → AreJoined items b c → AreJoined items a c
joined_on items a b c first next = record {
  chain = first.chain ++ next.chain;
  there = All-append (Contains items) first.chain next.chain first.there next.there;
  leads = leads_on a b c first.chain next.chain first.leads next.leads;
}

pub joined_by_touch : (items : List Item) (a b : Item) → Contains items b → AreTouching a b → AreJoined items a b
joined_by_touch items a b there touch = record {
  chain = b ∷ [];
  there = All-cons (Contains items) b [] there (All-nil (Contains items));
  leads = (touch, refl);
}

-- touching doesn't ask which item comes first
abbrev pub TouchesBack : Type 0
TouchesBack = (a b : Item) → AreTouching a b → AreTouching b a

leads_back : TouchesBack → (items : List Item) (a b : Item) (chain : List Item) → Contains items a
    → All (Contains items) chain → LeadsTo a chain b → AreJoined items b a
leads_back back items a b [] there all leads = subst (λ x. AreJoined items x a) leads (joined_self items a)
leads_back back items a b (c ∷ chain) there all leads =
    let c_there = All-head (Contains items) c chain all in
    joined_on items b c a (leads_back back items c b chain c_there (All-tail (Contains items) c chain all) leads.1)
    (joined_by_touch items c a there (back a c leads.0))

pub joined_back : TouchesBack → (items : List Item) (a b : Item) → Contains items a → AreJoined items a b
    → AreJoined items b a
joined_back back items a b there j = leads_back back items a b j.chain there j.there j.leads
