-- What a cut names: the ids of the routed items that its blocks name, ascending.
use Rattle.std.proofs.Common.{◌≡◌, ◌∙◌, ℕ, ◌+◌, ◌<◌, List, [], ◌∷◌, ◌++◌, length, take, get_or, true, true≢false}
use Rattle.std.proofs.Common.{sym, ap, subst, inl, inr}
use Rattle.std.proofs.lemmas.List.{take_more}
use Rattle.std.specs.Prelude.{Contains}
use Rattle.std.specs.List.Sorted.{IsStrictlyIncreasing}
use Rattle.std.proofs.lemmas.List.Elements.{Contains-append_left, Contains-push, Contains-push_cases}
use Rattle.pcb_model.specs.declared.item.Item.{Item}
use Rattle.pcb_model.specs.Copper.{Ascends}
use Rattle.pcb_islands.proofs.Elements.{in_none}
use Rattle.pcb_islands.proofs.Joined.{one_item}
use Rattle.cut_certificate.specs.declared.cut.Cut.{Cut}
use Rattle.cut_certificate.specs.declared.cut.Block.{Block}
use Rattle.cut_certificate.specs.declared.cut.Blocker.TheVariants as blocker
use Rattle.closing_pass.specs.Settled.{AreNamed}
use Rattle.closing_pass.specs.inner.Tries.{NamesMore, NamesRouted}

same_id : (n k : ℕ) → blocker.Item n ≡ blocker.Item k → n ≡ k
same_id n k e = cc

-- a block that names a fixed item names no routed one
pub names_fixed : (items : List Item) (block : Block) (ids : List ℕ) (id : ℕ) (a : Item) → Ascends items
    → block.by ≡ blocker.Item id → Contains items a → a.id ≡ id → a.fixed ≡ true → NamesMore items block ids ids
names_fixed items block ids id a up by there id_is fixed = record {
  kept = λ n h. h;
  only = λ n h. inl h;
  listed = λ n named.
      let same : a ≡ named.item = one_item items up a named.item there named.there
      (id_is ∙ same_id id n (sym by ∙ named.by_is) ∙ sym named.id_is) in
      absurd (true≢false (sym fixed ∙ ap (λ (x : Item). x.fixed) same ∙ named.routed));
}

-- ---- some blocks after others
-- one of the blocks names the id, and it is that of a routed item
pub record IsNamedAmong (items : List Item) (blocks : List Block) (id : ℕ) : Type 0 where
  pub block : Block
  pub listed : Contains blocks block
  pub named : NamesRouted items block id

-- the ids are those that the blocks name
pub record AreNamedAmong (items : List Item) (blocks : List Block) (ids : List ℕ) : Type 0 where
  pub only : (id : ℕ) → Contains ids id → IsNamedAmong items blocks id
  pub all : (id : ℕ) → IsNamedAmong items blocks id → Contains ids id

pub among_none : (items : List Item) → AreNamedAmong items [] []
among_none items = record {
  only = λ id h. absurd (in_none id h);
  all = λ id n. absurd (in_none n.block n.listed);
}

pub among_more : (items : List Item) (blocks : List Block) (block : Block) (old new : List ℕ)
    → AreNamedAmong items blocks old → NamesMore items block old new
    → AreNamedAmong items (blocks ++ block ∷ []) new
among_more items blocks block old new are more = record {
  only = λ id h. elim (more.only id h) [
    | inl before ↦
        let n = are.only id before in
        record {
          block = n.block;
          listed = Contains-append_left blocks (block ∷ []) n.block n.listed;
          named = n.named;
        }
    | inr here ↦ record { block = block; listed = Contains-push blocks block; named = here }
  ];
  all = λ id n. elim (Contains-push_cases blocks block n.block n.listed) [
    | inl before ↦ more.kept id (are.all id (record { block = n.block; listed = before; named = n.named }))
    | inr same ↦ more.listed id (subst (λ (x : Block). NamesRouted items x id) (sym same) n.named)
  ];
}

-- of a list that goes by another name
pub among_next : (items : List Item) (blocks bs : List Block) (i : ℕ) (d : Block) (old new : List ℕ) → bs ≡ blocks
    → i < length bs → AreNamedAmong items (take i blocks) old → NamesMore items (get_or bs i d) old new
    → AreNamedAmong items (take (i + 1) blocks) new
among_next items blocks bs i d old new same within are more =
    subst (λ (xs : List Block). AreNamedAmong items (take (i + 1) xs) new) same
    (subst (λ (xs : List Block). AreNamedAmong items xs new) (sym (take_more bs i d within))
    (among_more items (take i bs) (get_or bs i d) old new
    (subst (λ (xs : List Block). AreNamedAmong items (take i xs) old) (sym same) are) more))

-- the same ids, ascending, are those that the cut names
pub named_by : (items : List Item) (cut : Cut) (ids new : List ℕ) → AreNamedAmong items cut.blocked ids
    → IsStrictlyIncreasing new → ((id : ℕ) → Contains new id → Contains ids id)
    → ((id : ℕ) → Contains ids id → Contains new id) → AreNamed items cut new
named_by items cut ids new are up back over = record {
  ascends = up;
  exact = λ id. (
    λ h.
        let n = are.only id (back id h) in
        record {
          item = n.named.item;
          there = n.named.there;
          id_is = n.named.id_is;
          routed = n.named.routed;
          block = n.block;
          listed = n.listed;
          by_is = n.named.by_is;
        },
    λ n. over id (are.all id (record {
      block = n.block;
      listed = n.listed;
      named = record {
        item = n.item;
        there = n.there;
        id_is = n.id_is;
        routed = n.routed;
        by_is = n.by_is;
      };
    })),
  );
}
