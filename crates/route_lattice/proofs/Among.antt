-- Items by their ids, and those elements of a list that have a property.
use Rattle.std.proofs.Common.{◌≡◌, ℕ, ◌+◌, ◌<◌, List, [], ◌∷◌, ◌++◌, length, take, get_or, All, ◌⊎◌, inl, inr, ⊎_elim}
use Rattle.std.proofs.Common.{refl, sym, ap, ◌∙◌, subst, arith}
use Prim.Native.Nat.{zero, suc}
use Rattle.std.specs.Prelude.{Contains}
use Rattle.std.proofs.lemmas.List.{take_more}
use Rattle.std.proofs.lemmas.List.Elements.{Contains-get_or, All-contains}
use Rattle.pcb_model.specs.declared.item.Item.{Item}
use Rattle.pcb_model.specs.declared.design.Design.{Design}
use Rattle.pcb_model.specs.Copper.{Ascends}
use Rattle.route_lattice.specs.Mesh.{Mesh, node_count}
use Rattle.route_lattice.specs.Anchors.{Anchors, AnchorsAmong, AreAnchorsAmong}
use Rattle.route_lattice.specs.Found.{Gains, AtSome, IsAnchorNode, IsAnchorAmong, IsAnchorWithId, AreSorted}
use Rattle.route_lattice.specs.Legal.{AreThoseOf}

-- ---- ids
get_or_any : {X : Type 0} (xs : List X) (k : ℕ) (d e : X) → k < length xs → get_or xs k d ≡ get_or xs k e
get_or_any [] k d e h = absurd (omega arith)
get_or_any (x ∷ xs) zero d e h = refl
get_or_any (x ∷ xs) (suc k) d e h = get_or_any xs k d e (omega arith)

order : (i k : ℕ) → (i ≡ k) ⊎ ((i < k) ⊎ (k < i))
order zero zero = inl refl
order zero (suc k) = inr (inl (omega arith))
order (suc i) zero = inr (inr (omega arith))
order (suc i) (suc k) =
    ⊎_elim (λ e. inl (ap suc e)) (λ h. inr (⊎_elim (λ a. inl (omega arith)) (λ a. inr (omega arith)) h)) (order i k)

-- items with one id are one item
pub same_item : (items : List Item) (a b : Item) → Ascends items → Contains items a → Contains items b → a.id ≡ b.id
    → a ≡ b
same_item items a b up m n e = ⊎_elim
    (λ s. sym m.2 ∙ (ap (λ (k : ℕ). get_or items k a) s ∙ (get_or_any items n.0 a b n.1 ∙ n.2)))
    (λ s. absurd (⊎_elim
    (λ h. let u = up m.0 n.0 a h n.1 in let p = ap (λ (x : Item). x.id) m.2 in
    let q = ap (λ (x : Item). x.id) (get_or_any items n.0 a b n.1 ∙ n.2) in omega (arith, u, p, q, e))
    (λ h. let u = up n.0 m.0 a h m.1 in let p = ap (λ (x : Item). x.id) m.2 in
    let q = ap (λ (x : Item). x.id) (get_or_any items n.0 a b n.1 ∙ n.2) in omega (arith, u, p, q, e)) s))
    (order m.0 n.0)

module _ (d : Design) (m : Mesh) (items : List Item) where
  -- what the item of an id gains
  pub of_item : (id : ℕ) (b : Item) (v : ℕ) → Ascends items → Contains items b → b.id ≡ id
      → IsAnchorWithId d m items id v → IsAnchorNode d m b v
  of_item id b v up c e a =
      record {
        node = a.node;
        anchors = subst (λ (x : Item). Anchors d m v x) (same_item items a.item b up a.there c (a.id_is ∙ sym e))
            a.anchors;
      }

  pub with_id : (id : ℕ) (b : Item) (v : ℕ) → Contains items b → b.id ≡ id → IsAnchorNode d m b v
      → IsAnchorWithId d m items id v
  with_id id b v c e a = record { item = b; there = c; id_is = e; node = a.node; anchors = a.anchors }

  pub none_with_id : (id v : ℕ) → All (λ (b : Item). b.id ≡ id → ⊥) items → IsAnchorWithId d m items id v → ⊥
  none_with_id id v none a = All-contains (λ (b : Item). b.id ≡ id → ⊥) items a.item none a.there a.id_is

  module _ (ids : List ℕ) where
    pub among_ids : (k v : ℕ) → k < length ids → IsAnchorWithId d m items (get_or ids k 0) v
        → IsAnchorAmong d m items ids v
    among_ids k v h a =
        record {
          node = a.node;
          anchors = record {
            item = a.item;
            there = a.there;
            asked = subst (Contains ids) (sym a.id_is) (Contains-get_or ids k 0 h);
            anchors = a.anchors;
          };
        }

    at_place : (v : ℕ) → v < node_count m → AnchorsAmong d m items ids v
        → AtSome (λ k. IsAnchorWithId d m items (get_or ids k 0)) 0 (length ids) v
    at_place v h a = record {
      index = a.asked.0;
      from = omega arith;
      below = a.asked.1;
      holds = record {
        item = a.item;
        there = a.there;
        id_is = sym (get_or_any ids a.asked.0 0 a.item.id a.asked.1 ∙ a.asked.2);
        node = h;
        anchors = a.anchors;
      };
    }

    pub among_are : (found nodes : List ℕ)
        → Gains (AtSome (λ k. IsAnchorWithId d m items (get_or ids k 0)) 0 (length ids)) (IsAnchorAmong d m items ids)
        [] found → AreSorted found nodes → AreAnchorsAmong d m items ids nodes
    among_are found nodes g s = record {
      ascends = s.ascends;
      exact = λ v. (
        λ c. ⊎_elim (λ n. absurd (let l = n.1 in omega arith)) (λ a. (a.node, a.anchors)) (g.exact v (s.sound v c)),
        λ h. s.complete v (g.gains v (at_place v h.0 h.1)),
      );
    }

-- ---- those that have P
pub those_more : (P : ℕ → Type 0) (xs ys : List ℕ) (x : ℕ) → AreThoseOf P xs ys → P x
    → AreThoseOf P (xs ++ x ∷ []) (ys ++ x ∷ [])
those_more P [] ys x h p = inl (p, [], ap (λ (zs : List ℕ). zs ++ x ∷ []) h, refl)
those_more P (z ∷ zs) ys x (inl a) p =
    inl (a.0, a.1 ++ x ∷ [], ap (λ (ws : List ℕ). ws ++ x ∷ []) a.2, those_more P zs a.1 x a.3 p)
those_more P (z ∷ zs) ys x (inr a) p = inr (a.0, those_more P zs ys x a.1 p)

pub those_same : (P : ℕ → Type 0) (xs ys : List ℕ) (x : ℕ) → AreThoseOf P xs ys → ¬ (P x)
    → AreThoseOf P (xs ++ x ∷ []) ys
those_same P [] ys x h p = inr (p, h)
those_same P (z ∷ zs) ys x (inl a) p = inl (a.0, a.1, a.2, those_same P zs a.1 x a.3 p)
those_same P (z ∷ zs) ys x (inr a) p = inr (a.0, those_same P zs ys x a.1 p)

pub kept_more : (P : ℕ → Type 0) (xs ys zs : List ℕ) (i : ℕ) → i < length xs → AreThoseOf P (take i xs) ys
    → P (get_or xs i 0) → zs ≡ ys ++ get_or xs i 0 ∷ [] → AreThoseOf P (take (i + 1) xs) zs
kept_more P xs ys zs i h a p e =
    subst (λ (ws : List ℕ). AreThoseOf P ws zs) (sym (take_more xs i 0 h))
    (subst (AreThoseOf P (take i xs ++ get_or xs i 0 ∷ [])) (sym e) (those_more P (take i xs) ys (get_or xs i 0) a p))

pub kept_same : (P : ℕ → Type 0) (xs ys zs : List ℕ) (i : ℕ) → i < length xs → AreThoseOf P (take i xs) ys
    → ¬ (P (get_or xs i 0)) → zs ≡ ys → AreThoseOf P (take (i + 1) xs) zs
kept_same P xs ys zs i h a p e =
    subst (λ (ws : List ℕ). AreThoseOf P ws zs) (sym (take_more xs i 0 h))
    (subst (AreThoseOf P (take i xs ++ get_or xs i 0 ∷ [])) (sym e) (those_same P (take i xs) ys (get_or xs i 0) a p))
