-- The new items of an offer, one by one.
use Rattle.std.proofs.Common.{◌≡◌, ◌⊎◌, inl, inr, ℕ, ◌+◌, ◌≤◌, ◌^◌, zero, suc, false, Option, Some, refl, sym, ◌∙◌, ap}
use Rattle.std.proofs.Common.{subst, List, [], ◌∷◌, length, arith}
use Rattle.std.specs.Prelude.{All, Contains, slice_get}
use Rattle.std.specs.Option.{IsSomeAnd}
use Rattle.std.proofs.lemmas.Option.{none-some, same_Some, get_or_from_slice_get}
use Rattle.std.proofs.lemmas.List.Elements.{All-contains}
use Rattle.geo_kernel.specs.declared.point.Point.{Point}
use Rattle.geo_kernel.specs.Plane.{IsWithin}
use Rattle.pcb_model.specs.declared.item.Metal.{Metal}
use Rattle.pcb_model.specs.declared.item.Item.{Item}
use Rattle.pcb_model.specs.declared.design.Design.{Design}
use Rattle.pcb_model.specs.Pieces.{item_of}
use Rattle.pcb_model.specs.Board.{IsRouted, IsLaid, AreInside}
use Rattle.pcb_model.specs.Sound.{IsSound}
use Rattle.board_offers.specs.declared.offer.Shoved.{Shoved}
use Rattle.board_offers.specs.declared.offer.Offer.{Offer}
use Rattle.board_offers.specs.Items.{item_at, added_from, replaced_from, reshaped, with_chain, added, replaced}
use Rattle.board_offers.specs.Items.{new_items, no_item}
use Rattle.board_offers.specs.Offers.{Known, IsWellFormed, IsAddable, IsShovable, IsWire}
use Rattle.board_offers.specs.Given.{IsGiven, AreGiven}
use Rattle.board_offers.proofs.Lists.{in_from, that, look_cases}
use Rattle.board_offers.proofs.Fitting.{addable_fits, addable_laid, reshaped_fits, reshaped_laid}

-- the replacement of a routed wire fits and is made of its metal
pub reshaped_made : (d : Design) (x y : ℕ) (chain : List Point) (old : Item) → IsSound d → IsGiven d y old
    → IsRouted old → IsWire old.metal
    → 2 ≤ length chain → All (IsWithin (2 ^ 29)) chain → IsGiven d x (reshaped d x chain old)
reshaped_made d x y chain old sound given routed wire points within =
    let m = given.made routed in
    let net_is : old.net ≡ Some m.net = ap (λ (b : Item). b.net) m.made in
    record {
      numbered = refl;
      fits = reshaped_fits d x m.net chain old sound given.fits net_is m.net_there wire points within;
      made =
          λ r. record {
            net = m.net;
            net_there = m.net_there;
            made = ap
                (λ (n : Option ℕ). item_of d x n false (with_chain chain old.metal)) net_is;
          };
    }

pub shoved_given : (d : Design) (given : List Item) (x : ℕ) (s : Shoved) (old : Item) → IsSound d → AreGiven d given
    → slice_get given s.id ≡ Some old → IsRouted old → IsWire old.metal → 2 ≤ length s.chain
    → All (IsWithin (2 ^ 29)) s.chain
    → IsGiven d x (reshaped d x s.chain (item_at given s.id))
shoved_given d given x s old sound are is routed wire points within =
    subst (λ (a : Item). IsGiven d x (reshaped d x s.chain a)) (sym (get_or_from_slice_get given s.id old no_item is))
    (reshaped_made d x s.id s.chain old sound (are s.id old is) routed wire points within)

pub record IsAdded (d : Design) (net first : ℕ) (ms : List Metal) (j : ℕ) (a : Item) : Type 0 where
  pub metal : Metal
  pub there : Contains ms metal
  pub is : a ≡ item_of d (first + j) (Some net) false metal

pub added_at : (d : Design) (net first : ℕ) (ms : List Metal) (j : ℕ) (a : Item)
    → slice_get (added_from d net first ms) j ≡ Some a → IsAdded d net first ms j a
added_at d net first [] j a e = absurd (none-some a e)
added_at d net first (m ∷ ms) zero a e = record {
  metal = m;
  there = (0, omega arith, refl);
  is =
      sym (same_Some (item_of d first (Some net) false m) a e)
      ∙ ap (λ n. item_of d n (Some net) false m) (let k : first ≡ first + 0 = omega arith in k);
}
added_at d net first (m ∷ ms) (suc j) a e =
    let r = added_at d net (first + 1) ms j a e in
    record {
      metal = r.metal;
      there = later r.metal r.there;
      is = r.is
          ∙ ap (λ n. item_of d n (Some net) false r.metal) (let k : first + 1 + j ≡ first + suc j = omega arith in k);
    }
  where
    later : (x : Metal) → Contains ms x → Contains (m ∷ ms) x
    later x (k, within, is) = (suc k, omega (arith, within), is)

pub record IsReplaced (d : Design) (given : List Item) (first : ℕ) (ss : List Shoved) (j : ℕ) (a : Item) : Type 0 where
  pub shove : Shoved
  pub there : Contains ss shove
  pub is : a ≡ reshaped d (first + j) shove.chain (item_at given shove.id)

pub replaced_at : (d : Design) (given : List Item) (first : ℕ) (ss : List Shoved) (j : ℕ) (a : Item)
    → slice_get (replaced_from d given first ss) j ≡ Some a → IsReplaced d given first ss j a
replaced_at d given first [] j a e = absurd (none-some a e)
replaced_at d given first (s ∷ ss) zero a e = record {
  shove = s;
  there = (0, omega arith, refl);
  is =
      sym (same_Some (reshaped d first s.chain (item_at given s.id)) a e)
      ∙ ap (λ n. reshaped d n s.chain (item_at given s.id)) (let k : first ≡ first + 0 = omega arith in k);
}
replaced_at d given first (s ∷ ss) (suc j) a e =
    let r = replaced_at d given (first + 1) ss j a e in
    record {
      shove = r.shove;
      there = later r.shove r.there;
      is = r.is
          ∙ ap (λ n. reshaped d n r.shove.chain (item_at given r.shove.id))
          (let k : first + 1 + j ≡ first + suc j = omega arith in k);
    }
  where
    later : (x : Shoved) → Contains ss x → Contains (s ∷ ss) x
    later x (k, within, is) = (suc k, omega (arith, within), is)

pub added_length : (d : Design) (net first : ℕ) (ms : List Metal) → length (added_from d net first ms) ≡ length ms
added_length d net first [] = refl
added_length d net first (m ∷ ms) = let r = added_length d net (first + 1) ms in omega (arith, r)

pub replaced_length : (d : Design) (given : List Item) (first : ℕ) (ss : List Shoved)
    → length (replaced_from d given first ss) ≡ length ss
replaced_length d given first [] = refl
replaced_length d given first (s ∷ ss) = let r = replaced_length d given (first + 1) ss in omega (arith, r)

-- the new item at a place: an added one, or a replacement
abbrev pub IsNew : Design → List Item → Offer → ℕ → Item → Type 0
IsNew d given o j a =
    IsAdded d o.net (length given) o.add j a
    ⊎ ((i : ℕ) × (j ≡ length o.add + i) × IsReplaced d given (length given + length o.add) o.shoves i a)

pub new_at : (d : Design) (given : List Item) (o : Offer) (j : ℕ) (a : Item)
    → slice_get (new_items d given o) j ≡ Some a → IsNew d given o j a
new_at d given o j a e = elim (look_cases (added d given o) (replaced d given o) j a e) [
  | inl left ↦ inl (added_at d o.net (length given) o.add j a left)
  | inr right ↦ inr (
    right.place,
    right.place_is ∙ ap (λ n. n + right.place)
        (added_length d o.net (length given) o.add),
    replaced_at d given
        (length given + length o.add) o.shoves right.place a right.there,
  )
]

-- ---- of a well-formed offer
module _ (d : Design) (given : List Item) (entries : ℕ) (o : Offer) (sound : IsSound d)
    (given_are : (x : ℕ) (a : Item) → slice_get given x ≡ Some a → IsGiven d x a)
    (formed : IsWellFormed (let k : Known = record { design = d; given = given; entries = entries } in k) o) where
  abbrev here : Known
  here = record { design = d; given = given; entries = entries }

  pub new_routed : (j : ℕ) (a : Item) → IsNew d given o j a → IsRouted a
  new_routed j a (inl add) = ap (λ (b : Item). b.fixed) add.is
  new_routed j a (inr (i, e, rep)) = ap (λ (b : Item). b.fixed) rep.is

  pub new_id : (j : ℕ) (a : Item) → IsNew d given o j a → a.id ≡ length given + j
  new_id j a (inl add) = ap (λ (b : Item). b.id) add.is
  new_id j a (inr (i, e, rep)) =
      ap (λ (b : Item). b.id) rep.is
      ∙ (let k : length given + length o.add + i ≡ length given + j = omega (arith, e) in k)

  -- a shoved item and what it was
  pub record WasShoved (s : Shoved) : Type 0 where
    pub old : Item
    pub old_is : slice_get given s.id ≡ Some old
    pub at_is : item_at given s.id ≡ old
    pub fine : IsShovable here o s old

  pub was_shoved : (s : Shoved) → Contains o.shoves s → WasShoved s
  was_shoved s there =
      let t = that (slice_get given s.id) (IsShovable here o s)
      (All-contains (λ (x : Shoved). IsSomeAnd (slice_get given x.id) (IsShovable here o x)) o.shoves s
      formed.shoves.each there) in
      record {
        old = t.value;
        old_is = t.is;
        at_is = get_or_from_slice_get given s.id t.value no_item t.is;
        fine = t.holds;
      }

  pub added_given : (x : ℕ) (m : Metal) → Contains o.add m → IsGiven d x (item_of d x (Some o.net) false m)
  added_given x m there = record {
    numbered = refl;
    fits =
        addable_fits d x o.net m sound formed.ends.net
        (All-contains (IsAddable d o.net) o.add m formed.metals.each there);
    made = λ r. record { net = o.net; net_there = formed.ends.net; made = refl };
  }

  pub reshaped_given : (x : ℕ) (s : Shoved) → Contains o.shoves s
      → IsGiven d x (reshaped d x s.chain (item_at given s.id))
  reshaped_given x s there =
      let w = was_shoved s there in
      shoved_given d given x s w.old sound given_are w.old_is w.fine.in_the_way.routed w.fine.wire w.fine.points
      w.fine.within

  pub new_given : (j : ℕ) (a : Item) → IsNew d given o j a → IsGiven d (length given + j) a
  new_given j a (inl add) =
      subst (IsGiven d (length given + j)) (sym add.is) (added_given (length given + j) add.metal add.there)
  new_given j a (inr (i, e, rep)) =
      subst (IsGiven d (length given + j)) (sym rep.is)
      (subst (λ (n : ℕ).
      IsGiven d n (reshaped d (length given + length o.add + i) rep.shove.chain (item_at given rep.shove.id)))
      (let k : length given + length o.add + i ≡ length given + j = omega (arith, e) in k)
      (reshaped_given (length given + length o.add + i) rep.shove rep.there))

  pub new_inside : (j : ℕ) (a : Item) → slice_get (new_items d given o) j ≡ Some a → AreInside d.bounds a.pieces
  new_inside j a e = elim (look_cases (added d given o) (replaced d given o) j a e) [
    | inl left ↦ All-contains (λ (b : Item). AreInside d.bounds b.pieces) (added d given o) a formed.inside.each
        (in_from (added d given o) j a left)
    | inr right ↦
        let rep = replaced_at d given (length given + length o.add) o.shoves right.place a right.there in
        let w = was_shoved rep.shove rep.there in
        subst (λ (b : Item). AreInside d.bounds b.pieces) (sym rep.is)
        (subst (λ (b : Item).
        AreInside d.bounds (reshaped d (length given + length o.add + right.place) rep.shove.chain b).pieces)
        (sym w.at_is) w.fine.inside)
  ]

  -- where the shoved items were laid as their nets want them
  pub new_laid : ((s : Shoved) → Contains o.shoves s → (old : Item) → slice_get given s.id ≡ Some old → IsLaid d old)
      → (j : ℕ) (a : Item) → IsNew d given o j a → IsLaid d a
  new_laid olds j a (inl add) =
      subst (IsLaid d) (sym add.is)
      (addable_laid d o.net add.metal (All-contains (IsAddable d o.net) o.add add.metal formed.metals.each add.there))
  new_laid olds j a (inr (i, e, rep)) =
      let w = was_shoved rep.shove rep.there in
      subst (IsLaid d) (sym rep.is)
      (subst (λ (b : Item). IsLaid d (reshaped d (length given + length o.add + i) rep.shove.chain b)) (sym w.at_is)
      (reshaped_laid d w.old.net rep.shove.chain w.old.metal (olds rep.shove rep.there w.old w.old_is)))
