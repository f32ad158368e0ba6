-- What a plain list of items keeps when one is added or taken out.
use Rattle.std.proofs.Common.{ℕ, ◌<◌, ◌^◌, List, [], ◌∷◌, ◌++◌, length, take, drop, All, ◌≡◌, ◌∙◌, sym, ap, arith}
use Rattle.std.proofs.Common.{Option, Some, None}
use Rattle.std.specs.Prelude.{remove, MatchOption}
use Rattle.std.proofs.lemmas.List.{same_from_push, length_push}
use Prim.Native.Nat.{suc}
use Rattle.std.proofs.lemmas.List.Elements.{All-append, All-cons, All-nil, All-take, All-drop}
use Rattle.std.proofs.lemmas.List.Quantifiers.{all_pairs_push, all_pairs_remove}
use Rattle.pcb_model.specs.declared.item.Item.{Item}
use Rattle.pcb_model.specs.declared.near.Extent.{Extent}
use Rattle.pcb_model.specs.Bounds.{IsItemFit}
use Rattle.pcb_model.specs.Near.{IsExtentOf}
use Rattle.pcb_model.specs.Copper.{IsPlain}
use Rattle.pcb_model.proofs.First.{zip_push, zip_remove}

pub plain_push : (items : List Item) (extents : List Extent) (a : Item) (e : Extent) → IsPlain items extents
    → All (λ b. b.id < a.id) items → a.id < 2 ^ 64 → IsItemFit a → IsExtentOf a.pieces e
    → IsPlain (items ++ a ∷ []) (extents ++ e ∷ [])
plain_push items extents a e h above within fits x = record {
  ascends = all_pairs_push (λ (b c : Item). b.id < c.id) items a h.ascends above;
  ids_within =
      All-append (λ (b : Item). b.id < 2 ^ 64) items (a ∷ []) h.ids_within
      (All-cons (λ (b : Item). b.id < 2 ^ 64) a [] within (All-nil (λ (b : Item). b.id < 2 ^ 64)));
  fit = All-append IsItemFit items (a ∷ []) h.fit (All-cons IsItemFit a [] fits (All-nil IsItemFit));
  paired = zip_push (λ (b : Item) (f : Extent). IsExtentOf b.pieces f) items extents a e h.paired x;
}

pub plain_remove : (items : List Item) (extents : List Extent) (i : ℕ) → IsPlain items extents → i < length items
    → IsPlain (remove items i) (remove extents i)
plain_remove items extents i h l = record {
  ascends = all_pairs_remove (λ (b c : Item). b.id < c.id) items i l h.ascends;
  ids_within =
      All-append (λ (b : Item). b.id < 2 ^ 64) (take i items) (drop (suc i) items)
      (All-take (λ (b : Item). b.id < 2 ^ 64) i items h.ids_within)
      (All-drop (λ (b : Item). b.id < 2 ^ 64) (suc i) items h.ids_within);
  fit = All-append IsItemFit (take i items) (drop (suc i) items) (All-take IsItemFit i items h.fit)
      (All-drop IsItemFit (suc i) items h.fit);
  paired = zip_remove (λ (b : Item) (f : Extent). IsExtentOf b.pieces f) items extents i h.paired;
}

-- an element that was added and is taken off again
pub popped : {X : Type 0} (xs more ys : List X) (e : X) (r : Option X) → more ≡ xs ++ e ∷ []
    → MatchOption r ((more ≡ []) × (ys ≡ [])) (λ last. more ≡ ys ++ last ∷ []) → ys ≡ xs
popped xs more ys e None m h =
    let n = length_push xs e in let z = ap length (sym m ∙ h.0) in absurd (omega (arith, n, z))
popped xs more ys e (Some last) m h = sym (same_from_push xs ys e last (sym m ∙ h)).0
