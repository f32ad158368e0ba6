-- A well-formed offer stays so where more items were given and more entries stand.
use Rattle.std.proofs.Common.{◌≡◌, ℕ, ◌+◌, ◌≤◌, Some, Option, refl, sym, ap, ◌∙◌, subst}
use Rattle.std.proofs.Common.{List, [], ◌∷◌, ◌++◌, length, arith}
use Rattle.std.specs.Prelude.{Contains, slice_get}
use Rattle.std.specs.Option.{IsSomeAnd}
use Rattle.std.proofs.lemmas.Option.{get_or_from_slice_get}
use Rattle.std.proofs.lemmas.List.Elements.{All-contains, All-weaker}
use Rattle.pcb_model.specs.declared.item.Item.{Item}
use Rattle.pcb_model.specs.declared.item.Metal.{Metal}
use Rattle.pcb_model.specs.declared.design.Design.{Design}
use Rattle.pcb_model.specs.Pairs.{Agrees}
use Rattle.pcb_model.specs.Board.{AreInside}
use Rattle.board_offers.specs.declared.offer.Offer.{Offer}
use Rattle.board_offers.specs.declared.offer.Shoved.{Shoved}
use Rattle.board_offers.specs.Items.{no_item, item_at, added_from, replaced_from, added, replaced, new_items, reshaped}
use Rattle.board_offers.specs.Judging.{known_by}
use Rattle.board_offers.specs.Offers.{Known, IsInTheWay, IsShovable, IsWellFormed}
use Rattle.board_offers.proofs.Lists.{in_here, in_later, look_left, IsThat, that}
use Rattle.least_offer.proofs.Alike.{AreAlike, blind_not, agrees_first}
use Rattle.least_offer.proofs.Alike.{alike_append, alike_all, alike_any, alike_pairs, alike_leads}

-- an item that was given stays given
some_left : (P Q : Item → Type 0) (xs more : List Item) (x : ℕ) → ((a : Item) → P a → Q a)
    → IsSomeAnd (slice_get xs x) P → IsSomeAnd (slice_get (xs ++ more) x) Q
some_left P Q xs more x to h =
    let t = that (slice_get xs x) P h in
    subst (λ (s : Option Item). IsSomeAnd s Q) (sym (look_left xs more x t.value t.is)) (to t.value t.holds)

-- items of the same metals are alike, whatever ids they begin with
added_alike : (d : Design) (net i k : ℕ) (ms : List Metal) → AreAlike (added_from d net i ms) (added_from d net k ms)
added_alike d net i k [] = tt
added_alike d net i k (m ∷ ms) = (record { is = refl }, added_alike d net (i + 1) (k + 1) ms)

-- so are replacements of the same items
replaced_alike : (d : Design) (g more : List Item) (i k : ℕ) (ss : List Shoved)
    → ((s : Shoved) → Contains ss s → item_at (g ++ more) s.id ≡ item_at g s.id)
    → AreAlike (replaced_from d g i ss) (replaced_from d (g ++ more) k ss)
replaced_alike d g more i k [] same = tt
replaced_alike d g more i k (s ∷ ss) same = (
  record { is = ap (reshaped d k s.chain) (same s (in_here s ss)) },
  replaced_alike d g more (i + 1) (k + 1) ss (λ t there. same t (in_later s t ss there)),
)

module _ (d : Design) (g more : List Item) (n m : ℕ) (o : Offer) (le : n ≤ m)
    (formed : IsWellFormed (known_by d g n) o) where
  -- by what the offer was judged
  abbrev before : Known
  before = known_by d g n

  -- by what it is judged now
  abbrev now : Known
  now = known_by d (g ++ more) m

  -- an item of the offer's net
  abbrev IsOfIt : Item → Type 0
  IsOfIt a = a.net ≡ Some o.net

  -- each shoved item was given
  pub shoved_item : (s : Shoved) → Contains o.shoves s → IsThat (slice_get g s.id) (IsShovable before o s)
  shoved_item s there =
      that (slice_get g s.id) (IsShovable before o s)
      (All-contains (λ (t : Shoved). IsSomeAnd (slice_get g t.id) (IsShovable before o t)) o.shoves s
      formed.shoves.each there)

  -- the added items are alike
  added_same : AreAlike (added d g o) (added d (g ++ more) o)
  added_same = added_alike d o.net (length g) (length (g ++ more)) o.add

  -- so are all new items
  pub new_same : AreAlike (new_items d g o) (new_items d (g ++ more) o)
  new_same =
      alike_append (added d g o) (added d (g ++ more) o) (replaced d g o) (replaced d (g ++ more) o) added_same
      (replaced_alike d g more (length g + length o.add) (length (g ++ more) + length o.add) o.shoves (λ s there.
      let t = shoved_item s there in
      get_or_from_slice_get (g ++ more) s.id t.value no_item (look_left g more s.id t.value t.is)
      ∙ sym (get_or_from_slice_get g s.id t.value no_item t.is)))

  -- an item in the way stays in the way
  way_same : (a : Item) → IsInTheWay before o a → IsInTheWay now o a
  way_same a h = record {
    routed = h.routed;
    other_net = h.other_net;
    disagrees =
        alike_any (λ (b : Item). Agrees d b a → ⊥) (blind_not (λ (b : Item). Agrees d b a) (agrees_first d a))
        (added d g o) (added d (g ++ more) o) added_same h.disagrees;
  }

  -- one that may be shoved stays so
  shovable_same : (s : Shoved) (a : Item) → IsShovable before o s a → IsShovable now o s a
  shovable_same s a h = record {
    in_the_way = way_same a h.in_the_way;
    wire = h.wire;
    points = h.points;
    within = h.within;
    inside = h.inside;
  }

  -- each of the nine clauses still holds
  pub formed_later : IsWellFormed now o
  formed_later = record {
    timely = record { base = let base = formed.timely.base in omega (arith, base, le); worker = formed.timely.worker };
    ends = record {
      net = formed.ends.net;
      apart = formed.ends.apart;
      from = some_left IsOfIt IsOfIt g more o.from (λ a h. h) formed.ends.from;
      to = some_left IsOfIt IsOfIt g more o.to (λ a h. h) formed.ends.to;
    };
    metals = record { some = formed.metals.some; each = formed.metals.each };
    across = record {
      from = formed.across.from;
      from_is = look_left g more o.from formed.across.from formed.across.from_is;
      to = formed.across.to;
      to_is = look_left g more o.to formed.across.to formed.across.to_is;
      leads =
          alike_leads formed.across.from formed.across.from formed.across.to (added d g o) (added d (g ++ more) o)
          (record { is = refl }) added_same formed.across.leads;
    };
    inside = record {
      each =
          alike_all (λ (a : Item). AreInside d.bounds a.pieces) (λ id a h. h) (added d g o) (added d (g ++ more) o)
          added_same formed.inside.each;
    };
    once = formed.once;
    rips = record {
      each =
          All-weaker (λ (x : ℕ). IsSomeAnd (slice_get g x) (IsInTheWay before o))
          (λ (x : ℕ). IsSomeAnd (slice_get (g ++ more) x) (IsInTheWay now o))
          (λ x h. some_left (IsInTheWay before o) (IsInTheWay now o) g more x way_same h) o.rip formed.rips.each;
    };
    shoves = record {
      each =
          All-weaker (λ (s : Shoved). IsSomeAnd (slice_get g s.id) (IsShovable before o s))
          (λ (s : Shoved). IsSomeAnd (slice_get (g ++ more) s.id) (IsShovable now o s))
          (λ s h. some_left (IsShovable before o s) (IsShovable now o s) g more s.id (shovable_same s) h) o.shoves
          formed.shoves.each;
    };
    agree = record { each = alike_pairs d (new_items d g o) (new_items d (g ++ more) o) new_same formed.agree.each };
  }
