-- The list of moves that lead out grows move by move, and node by node.
use Rattle.std.proofs.Common.{◌≡◌, ℕ, ◌+◌, ◌<◌, ◌≤◌, List, [], ◌∷◌, ◌++◌, length, take, get_or, sym, ◌∙◌, subst, inl}
use Rattle.std.proofs.Common.{inr, arith, All}
use Rattle.std.specs.Prelude.{Any, Option, ◌⊎◌}
use Rattle.std.specs.List.Sorted.{IsStrictlyIncreasing}
use Rattle.std.proofs.lemmas.Bool.{cases_lt}
use Rattle.std.proofs.lemmas.List.{length-append, get_or_append_left}
use Rattle.std.proofs.lemmas.List.Elements.{All-push, All-more, All-contains, All-weaker, Contains-get_or}
use Rattle.std.proofs.lemmas.List.Kept.{AllPairs-from_increasing}
use Rattle.std.proofs.lemmas.List.Quantifiers.{Any-push, all_pairs_push}
use Rattle.route_lattice.specs.declared.moves.Move.{Move}
use Rattle.cut_certificate.specs.declared.cut.Blocker.{Blocker}
use Rattle.cut_certificate.specs.declared.cut.Block.{Block}
use Rattle.cut_certificate.specs.Border.{LeadsOut, IsBefore, AreInOrder, IsOf, IsBlock, AreBlocks}
use Rattle.cut_certificate.specs.inner.Listing.{AllListed, IsEarlier}
use Rattle.cut_certificate.specs.inner.Listing.{Extends}

-- what holds of some element holds of some of a longer list
any_left : (P : Block → Type 0) (xs ys : List Block) → Any P xs → Any P (xs ++ ys)
any_left P xs ys a =
    (a.0, a.1, omega (arith, a.2, length-append xs ys), get_or_append_left xs ys a.1 a.0 a.2 ∙ a.3, a.4)

-- below i + 1: below i, or i
split : (x i : ℕ) → x < i + 1 → (x < i) ⊎ (x ≡ i)
split x i h = elim (cases_lt x i) [ inl lt ↦ inl lt | inr ge ↦ inr (omega arith) ]

module _ (at : ℕ → ℕ → Option (Move × ℕ)) (arity : ℕ) (ShutBy : ℕ → ℕ → Blocker → Type 0) (nodes : List ℕ) where
  module _ (node : ℕ) where
    -- at the start
    pub extends_none : (old : List Block) → AreInOrder old → All (λ b. b.node < node) old
        → All (IsBlock at arity ShutBy nodes) old → Extends at arity ShutBy nodes node 0 old old
    extends_none old up earlier only = record {
      kept = λ v index l. l;
      in_order = up;
      earlier = All-weaker (λ (b : Block). b.node < node) (IsEarlier node 0) (λ b lt. inl lt) old earlier;
      only = only;
      listed = λ index lt l. absurd (omega arith);
    }

    later : (i : ℕ) (b : Block) → IsEarlier node i b → IsEarlier node (i + 1) b
    later i b e = elim e [ inl lt ↦ inl lt | inr here ↦ inr (here.0, omega (arith, here.1)) ]

    -- a move that stays
    pub extends_stays : (i : ℕ) (old new : List Block) → Extends at arity ShutBy nodes node i old new
        → (LeadsOut at nodes node i → ⊥) → Extends at arity ShutBy nodes node (i + 1) old new
    extends_stays i old new e stays = record {
      kept = e.kept;
      in_order = e.in_order;
      earlier = All-weaker (IsEarlier node i) (IsEarlier node (i + 1)) (later i) new e.earlier;
      only = e.only;
      listed = λ index lt l. elim (split index i lt) [
        | inl below ↦ e.listed index below l
        | inr here ↦ absurd (stays (subst (LeadsOut at nodes node) here l))
      ];
    }

    before_new : (i : ℕ) (b new : Block) → new.node ≡ node → new.index ≡ i → IsEarlier node i b → IsBefore b new
    before_new i b new n x e =
        elim e [ inl lt ↦ inl (omega arith) | inr here ↦ inr (here.0 ∙ sym n, omega (arith, here.1)) ]

    -- a move that leads out is appended
    pub extends_block : (i : ℕ) (old mid : List Block) (b : Block) → Extends at arity ShutBy nodes node i old mid
        → b.node ≡ node → b.index ≡ i → IsBlock at arity ShutBy nodes b
        → Extends at arity ShutBy nodes node (i + 1) old (mid ++ b ∷ [])
    extends_block i old mid b e n x is = record {
      kept = λ v index l. any_left (IsOf v index) mid (b ∷ []) (e.kept v index l);
      in_order = all_pairs_push IsBefore mid b e.in_order
          (λ k d lt. before_new i (get_or mid k d) b n x (e.earlier k d lt));
      earlier = All-push (IsEarlier node (i + 1)) mid b
          (All-weaker (IsEarlier node i) (IsEarlier node (i + 1)) (later i) mid e.earlier) (inr (n, omega (arith, x)));
      only = All-push (IsBlock at arity ShutBy nodes) mid b e.only is;
      listed = λ index lt l. elim (split index i lt) [
        | inl below ↦ any_left (IsOf node index) mid (b ∷ []) (e.listed index below l)
        | inr here ↦ Any-push (IsOf node index) mid b (n, x ∙ sym here)
      ];
    }

  -- all blocks are of nodes before place k
  abbrev pub AreOfFirst : ℕ → List Block → Type 0
  AreOfFirst k bs = (j : ℕ) → k ≤ j → j < length nodes → All (λ b. b.node < get_or nodes j 0) bs

  upto : (k j : ℕ) → IsStrictlyIncreasing nodes → k < j → j < length nodes → (b : Block)
      → IsEarlier (get_or nodes k 0) arity b → b.node < get_or nodes j 0
  upto k j up lt in_range b e = let rises : get_or nodes k 0 < get_or nodes j 0 =
      AllPairs-from_increasing nodes up k j 0 lt in_range in elim e [ inl p ↦ omega arith | inr p ↦ omega (arith, p.0) ]

  -- the blocks of a node more are of nodes before the next place
  pub first_more : (k : ℕ) (old new : List Block) → IsStrictlyIncreasing nodes
      → Extends at arity ShutBy nodes (get_or nodes k 0) arity old new → AreOfFirst (k + 1) new
  first_more k old new up e j le lt =
      All-weaker (IsEarlier (get_or nodes k 0) arity) (λ (b : Block). b.node < get_or nodes j 0)
      (upto k j up (omega arith) lt) new e.earlier

  -- the moves of a node more are listed
  pub more_listed : (k : ℕ) (old new : List Block) → k < length nodes
      → All (AllListed at arity nodes old) (take k nodes)
      → Extends at arity ShutBy nodes (get_or nodes k 0) arity old new
      → All (AllListed at arity nodes new) (take (k + 1) nodes)
  more_listed k old new h a e = All-more (AllListed at arity nodes new) nodes k 0 h
      (All-weaker (AllListed at arity nodes old) (AllListed at arity nodes new)
      (λ v f index lt l. e.kept v index (f index lt l)) (take k nodes) a)
      (λ index lt l. e.listed index lt l)

  pub blocks_from_listed : (bs : List Block) → AreInOrder bs → All (IsBlock at arity ShutBy nodes) bs
      → All (AllListed at arity nodes bs) nodes → AreBlocks at arity ShutBy nodes bs
  blocks_from_listed bs up only listed = record {
    in_order = up;
    only = only;
    complete = λ node index c lt l. All-contains (AllListed at arity nodes bs) nodes node listed c index lt l;
  }

  pub listed_from_blocks : (bs : List Block) → AreBlocks at arity ShutBy nodes bs
      → All (AllListed at arity nodes bs) nodes
  listed_from_blocks bs a k d h index lt l = a.complete (get_or nodes k d) index (Contains-get_or nodes k d h) lt l
