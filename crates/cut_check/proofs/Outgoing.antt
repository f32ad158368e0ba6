-- The moves that lead out of nodes are counted move by move, and node by node.
use Rattle.std.proofs.Common.{◌≡◌, ◌∙◌, inl, inr, ℕ, ◌+◌, ◌-◌, ◌^◌, ◌<◌, ◌≤◌, List, [], ◌∷◌, ◌++◌, ap, arith, get_or}
use Rattle.std.proofs.Common.{length, length-append, refl, subst, sym, zero, suc, Bool, true, false, not, Option}
use Rattle.std.proofs.Common.{Some, None}
use Rattle.std.specs.Prelude.{◌↔◌, Contains, IsTrue, slice_index}
use Rattle.std.specs.List.Sorted.{IsStrictlyIncreasing}
use Rattle.std.proofs.lemmas.Bool.{cases_lt, false≢true}
use Rattle.std.proofs.lemmas.Option.{same_Some}
use Rattle.route_lattice.specs.declared.moves.Move.{Move}
use Rattle.std.proofs.lemmas.List.{get_or_default}
use Rattle.std.proofs.lemmas.List.Elements.{Contains-get_or}
use Rattle.route_lattice.specs.Walks.{MoveGraph}
use Rattle.cut_certificate.specs.declared.cut.Block.{Block}
use Rattle.cut_certificate.specs.declared.cut.Blocker.TheVariants.{Outside}
use Rattle.cut_certificate.specs.Border.{LeadsOut}
use Rattle.cut_certificate.specs.inner.Listing.{AllListed}
use Rattle.cut_certificate.proofs.Blocks.{blocks_from_listed, extends_block, extends_none, extends_stays}
use Rattle.cut_certificate.proofs.Blocks.{first_more, more_listed}
use Rattle.cut_certificate.proofs.Each.{each_true}
use Rattle.cut_check.specs.inner.Outs.{AddsOuts, AnyBy, AreOuts, AreOutsSoFar, StaysBelow}

-- an ascending list has no more numbers than there are below its bound
place_below : (xs : List ℕ) → IsStrictlyIncreasing xs → (k : ℕ) → k < length xs → k ≤ slice_index xs k
place_below xs up zero within = omega arith
place_below xs up (suc k) within =
    let before : k ≤ slice_index xs k = place_below xs up k (omega (arith, within)) in
    let next : k + 1 ≡ suc k = omega arith in
    let rise : slice_index xs k < slice_index xs (suc k) =
    subst (λ (n : ℕ). slice_index xs k < slice_index xs n) next (up k (omega (arith, within))) in
    omega (arith, before, rise)

pub few : (xs : List ℕ) (n : ℕ) → IsStrictlyIncreasing xs → ((v : ℕ) → Contains xs v → v < n) → length xs ≤ n
few xs n up low = elim (cases_lt 0 (length xs)) [
  | inl some ↦
      let k = length xs - 1 in
      let within : k < length xs = omega (arith, some) in
      let high = place_below xs up k within in
      let below = low (slice_index xs k) (Contains-get_or xs k 0 within) in
      omega (arith, high, below, some)
  | inr none ↦ omega (arith, none)
]

-- ---- one move
-- it leads out where its end isn't among the nodes
pub leads_when : (at : ℕ → ℕ → Option (Move × ℕ)) (nodes : List ℕ) (node i : ℕ) (m : Move) (to : ℕ) (b : Bool)
    → at node i ≡ Some (m, to) → (IsTrue b ↔ Contains nodes to) → IsTrue (not b) ↔ LeadsOut at nodes node i
leads_when at nodes node i m to true is inside = (
  λ t. absurd (false≢true t),
  λ l.
      let one : Some (m, to) ≡ Some (l.move, l.to) = sym is ∙ l.leads in
      let same : to ≡ l.to = ap (λ (w : Move × ℕ). w.1) (same_Some (m, to) (l.move, l.to) one) in
      absurd (l.outside (subst (Contains nodes) same (inside.0 refl))),
)
leads_when at nodes node i m to false is inside = (
  λ t. record { move = m; to = to; leads = is; outside = λ h. false≢true (inside.1 h) },
  λ l. refl,
)

-- and where there is none, it doesn't
pub leads_never : (at : ℕ → ℕ → Option (Move × ℕ)) (nodes : List ℕ) (node i : ℕ) → at node i ≡ None
    → LeadsOut at nodes node i → ⊥
leads_never at nodes node i is l = let e = l.leads in cc

module _ (graph : MoveGraph) (nodes : List ℕ) where
  module _ (node : ℕ) where
    pub adds_none : AddsOuts graph nodes node 0 0
    adds_none = record {
      stays = record { none = λ index less out open_. absurd (omega (arith, less)) };
      adds = λ old up earlier only. record {
        new = old;
        extends = extends_none graph.at graph.arity AnyBy nodes node old up earlier only;
        more = omega arith;
      };
    }

    stays_more : (i : ℕ) → StaysBelow graph nodes node i
        → (LeadsOut graph.at nodes node i → graph.open_at node i → ⊥) → StaysBelow graph nodes node (i + 1)
    stays_more i before here = record {
      none = λ index less out is. elim (cases_lt index i) [
        | inl early ↦ before.none index early out is
        | inr late ↦
            let same : index ≡ i = omega (arith, less, late) in
            here (subst (LeadsOut graph.at nodes node) same out) (subst (graph.open_at node) same is)
      ];
    }

    -- a move that stays
    pub adds_stays : (i count : ℕ) → AddsOuts graph nodes node i count → (LeadsOut graph.at nodes node i → ⊥)
        → AddsOuts graph nodes node (i + 1) count
    adds_stays i count before stays = record {
      stays = stays_more i before.stays (λ out is. stays out);
      adds = λ old up earlier only. let a = before.adds old up earlier only in record {
        new = a.new;
        extends = extends_stays graph.at graph.arity AnyBy nodes node i old a.new a.extends stays;
        more = a.more;
      };
    }

    -- a move that leads out and is shut
    pub adds_block : (i count : ℕ) → AddsOuts graph nodes node i count → Contains nodes node → i < graph.arity
        → LeadsOut graph.at nodes node i → (graph.open_at node i → ⊥) → AddsOuts graph nodes node (i + 1) (count + 1)
    adds_block i count before there within out shut = record {
      stays = stays_more i before.stays (λ o is. shut is);
      adds = λ old up earlier only.
          let a = before.adds old up earlier only in
          let b : Block = record { node = node; index = i; by = Outside } in
          record {
            new = a.new ++ b ∷ [];
            extends = extends_block graph.at graph.arity AnyBy nodes node i old a.new b a.extends refl refl
                (record { node_in = there; in_range = within; leads_out = out; shut = tt });
            more = let e = length-append a.new (b ∷ []) in let f = a.more in omega (arith, e, f);
          };
    }

  -- ---- node by node
  pub outs_none : AreOutsSoFar graph nodes 0 0
  outs_none = record {
    stays = λ j d less. absurd (omega (arith, less));
    blocks = [];
    in_order = λ i j d less within. absurd (omega (arith, within));
    of_first = λ j le lt i d within. absurd (omega (arith, within));
    only = λ i d within. absurd (omega (arith, within));
    listed = λ i d within. absurd (omega (arith, within));
    count_is = refl;
    small = omega arith;
  }

  pub outs_more : (k count more : ℕ) → IsStrictlyIncreasing nodes → k < length nodes → more < 2 ^ 32
      → AreOutsSoFar graph nodes k count → AddsOuts graph nodes (get_or nodes k 0) graph.arity more
      → AreOutsSoFar graph nodes (k + 1) (count + more)
  outs_more k count more up within low so adds =
      let a = adds.adds so.blocks so.in_order (so.of_first k (omega arith) within) so.only in
      record {
        stays = λ j d less. elim (cases_lt j k) [
          | inl early ↦ so.stays j d early
          | inr late ↦
              let same : k ≡ j = omega (arith, less, late) in
              subst (λ (v : ℕ). StaysBelow graph nodes v graph.arity)
              (get_or_default nodes k 0 d within ∙ ap (λ (i : ℕ). get_or nodes i d) same) adds.stays
        ];
        blocks = a.new;
        in_order = a.extends.in_order;
        of_first = first_more graph.at graph.arity AnyBy nodes k so.blocks a.new up a.extends;
        only = a.extends.only;
        listed = more_listed graph.at graph.arity AnyBy nodes k so.blocks a.new within so.listed a.extends;
        count_is = a.more ∙ ap (λ (n : ℕ). n + more) so.count_is;
        small = let s = so.small in omega (arith, s, low, within);
      }

  pub outs_all : (k count : ℕ) → length nodes ≤ k → count ≤ 2 ^ 57 → AreOutsSoFar graph nodes k count
      → AreOuts graph nodes count
  outs_all k count past low so = record {
    stays = λ node c. subst (λ (v : ℕ). StaysBelow graph nodes v graph.arity) c.2
        (so.stays c.0 node (let low = c.1 in omega (arith, low, past)));
    blocks = so.blocks;
    are = blocks_from_listed graph.at graph.arity AnyBy nodes so.blocks so.in_order so.only
        ((each_true (AllListed graph.at graph.arity nodes so.blocks) nodes k past so.listed).0 refl);
    count_is = so.count_is;
    few = low;
  }
