-- What a run wrote is judged right.
use Rattle.std.proofs.Common.{◌≡◌, ◌≢◌, ◌⊎◌, inl, inr, ℕ, suc, ◌≤◌, ◌^◌, ◌==◌, ◌||◌, Bool}
use Rattle.std.proofs.Common.{true, false, true≢false}
use Rattle.std.proofs.Common.{List, [], ◌∷◌, Option, Some, None, refl, sym, ap, ◌∙◌, subst, arith}
use Rattle.std.proofs.Common.{length, map}
use Rattle.std.proofs.Common.{eq-eqb}
use Rattle.std.specs.Prelude.{slice_get, remove}
use Rattle.std.specs.List.{AllZip}
use Rattle.std.specs.Option.{option_map}
use Rattle.std.proofs.lemmas.List.{length-map}
use Rattle.std.proofs.lemmas.Option.{same_Some, slice_get-map}
use Rattle.std.proofs.lemmas.List.Elements.{All-nil, All-cons}
use Rattle.std.proofs.lemmas.List.Elements.{All-weaker}
use Rattle.pcb_model.specs.declared.item.Item.{Item}
use Rattle.pcb_model.specs.declared.design.Design.{Design}
use Rattle.pcb_model.specs.Pairs.{Agrees, AreTouching}
use Rattle.pcb_model.specs.Copper.{Ascends}
use Rattle.pcb_model.specs.Sound.{IsSound, Serves, IsPrintable}
use Rattle.pcb_islands.specs.declared.net.Island.{Island}
use Rattle.pcb_islands.specs.Islands.{AreIslands, pins_of}
use Rattle.pcb_islands.proofs.Gathering.{island_at}
use Rattle.route_lattice.specs.Mesh.{Mesh, node_count}
use Rattle.route_lattice.specs.Ways.{way, way_count}
use Rattle.cut_certificate.specs.declared.cut.Blocker.{Blocker}
use Rattle.cut_certificate.specs.declared.cut.Cut.{Cut}
use Rattle.cut_certificate.specs.Border.{IsBlock, AreBlocks}
use Rattle.cut_certificate.specs.Cuts.{IsCut, IsShutBy}
use Rattle.copper_alike.specs.Twins.{ShowSame}
use Rattle.copper_alike.proofs.Classes.{pins_in, islands_alike}
use Rattle.copper_alike.proofs.Places.{set_at}
use Rattle.copper_alike.proofs.Sets.{cut_set}
use Rattle.route_run.specs.declared.facts.Facts.{Facts}
use Rattle.told_words.specs.PinNames.{pin_name}
use Rattle.route_report.specs.Report.{cuts_of, numbered_cuts, wide_at}
use Rattle.report_form.specs.Form.{CutTold, IsName, IsNameBeside}
use Rattle.report_form.specs.Form.{has_mark}
use Rattle.route_check.specs.Judged.{first_of, first_name, IsLineTrue, islands_told, IsCutTrue}
use Rattle.route_check.specs.Judged.{AreCutsTrue}
use Rattle.check_law.specs.Written.{NetEnds}
use Rattle.check_law.proofs.Printed.{cut_told, net_told, numbered_told}
use Rattle.check_law.proofs.Numbered.{as_many, numbered_at}
use Rattle.check_law.proofs.Stretching.{runs_back}

-- ---- names
either_false : (a b : Bool) → (a || b) ≡ false → (a ≡ false) × (b ≡ false)
either_false true b h = absurd (true≢false h)
either_false false b h = (refl, h)

printable : (name : List ℕ) → has_mark name ≡ false → IsPrintable name
printable [] h = All-nil (λ b. b ≢ 34)
printable (b ∷ bs) h =
    let both = either_false (b == 34) (has_mark bs) h in
    All-cons (λ x. x ≢ 34) b bs (λ e. true≢false (sym (eq-eqb b 34 e) ∙ both.0)) (printable bs both.1)

pub own_name : (first name : List ℕ) → name ≡ first → IsName (Some first) name
own_name first name e = by (has_mark first) refl
  where
    by : (b : Bool) → has_mark first ≡ b → IsNameBeside b first name
    by true h = e
    by false h = subst IsPrintable (sym e) (printable first h)

pub first_is : (pins : List ℕ) (pin : ℕ) → slice_get pins 0 ≡ Some pin → first_of pins ≡ pin
first_is [] pin e = absurd (cc)
first_is (p ∷ ps) pin e = same_Some p pin e

-- ---- two lists place by place
pub zip_from : {A B : Type 0} (R : A → B → Type 0) (xs : List A) (ys : List B) → length xs ≡ length ys
    → ((k : ℕ) (x : A) (y : B) → slice_get xs k ≡ Some x → slice_get ys k ≡ Some y → R x y) → AllZip R xs ys
zip_from R [] [] e h = tt
zip_from R [] (y ∷ ys) e h = absurd (omega arith)
zip_from R (x ∷ xs) [] e h = absurd (omega arith)
zip_from R (x ∷ xs) (y ∷ ys) e h =
    (h 0 x y refl refl, zip_from R xs ys (omega arith) (λ k a b p q. h (suc k) a b p q))

-- ---- how a net ends
module _ (touch_back : (a b : Item) → AreTouching a b → AreTouching b a)
    (agree_back : (d : Design) (a b : Item) → Agrees d a b → Agrees d b a) (d : Design) (m : Mesh) (net : ℕ)
    (sound : IsSound d) (few : node_count m ≤ 2 ^ 24) (xs ys : List Item) (xs_rise : Ascends xs)
    (ys_rise : Ascends ys)
    (xs_serve : Serves xs d) (ys_serve : Serves ys d) (same : ShowSame xs ys) (facts : Facts)
    (e : NetEnds d m xs facts net) (own : List Island) (is : AreIslands d ys net own) where
  one_pins : map pins_in e.old ≡ map pins_in own
  one_pins = islands_alike touch_back d net sound xs ys xs_serve ys_serve same e.old own e.islands is

  pub one_length : length e.old ≡ length own
  one_length = sym (length-map e.old pins_in) ∙ ap length one_pins ∙ length-map own pins_in

  -- the line
  pub line_true : IsLineTrue own (net_told d m xs facts net)
  line_true = length-map (numbered_cuts facts net) (numbered_told d m xs facts) ∙ (as_many facts net ∙ by e.ends)
    where
      one : (ss : List Island) → length ss ≤ 1 → 0 ≡ islands_told ss
      one [] h = refl
      one (s ∷ []) h = refl
      one (s ∷ t ∷ ss) h = absurd (omega arith)

      more : (ss : List Island) → 2 ≤ length ss → length ss ≡ islands_told ss
      more [] h = absurd (omega arith)
      more (s ∷ []) h = absurd (omega arith)
      more (s ∷ t ∷ ss) h = refl

      by : (((cuts_of facts net ≡ []) × (length e.old ≤ 1))
          ⊎ ((2 ≤ length e.old) × (length (cuts_of facts net) ≡ length e.old)))
          → length (cuts_of facts net) ≡ islands_told own
      by (inl h) = ap length h.0 ∙ one own (omega (arith, h.1, one_length))
      by (inr h) = h.1 ∙ one_length ∙ more own (omega (arith, h.0, one_length))

  -- ---- a cut at a place
  module _ (k : ℕ) (t : Island) (cut : Cut) (t_at : slice_get own k ≡ Some t)
      (cut_at : slice_get (cuts_of facts net) k ≡ Some cut)
    where
      pins_at : option_map pins_in (slice_get e.old k) ≡ Some t.pins
      pins_at = sym (slice_get-map pins_in e.old k) ∙ ap (λ (pss : List (List ℕ)). slice_get pss k) one_pins
          ∙ slice_get-map pins_in own k ∙ ap (option_map pins_in) t_at

      record IsOld : Type 0 where
        island : Island
        at : slice_get e.old k ≡ Some island
        pins : island.pins ≡ t.pins

      old_of : (o : Option Island) → slice_get e.old k ≡ o → option_map pins_in o ≡ Some t.pins → IsOld
      old_of None p q = absurd (cc)
      old_of (Some s) p q = record { island = s; at = p; pins = same_Some s.pins t.pins q }

      old_island : IsOld
      old_island = old_of (slice_get e.old k) refl pins_at

      is_cut : IsCut d m xs old_island.island (remove e.old k) cut
      is_cut = e.cuts k old_island.island cut old_island.at cut_at

      pub named : pin_name d cut.pin ≡ first_name d t
      named = ap (pin_name d) (sym (first_is t.pins cut.pin
          (ap (λ (ps : List ℕ). slice_get ps 0) (sym old_island.pins) ∙ is_cut.pin_is)))

      one_net : old_island.island.net ≡ t.net
      one_net = (island_at d xs net (pins_of d net) e.old k old_island.island e.islands old_island.at).net_is
          ∙ sym (island_at d ys net (pins_of d net) own k t is t_at).net_is

      anything : ℕ → ℕ → Blocker → Type 0
      anything v i by = Unit {0}

      moves_out : (n : ℕ) → AreBlocks (way d m n) (way_count d m n) (IsShutBy d m xs n) cut.reach.nodes cut.blocked
          → AreBlocks (way d m n) (way_count d m n) (λ (v i : ℕ) (by : Blocker). Unit {0}) cut.reach.nodes cut.blocked
      moves_out n h = record {
        in_order = h.in_order;
        only = All-weaker (IsBlock (way d m n) (way_count d m n) (IsShutBy d m xs n) cut.reach.nodes)
            (IsBlock (way d m n) (way_count d m n) (λ (v i : ℕ) (by : Blocker). Unit {0}) cut.reach.nodes)
            (λ b x. record { node_in = x.node_in; in_range = x.in_range; leads_out = x.leads_out; shut = tt })
            cut.blocked h.only;
        complete = h.complete;
      }

      cut_true : (wide : Option ℕ) → IsCutTrue d m ys t (remove own k) (cut_told d m xs wide cut)
      cut_true wide = record {
        names = named;
        nodes = cut.reach.nodes;
        nodes_are = runs_back m few cut.reach.nodes is_cut.ascends is_cut.there;
        set = set_at touch_back agree_back d m net sound xs ys xs_rise ys_rise xs_serve ys_serve same e.old own
            e.islands is
            k old_island.island t old_island.at t_at cut.reach.nodes
            (cut_set d m xs old_island.island (remove e.old k) cut is_cut);
        reached = refl;
        count = length cut.blocked;
        out = record {
          moves = cut.blocked;
          all = subst (λ (n : ℕ). AreBlocks (way d m n) (way_count d m n) (λ (v i : ℕ) (by : Blocker). Unit {0})
              cut.reach.nodes cut.blocked) one_net (moves_out old_island.island.net is_cut.blocks);
          count_is = refl;
        };
        blocked = refl;
      }

  -- ---- all cuts of the net
  cut_of : (k : ℕ) (c : CutTold)
      → slice_get (map (numbered_told d m xs facts) (numbered_cuts facts net)) k ≡ Some c
      → (cut : ℕ × Cut) × (slice_get (cuts_of facts net) k ≡ Some cut.1) × (numbered_told d m xs facts cut ≡ c)
  cut_of k c h = by (slice_get (numbered_cuts facts net) k) refl
      (sym (slice_get-map (numbered_told d m xs facts) (numbered_cuts facts net) k) ∙ h)
    where
      by : (o : Option (ℕ × Cut)) → slice_get (numbered_cuts facts net) k ≡ o
          → option_map (numbered_told d m xs facts) o ≡ Some c
          → (cut : ℕ × Cut) × (slice_get (cuts_of facts net) k ≡ Some cut.1) × (numbered_told d m xs facts cut ≡ c)
      by None p q = absurd (cc)
      by (Some cut) p q =
          (cut, numbered_at facts net k cut p, same_Some (numbered_told d m xs facts cut) c q)

  pub cuts_true : AreCutsTrue d m ys own (net_told d m xs facts net)
  cuts_true = record {
    each = λ k t c t_at c_at.
        let f = cut_of k c c_at in
        subst (IsCutTrue d m ys t (remove own k)) f.2
        (cut_true k t f.0.1 t_at f.1 (wide_at facts.wide f.0.0));
  }
