-- What is judged right is legal, and its nets are as they are told.
use Rattle.std.proofs.Common.{◌≡◌, ◌⊎◌, inl, inr, ℕ, zero, suc, ◌<◌, ◌≤◌, true, true≢false, List}
use Rattle.std.proofs.Common.{[], ◌∷◌}
use Rattle.std.proofs.Common.{Some, refl, sym, ◌∙◌, subst, arith, All, length, get_or}
use Rattle.std.specs.Prelude.{Contains, slice_get}
use Rattle.std.proofs.lemmas.List.Elements.{All-contains, All-contains_itself, Contains-append_cases}
use Rattle.pcb_model.specs.declared.item.Item.{Item}
use Rattle.pcb_model.specs.declared.design.Design.{Design}
use Rattle.pcb_model.specs.Pairs.{AreTouching}
use Rattle.pcb_model.specs.Board.{IsLegal, IsRouted, IsMade}
use Rattle.pcb_model.specs.Copper.{Ascends}
use Rattle.pcb_model.specs.Sound.{IsSound, Serves}
use Rattle.pcb_islands.specs.declared.net.Island.{Island}
use Rattle.pcb_islands.proofs.Whole.{whole}
use Rattle.pcb_islands.proofs.Elements.{look_at}
use Rattle.ses_reader.specs.declared.item.SesItem.{SesItem}
use Rattle.route_check.specs.Board.{board_of, numbered, left_of}
use Rattle.report_form.specs.Form.{NetTold, CutTold}
use Rattle.copper_check.specs.Checks.{AreAllIslands}
use Rattle.route_check.specs.Judged.{Case, IsRight, IsVouched, IsNetVouched}
use Rattle.route_check.specs.Judged.{islands_told, IsLineTrue}
use Rattle.route_check.specs.Judged.{AreCutsTrue, mesh_told}
use Rattle.route_check.proofs.Boards.{in_left, is_numbered}
use Rattle.route_check.proofs.Zipped.{zip_at}

module _ (touch_back : (a b : Item) → AreTouching a b → AreTouching b a) (d : Design) (xs : List SesItem)
    (report : List ℕ) (found : List (List Island)) (sound : IsSound d) (rise : Ascends (board_of d xs))
    (serve : Serves (board_of d xs) d) (nets : All (λ (x : SesItem). x.net < length d.nets) xs)
    (islands : AreAllIslands d (board_of d xs) found) where
  abbrev ys : List Item
  ys = board_of d xs

  abbrev case : Case
  case = record { design = d; items = board_of d xs; found = found; report = report }

  module _ (right : IsRight case) where
    fixed_there : (a : Item) → Contains d.fixed a → a.fixed ≡ true
    fixed_there a h = (sound.fixed h.0 a (look_at d.fixed a h)).fixed

    made : (a : Item) → Contains ys a → IsRouted a → IsMade d a
    made a h r = elim (Contains-append_cases d.fixed (numbered d (length d.fixed) (left_of d.fixed xs)) a h) [
      | inl fixed ↦ absurd (true≢false (sym (fixed_there a fixed) ∙ r))
      | inr new ↦
          let n = is_numbered d (length d.fixed) (left_of d.fixed xs) a new in
          subst (IsMade d) (sym n.is) (record {
            net = n.x.net;
            net_there = All-contains (λ (x : SesItem). x.net < length d.nets) xs n.x nets
                (in_left d.fixed xs n.x n.there);
            made = refl;
          })
    ]

    legal : IsLegal d ys
    legal = record {
      agree = λ i j x less within one.
          let a = get_or ys i x in
          let b = get_or ys j x in
          (right.legal.agree i x (omega (arith, less, within))).each b (All-contains_itself ys j x within)
          (λ e. let up : a.id < b.id = rise i j x less within in omega (arith, up, e)) one;
      inside = right.legal.inside;
      laid = right.legal.laid;
      made = λ i x lt r. made (get_or ys i x) (All-contains_itself ys i x lt) r;
      fixed_stay = serve.fixed_there;
    }

    -- a net without several islands has no cut, another one for each
    none_told : (own : List Island) (cuts : List CutTold) → length cuts ≡ islands_told own
        → ((cuts ≡ []) × (length own ≤ 1)) ⊎ (length cuts ≡ length own)
    none_told [] [] e = inl (refl, omega arith)
    none_told [] (c ∷ cs) e = absurd (omega arith)
    none_told (s ∷ []) [] e = inl (refl, omega arith)
    none_told (s ∷ []) (c ∷ cs) e = absurd (omega arith)
    none_told (s ∷ t ∷ own) cuts e = inr e

    cut_at : (own : List Island) (cuts : List CutTold) → length cuts ≡ length own → (k : ℕ) (s : Island)
        → slice_get own k ≡ Some s → (c : CutTold) × (slice_get cuts k ≡ Some c)
    cut_at [] cuts e k s p = absurd (cc)
    cut_at (t ∷ own) [] e k s p = absurd (omega arith)
    cut_at (t ∷ own) (c ∷ cs) e zero s p = (c, refl)
    cut_at (t ∷ own) (c ∷ cs) e (suc k) s p = cut_at own cs (omega arith) k s p

    net_vouched : (net : ℕ) (own : List Island) (n : NetTold) → slice_get found net ≡ Some own
        → slice_get right.told.nets net ≡ Some n → IsNetVouched d (mesh_told case right.told) ys net own n
    net_vouched net own n p q =
        let line = zip_at IsLineTrue found right.told.nets right.lines net own n p q in
        let cuts = zip_at (AreCutsTrue d
        (mesh_told case right.told) ys) found right.told.nets right.cuts net own n p q in
        elim (none_told own n.cuts line) [
          | inl few ↦ inl (
            few.0,
            (whole d ys net sound serve touch_back own (islands.each net own p)).0 few.1,
          )
          | inr all ↦ inr (
            all,
            λ k s at.
                let c = cut_at own n.cuts all k s at in
                let t = cuts.each k s c.0 at c.1 in (t.nodes, t.set),
          )
        ]

    pub vouched : IsVouched case
    vouched = record { told = right.told; says = right.read.report.1; legal = legal; nets = net_vouched }
