-- The cuts of a net with their numbers among all cuts.
use Rattle.std.proofs.Common.{◌≡◌, ◌∙◌, ℕ, zero, suc, ◌+◌, ◌<◌, ◌^◌, Bool, true, false, List, [], ◌∷◌, ◌++◌, Option}
use Rattle.std.proofs.Common.{Some, None, All, get_or, length, map, filter, cond, refl, sym, ap, subst, arith}
use Rattle.std.specs.Prelude.{IfSome, decimal, is_some, slice_get}
use Rattle.std.specs.List.{enumerate_from}
use Rattle.std.specs.Option.{option_map}
use Rattle.std.proofs.lemmas.List.{length-map}
use Rattle.std.proofs.lemmas.List.Elements.{All-append, All-cons, All-nil}
use Rattle.std.proofs.lemmas.Option.{slice_get-get_or}
use Rattle.cut_certificate.specs.declared.cut.Cut.{Cut}
use Rattle.pcb_model.specs.declared.item.Item.{Item}
use Rattle.pcb_model.specs.declared.design.Net.{Net}
use Rattle.pcb_model.specs.declared.design.Design.{Design}
use Rattle.route_lattice.specs.Mesh.{Mesh}
use Rattle.route_run.specs.declared.facts.Facts.{Facts}
use Rattle.route_report.specs.Report.{cuts_of, is_at_net, is_of_net, numbered_cuts, wide_at}
use Rattle.report_form.specs.Form.{CutTold, NetTold, cuts_in, tells_wide}
use Rattle.report_form.proofs.Numbers.{number_of}
use Rattle.report_form.specs.Form.{IsNumber}
use Rattle.check_law.specs.Written.{AreFewEach, HaveSizes}
use Rattle.check_law.proofs.Printed.{net_told, nets_from, numbered_told}

abbrev pub own_cut : (ℕ × Cut) → Cut
own_cut numbered = numbered.1

-- without their numbers they are the cuts of the net
unnumbered : (net i : ℕ) (cuts : List Cut)
    → map own_cut (filter (is_at_net net) (enumerate_from i cuts)) ≡ filter (is_of_net net) cuts
unnumbered net i [] = refl
unnumbered net i (cut ∷ cuts) = by (is_of_net net cut) (unnumbered net (i + 1) cuts)
  where
    rest : List (ℕ × Cut)
    rest = filter (is_at_net net) (enumerate_from (i + 1) cuts)

    by : (b : Bool) → map own_cut rest ≡ filter (is_of_net net) cuts
        → map own_cut (cond b ((i, cut) ∷ rest) rest) ≡ cond b (cut ∷ filter (is_of_net net) cuts)
        (filter (is_of_net net) cuts)
    by true e = ap (λ (cs : List Cut). cut ∷ cs) e
    by false e = e

pub own_cuts_are : (facts : Facts) (net : ℕ) → map own_cut (numbered_cuts facts net) ≡ cuts_of facts net
own_cuts_are facts net = unnumbered net 0 facts.cuts

pub as_many : (facts : Facts) (net : ℕ) → length (numbered_cuts facts net) ≡ length (cuts_of facts net)
as_many facts net = sym (length-map (numbered_cuts facts net) own_cut) ∙ ap length (own_cuts_are facts net)

-- a numbered cut at a place
pub numbered_at : (facts : Facts) (net k : ℕ) (numbered : ℕ × Cut)
    → slice_get (numbered_cuts facts net) k ≡ Some numbered → slice_get (cuts_of facts net) k ≡ Some numbered.1
numbered_at facts net k numbered e =
    ap (λ (cs : List Cut). slice_get cs k) (sym (own_cuts_are facts net)) ∙ at_map (numbered_cuts facts net) k e
  where
    at_map : (ps : List (ℕ × Cut)) (k : ℕ) → slice_get ps k ≡ Some numbered
        → slice_get (map own_cut ps) k ≡ Some numbered.1
    at_map [] k e = cc
    at_map (p ∷ ps) zero e = ap (option_map own_cut) e
    at_map (p ∷ ps) (suc k) e = at_map ps k e

-- ---- how far moves at 45 degrees reach
-- the number that is told of it
pub wide_number : (wide : Option ℕ) → IfSome wide (λ n. n < 2 ^ 64) → IfSome (option_map decimal wide) IsNumber
wide_number None h = tt
wide_number (Some n) h = number_of n h

pub wide_small : (wide : Option (List ℕ)) (number : ℕ) → AreFewEach wide
    → IfSome (wide_at wide number) (λ n. n < 2 ^ 64)
wide_small None number h = tt
wide_small (Some sizes) number h = each sizes number h
  where
    each : (sizes : List ℕ) (number : ℕ) → All (λ n. n < 2 ^ 64) sizes
        → IfSome (slice_get sizes number) (λ n. n < 2 ^ 64)
    each [] number h = tt
    each (n ∷ sizes) zero h = h 0 n (omega arith)
    each (n ∷ sizes) (suc number) h = each sizes number (λ k d within. h (suc k) d (omega (arith, within)))

-- ---- each cut tells so, or none does
abbrev Tells : Bool → CutTold → Type 0
Tells wide c = tells_wide c ≡ wide

-- a numbered cut of a list has a number among the list's
abbrev IsBelow : ℕ → (ℕ × Cut) → Type 0
IsBelow n numbered = numbered.0 < n

below_all : (net i : ℕ) (cuts : List Cut) (n : ℕ) → i + length cuts ≡ n
    → All (IsBelow n) (filter (is_at_net net) (enumerate_from i cuts))
below_all net i [] n e = All-nil (IsBelow n)
below_all net i (cut ∷ cuts) n e = by (is_of_net net cut) (below_all net (i + 1) cuts n (omega (arith, e)))
  where
    rest : List (ℕ × Cut)
    rest = filter (is_at_net net) (enumerate_from (i + 1) cuts)

    by : (b : Bool) → All (IsBelow n) rest → All (IsBelow n) (cond b ((i, cut) ∷ rest) rest)
    by true h = All-cons (IsBelow n) (i, cut) rest (omega (arith, e)) h
    by false h = h

told_at : (wide : Option (List ℕ)) (n number : ℕ) → HaveSizes wide n → number < n
    → is_some (option_map decimal (wide_at wide number)) ≡ is_some wide
told_at None n number h within = refl
told_at (Some sizes) n number h within = by (slice_get sizes number) (slice_get-get_or sizes number 0
    (omega (arith, within, h)))
  where
    by : (o : Option ℕ) → o ≡ Some (get_or sizes number 0) → is_some (option_map decimal o) ≡ true
    by None e = cc
    by (Some k) e = refl

module _ (d : Design) (m : Mesh) (items : List Item) (facts : Facts)
    (sizes : HaveSizes facts.wide (length facts.cuts)) where
  told_each : (ps : List (ℕ × Cut)) → All (IsBelow (length facts.cuts)) ps
      → All (Tells (is_some facts.wide)) (map (numbered_told d m items facts) ps)
  told_each [] h = All-nil (Tells (is_some facts.wide))
  told_each (p ∷ ps) h = All-cons (Tells (is_some facts.wide)) (numbered_told d m items facts p)
      (map (numbered_told d m items facts) ps)
      (told_at facts.wide (length facts.cuts) p.0 sizes (h 0 p (omega arith)))
      (told_each ps (λ k e within. h (suc k) e (omega (arith, within))))

  pub tell_alike : (i : ℕ) (nets : List Net)
      → All (Tells (is_some facts.wide)) (cuts_in (nets_from d m items facts i nets))
  tell_alike i [] = All-nil (Tells (is_some facts.wide))
  tell_alike i (net ∷ nets) = All-append (Tells (is_some facts.wide))
      (map (numbered_told d m items facts) (numbered_cuts facts i)) (cuts_in (nets_from d m items facts (i + 1) nets))
      (told_each (numbered_cuts facts i) (below_all i 0 facts.cuts (length facts.cuts) (omega arith)))
      (tell_alike (i + 1) nets)
