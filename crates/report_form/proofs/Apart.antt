-- Lines whose numbers the form fixes: what they have to be, and that there is no other.
use Rattle.std.proofs.Common.{◌≡◌, ℕ, suc, ◌+◌, ◌-◌, ◌^◌, ◌<◌, ◌≤◌, ◌==◌, Bool, true, false, not, cond, List}
use Rattle.std.proofs.Common.{[], ◌∷◌}
use Rattle.std.proofs.Common.{◌++◌, length, Some, None, refl, sym, ap, ◌∙◌, arith, nat_eq, filter}
use Rattle.std.specs.Prelude.{codes, decimal, count_by, ◌↔◌}
use Rattle.std.proofs.lemmas.List.Sums.{sum_by-cons}
use Rattle.pcb_model.specs.declared.design.Design.{Design}
use Rattle.report_form.specs.Form.{NetTold, CutTold, IsNumber, value, size_line, total_line, is_complete, is_open, line}
use Rattle.report_form.specs.Reading.{exact, capped, AreCutsKept, AreNetsKept}
use Rattle.report_form.specs.declared.reading.ReadCut.{ReadCut}
use Rattle.ses_writer.specs.Words.{spelled}
use Rattle.report_form.specs.inner.Fields.{HasOne, HasTwo, HasGrid, HasPass}
use Rattle.report_form.specs.inner.Halts.{HasNoNetLine}
use Rattle.report_form.proofs.Numbers.{number_of, value_of}
use Rattle.report_form.proofs.Values.{exact_is, exact_small, written}
use Rattle.report_form.proofs.Printed.{HasSizes, Few, sizes_of_line, three_same, SameThree, two_same, SameTwo}
use Rattle.report_form.proofs.Printed.{one_same, two_line, two_of_line, HasPassNumber, pass_three, grid_two}
use Rattle.report_form.proofs.Printed.{whole_words, opened_words, behind_name}

-- ---- a number that is written
eq_true : (a b : ℕ) → a ≡ b → nat_eq a b ≡ true
eq_true a b e = grind (arith, e)

true_eq : (a b : ℕ) → nat_eq a b ≡ true → a ≡ b
true_eq a b e = grind (arith, e)

pub writes_some : (w : List ℕ) (v n : ℕ) → IsNumber w → n < 2 ^ 64 → exact w ≡ Some v
    → (nat_eq v n ≡ true) ↔ (w ≡ decimal n)
writes_some w v n number few e =
    let is = exact_is w v e in (
      λ h. let same : value w ≡ n = sym is ∙ true_eq v n h in
          written w number (omega (arith, few, same)) ∙ ap decimal same,
      λ h. eq_true v n (is ∙ ap value h ∙ value_of n few),
    )

pub writes_none : (w : List ℕ) (n : ℕ) → n < 2 ^ 64 → exact w ≡ None → (false ≡ true) ↔ (w ≡ decimal n)
writes_none w n few e = (
  λ h. cc,
  λ h. absurd (none (sym e ∙ exact_small w n (sym (ap value h ∙ value_of n few))
      (omega (arith, few)))),
)
  where
    none : None ≡ Some n → ⊥
    none e = cc

-- ---- the sizes
pub sizes_apart : (d : Design) (a b c r s text : List ℕ) → Few d → HasSizes a b c r text → text ≡ size_line d ++ s
    → SameThree a b c (decimal (length d.layers)) (decimal (length d.nets)) (decimal (length d.pins))
sizes_apart d a b c r s text few has e =
    three_same (codes "layers ") (codes " nets ") (codes " pins ") a b c r (decimal (length d.layers))
    (decimal (length d.nets)) (decimal (length d.pins)) s text (λ x. refl) (λ x. refl) has
    (sizes_of_line d s text few e)

-- ---- the grid
pub grid_apart : (a b r g n s text : List ℕ) → HasTwo (codes "grid ") (codes " nodes ") a b r text → HasGrid g n s text
    → g ≡ a
grid_apart a b r g n s text two has =
    sym (two_same (codes "grid ") (codes " nodes ") a b r g n s text (λ x. refl) two (grid_two g n s text has)).first

-- ---- a pass
pub pass_apart : (k : ℕ) (w a b r x y s text : List ℕ) → k < 2 ^ 64 → HasPassNumber w a b r text
    → HasPass k x y s text → w ≡ decimal k
pass_apart k w a b r x y s text few three has =
    (three_same (codes "pass ") (codes " commits ") (codes " open ") w a b r (decimal k) x y s text (λ z. refl)
    (λ z. refl) three (pass_three k x y s text few has)).first

-- ---- the last line
-- a net is complete where no cut is kept
kept_count : (own : List (List ℕ)) (cs : List CutTold) (ks : List ReadCut) → AreCutsKept own cs ks
    → length cs ≡ length ks
kept_count own [] [] h = refl
kept_count own [] (k ∷ ks) h = absurd h
kept_count own (c ∷ cs) [] h = absurd h
kept_count [] (c ∷ cs) (k ∷ ks) h = let rest = kept_count [] cs ks h.1 in omega (arith, rest)
kept_count (first ∷ own) (c ∷ cs) (k ∷ ks) h = let rest = kept_count own cs ks h.1 in omega (arith, rest)

abbrev pub no_cut : List ReadCut → Bool
no_cut ks = length ks == 0

pub record Counts (ns : List NetTold) (ks : List (List ReadCut)) : Type 0 where
  pub complete : length (filter is_complete ns) ≡ count_by no_cut ks
  pub together : length (filter is_complete ns) + length (filter is_open ns) ≡ length ks
  pub all : length ks ≡ length ns

counts_more : (b c : Bool) (n : NetTold) (ns : List NetTold) (k : List ReadCut) (ks : List (List ReadCut)) → b ≡ c
    → Counts ns ks
    → (length (cond b (n ∷ filter is_complete ns) (filter is_complete ns)) ≡ cond c 1 0 + count_by no_cut ks)
    × (length (cond b (n ∷ filter is_complete ns) (filter is_complete ns))
    + length (cond (not b) (n ∷ filter is_open ns) (filter is_open ns)) ≡ suc (length ks))
counts_more true true n ns k ks e h = let a = h.complete in let b = h.together in (omega (arith, a), omega (arith, b))
counts_more true false n ns k ks e h = cc
counts_more false true n ns k ks e h = cc
counts_more false false n ns k ks e h =
    let a = h.complete in let b = h.together in (omega (arith, a), omega (arith, b))

pub counts : (firsts : List (List (List ℕ))) (ns : List NetTold) (ks : List (List ReadCut)) → AreNetsKept firsts ns ks
    → Counts ns ks
counts firsts [] [] h = record { complete = refl; together = refl; all = refl }
counts firsts [] (k ∷ ks) h = absurd h
counts firsts (n ∷ ns) [] h = absurd h
counts [] (n ∷ ns) (k ∷ ks) h = absurd h
counts (own ∷ firsts) (n ∷ ns) (k ∷ ks) h =
    let rest = counts firsts ns ks h.1 in
    let same : is_complete n ≡ no_cut k = ap (λ (x : ℕ). x == 0) (kept_count own n.cuts k h.0) in
    let both = counts_more (is_complete n) (no_cut k) n ns k ks same rest in
    let all = rest.all in record {
      complete = both.0 ∙ sym (sum_by-cons (λ (x : List ReadCut). cond (no_cut x) 1 0) k ks);
      together = both.1;
      all = omega (arith, all);
    }

abbrev pub HasTotals : (a b behind text : List ℕ) → Type 0
HasTotals a b behind text = HasTwo (codes "complete ") (codes " open ") a b behind text

pub total_from : (ns : List NetTold) (a b r text : List ℕ) → HasTotals a b r text
    → a ≡ decimal (length (filter is_complete ns)) → b ≡ decimal (length (filter is_open ns))
    → text ≡ total_line ns ++ r
total_from ns a b r text h e f =
    two_line (codes "complete ") (codes " open ") a b r text h
    ∙ (λ i. line (codes "complete " ++ e i ++ codes " open " ++ f i) ++ r)

pub total_two : (ns : List NetTold) (r text : List ℕ) → length ns < 2 ^ 64
    → length (filter is_complete ns) + length (filter is_open ns) ≡ length ns → text ≡ total_line ns ++ r
    → HasTotals (decimal (length (filter is_complete ns))) (decimal (length (filter is_open ns))) r text
total_two ns r text few together e =
    two_of_line (codes "complete ") (codes " open ") (decimal (length (filter is_complete ns)))
    (decimal (length (filter is_open ns))) r text
    (number_of (length (filter is_complete ns)) (omega (arith, few, together)))
    (number_of (length (filter is_open ns)) (omega (arith, few, together))) e

-- the numbers that have to stand there
pub record Totals (ns : List NetTold) (complete open_ : ℕ) : Type 0 where
  pub few : length ns < 2 ^ 64
  pub together : length (filter is_complete ns) + length (filter is_open ns) ≡ length ns
  pub complete_is : length (filter is_complete ns) ≡ complete
  pub open_is : length (filter is_open ns) ≡ open_

pub totals : (firsts : List (List (List ℕ))) (ns : List NetTold) (ks : List (List ReadCut)) (complete : ℕ)
    → AreNetsKept firsts ns ks → length ks < 2 ^ 64 → complete ≡ count_by no_cut ks
    → Totals ns complete (length ks - complete)
totals firsts ns ks complete kept few e =
    let h = counts firsts ns ks kept in
    let a = h.complete in
    let b = h.together in
    let all = h.all in record {
      few = omega (arith, few, all);
      together = omega (arith, b, all);
      complete_is = a ∙ sym e;
      open_is = omega (arith, a, b, e);
    }

pub no_total : (ns : List NetTold) (complete open_ : ℕ) (r text : List ℕ) → Totals ns complete open_
    → ((a b r : List ℕ) → HasTotals a b r text → ⊥) → text ≡ total_line ns ++ r → ⊥
no_total ns complete open_ r text t none e =
    none (decimal (length (filter is_complete ns))) (decimal (length (filter is_open ns))) r
    (total_two ns r text t.few t.together e)

pub total_apart : (ns : List NetTold) (complete open_ : ℕ) (a b r s text : List ℕ) → Totals ns complete open_
    → HasTotals a b r text → text ≡ total_line ns ++ s → SameTwo a b (decimal complete) (decimal open_)
total_apart ns complete open_ a b r s text t has e =
    let same = two_same (codes "complete ") (codes " open ") a b r (decimal (length (filter is_complete ns)))
    (decimal (length (filter is_open ns))) s text (λ x. refl) has (total_two ns s text t.few t.together e) in
    record { first = same.first ∙ ap decimal t.complete_is; second = same.second ∙ ap decimal t.open_is }

pub total_is : (ns : List NetTold) (complete open_ : ℕ) (a b r text : List ℕ) → Totals ns complete open_
    → HasTotals a b r text → a ≡ decimal complete → b ≡ decimal open_ → text ≡ total_line ns ++ r
total_is ns complete open_ a b r text t has e f =
    total_from ns a b r text has (e ∙ ap decimal (sym t.complete_is)) (f ∙ ap decimal (sym t.open_is))

-- ---- the line of a net
net_none : (name behind words text : List ℕ) → text ≡ codes "net " ++ behind → behind ≡ spelled name ++ words
    → ((r : List ℕ) → words ≡ codes " complete\n" ++ r → ⊥)
    → ((w r : List ℕ) → HasOne (codes " open ") w r words → 2 ≤ value w → ⊥) → HasNoNetLine name text
net_none name behind words text e f no_whole no_opened = record {
  no_whole = λ r h. no_whole r (behind_name name behind words (codes " complete\n" ++ r) text e f
      (whole_words name r text h));
  no_opened = λ w r h. no_opened w r (record {
    number = h.number;
    is = behind_name name behind words (codes " open " ++ (w ++ (10 ∷ r))) text e f (opened_words name w r text h);
  }) h.many;
}

pub net_unread : (name behind words text : List ℕ) → text ≡ codes "net " ++ behind → behind ≡ spelled name ++ words
    → ((r : List ℕ) → words ≡ codes " complete\n" ++ r → ⊥)
    → ((w r : List ℕ) → HasOne (codes " open ") w r words → ⊥) → HasNoNetLine name text
net_unread name behind words text e f no_whole no_opened =
    net_none name behind words text e f no_whole (λ w r h many. no_opened w r h)

pub net_few : (name behind words text digits next : List ℕ) (islands : ℕ) → text ≡ codes "net " ++ behind
    → behind ≡ spelled name ++ words → ((r : List ℕ) → words ≡ codes " complete\n" ++ r → ⊥)
    → HasOne (codes " open ") digits next words → islands ≡ capped (2 ^ 64 - 1) digits → islands < 2
    → HasNoNetLine name text
net_few name behind words text digits next islands e f no_whole one is few =
    net_none name behind words text e f no_whole (λ w r h many.
    let same : value w ≡ value digits = ap value (one_same (codes " open ") w r digits next words h one) in
    omega (arith, same, is, few, many))
