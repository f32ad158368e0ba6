-- A text has one tree or one fault.
use Rattle.std.proofs.Common.{◌⊎◌, ◌≡◌, ◌<◌, ◌+◌, ◌-◌, ◌≤◌, ◌∙◌, ap, sym, ℕ, Bool, true, false, List, [], ◌∷◌, ◌++◌}
use Rattle.std.proofs.Common.{map, length, arith, refl, inl, inr, zero, suc, append_assoc, if◌then◌else◌}
use Rattle.std.specs.Prelude.{Option, Some, None, Ok, Err, nat_lt}
use Rattle.std.specs.List.{flat_map, AllByRecursion}
use Rattle.std.proofs.lemmas.Option.{same_Some, none-some}
use Rattle.std.proofs.lemmas.List.{map-append, append-nil}
use Rattle.std.proofs.lemmas.Bool.Decides.{nat_tests}
use Rattle.dsn_tree.specs.declared.fault.TreeFault.{TreeFault}
use Rattle.dsn_tree.specs.declared.fault.TreeFault.TheVariants.{Surplus, TooDeep, Empty, Unclosed}
use Rattle.dsn_tree.specs.declared.tree.Tree.{Tree}
use Rattle.dsn_tree.specs.declared.tree.Tree.TheVariants as tree
use Rattle.dsn_tree.specs.Flat.{flat, depth, shown, shown_at}
use Rattle.dsn_tree.specs.Verdict.{before, inside, behind, closed, step, judge, verdict, fault_of}
use Rattle.dsn_tree.specs.Trees.{HasTree, HasFault, OneAnswer}
use Rattle.dsn_tree.proofs.Flats.{right, cons_one, flat_group, depth_word, depth_group, greatest_le, all_le}
use Rattle.dsn_tree.proofs.Fits.{mark_is, verdict_step, opens, rest_fit}
use Rattle.dsn_tree.proofs.Injective.{flat_one}
use Rattle.dsn_tree.proofs.Steps.{shows_word, shows_group, first_opens}
use Rattle.dsn_tokens.specs.Place.{start}
use Rattle.dsn_tokens.specs.Spelling.{Reading, OneReading, EachRead}
use Rattle.dsn_tokens.specs.declared.token.Token.{Token}
use Rattle.dsn_tokens.specs.declared.token.Mark.{Mark}
use Rattle.dsn_tokens.specs.declared.token.Mark.TheVariants.{Left, Right, Word}
use Rattle.dsn_tokens.specs.declared.token.TokenFault.{TokenFault}

-- the trees of an open group up to its closing bracket, and the tokens behind
record Parsed (ts : List Token) (outer : List ℕ) (room : ℕ) (end : Option TokenFault) : Type 0 where
  items : List Tree
  us : List Token
  back : List Token
  is : ts ≡ us ++ back
  shows : map shown us ≡ flat_map flat items ++ right ∷ []
  deep : AllByRecursion (λ t. depth t ≤ room) items
  left : verdict (closed outer) back end ≡ None
  short : length back < length ts

no_end : (end : Option TokenFault) (at : ℕ) (outer : List ℕ) → verdict (inside at outer) [] end ≡ None → ⊥
no_end None at outer e = none-some (Unclosed at) (sym e)
no_end (Some f) at outer e = none-some (fault_of f) (sym e)

closes : (t : Token) (ts : List Token) (at : ℕ) (outer : List ℕ) (room : ℕ) (end : Option TokenFault) → t.mark ≡ Right
    → verdict (inside at outer) (t ∷ ts) end ≡ None → Parsed (t ∷ ts) outer room end
closes t ts at outer room end e v = record {
  items = [];
  us = t ∷ [];
  back = ts;
  is = refl;
  shows = ap (λ m. shown_at t.at m ∷ []) e;
  deep = tt;
  left = sym (verdict_step (inside at outer) (closed outer) t ts end (ap (step (inside at outer) t.at) e)) ∙ v;
  short = omega arith;
}

more_word : (t : Token) (ts : List Token) (outer : List ℕ) (room : ℕ) (end : Option TokenFault) (text : List ℕ)
    → t.mark ≡ Word text → Parsed ts outer room end → Parsed (t ∷ ts) outer room end
more_word t ts outer room end text e r = record {
  items = tree.Word t.at text ∷ r.items;
  us = t ∷ r.us;
  back = r.back;
  is = ap (λ zs. t ∷ zs) r.is;
  shows = map-append shown (t ∷ []) r.us ∙ ap (λ xs. xs ++ map shown r.us) (shows_word t text e)
      ∙ ap (λ xs. flat (tree.Word t.at text) ++ xs) r.shows
      ∙ sym (append_assoc (flat (tree.Word t.at text)) (flat_map flat r.items) (right ∷ []));
  deep = (rw depth_word (omega arith), r.deep);
  left = r.left;
  short = omega (arith, r.short);
}

more_group : (t : Token) (ts : List Token) (at : ℕ) (outer : List ℕ) (room : ℕ) (end : Option TokenFault)
    → t.mark ≡ Left → 0 < room → (r : Parsed ts (at ∷ outer) (room - 1) end) → Parsed r.back outer room end
    → Parsed (t ∷ ts) outer room end
more_group t ts at outer room end e pos r s = record {
  items = tree.Group t.at r.items ∷ s.items;
  us = (t ∷ r.us) ++ s.us;
  back = s.back;
  is = ap (λ zs. t ∷ zs) (r.is ∙ ap (λ zs. r.us ++ zs) s.is ∙ sym (append_assoc r.us s.us s.back));
  shows = map-append shown (t ∷ r.us) s.us ∙ ap (λ xs. xs ++ map shown s.us) (shows_group t r.us r.items e r.shows)
      ∙ ap (λ xs. flat (tree.Group t.at r.items) ++ xs) s.shows
      ∙ sym (append_assoc (flat (tree.Group t.at r.items)) (flat_map flat s.items) (right ∷ []));
  deep = (rw depth_group (omega (arith, greatest_le (room - 1) r.items r.deep)), s.deep);
  left = s.left;
  short = omega (arith, r.short, s.short);
}

-- a bracket that opens inside a group has room
has_room : (t : Token) (ts : List Token) (at : ℕ) (outer : List ℕ) (end : Option TokenFault) (b : Bool) → t.mark ≡ Left
    → nat_lt (length outer) 63 ≡ b → verdict (inside at outer) (t ∷ ts) end ≡ None → length outer < 63
has_room t ts at outer end true e h v = grind (arith, nat_tests)
has_room t ts at outer end false e h v =
    absurd (none-some (TooDeep t.at)
    (sym v ∙ ap (λ o. judge o (λ x. verdict x ts end))
    (ap (step (inside at outer) t.at) e ∙ ap (λ b. if b then Ok (inside t.at (at ∷ outer))
    else Err (TooDeep t.at)) h)))

parse_mark : (t : Token) (m : Mark) (ts : List Token) (at : ℕ) (outer : List ℕ) (room : ℕ) (end : Option TokenFault)
    → t.mark ≡ m → length outer + room ≡ 63 → verdict (inside at outer) (t ∷ ts) end ≡ None
    → ((us : List Token) (a : ℕ) (os : List ℕ) (n : ℕ) → length us ≤ length ts → length os + n ≡ 63
    → verdict (inside a os) us end ≡ None → Parsed us os n end) → Parsed (t ∷ ts) outer room end
parse_mark t Right ts at outer room end e h v more = closes t ts at outer room end e v
parse_mark t (Word text) ts at outer room end e h v more =
    more_word t ts outer room end text e
    (more ts at outer room (omega arith) h
    (sym (verdict_step (inside at outer) (inside at outer) t ts end (ap (step (inside at outer) t.at) e)) ∙ v))
parse_mark t Left ts at outer room end e h v more =
    let lt : length outer < 63 = has_room t ts at outer end _ e refl v in
    let r = more ts t.at (at ∷ outer) (room - 1) (omega arith) (omega arith) (sym (opens at outer t ts end e lt) ∙ v) in
    more_group t ts at outer room end e (omega arith) r (more r.back at outer room (omega (arith, r.short)) h r.left)

parse : (fuel : ℕ) (ts : List Token) (at : ℕ) (outer : List ℕ) (room : ℕ) (end : Option TokenFault) → length ts < fuel
    → length outer + room ≡ 63 → verdict (inside at outer) ts end ≡ None → Parsed ts outer room end
parse zero ts at outer room end f h v = absurd (omega arith)
parse (suc fuel) [] at outer room end f h v = absurd (no_end end at outer v)
parse (suc fuel) (t ∷ ts) at outer room end f h v =
    parse_mark t t.mark ts at outer room end refl h v (λ us a os n l g w. parse fuel us a os n end (omega arith) g w)

-- nothing stands behind the group
nothing : (ts : List Token) (end : Option TokenFault) → verdict behind ts end ≡ None → (ts ≡ []) × (end ≡ None)
nothing [] None v = (refl, refl)
nothing [] (Some f) v = absurd (none-some (fault_of f) (sym v))
nothing (t ∷ ts) end v = absurd (none-some (Surplus t.at) (sym v))

tree_of : (text : List ℕ) (t : Token) (ts : List Token) (end : Option TokenFault) → Reading (start text) (t ∷ ts) end
    → t.mark ≡ Left → Parsed ts [] 63 end → (t : Tree) × HasTree text t
tree_of text t ts end r e p =
    let n = nothing p.back end p.left in
    let is : ts ≡ p.us = p.is ∙ ap (λ zs. p.us ++ zs) n.0 ∙ append-nil p.us in (
      tree.Group t.at p.items,
      record {
        at = t.at;
        items = p.items;
        is_group = refl;
        ts = t ∷ ts;
        spells = rw (← n.1) r;
        shows = shows_group t ts p.items e (ap (map shown) is ∙ p.shows);
        deep = rw depth_group (omega (arith, greatest_le 63 p.items p.deep));
      },
    )

first_mark : (text : List ℕ) (t : Token) (m : Mark) (ts : List Token) (end : Option TokenFault)
    → Reading (start text) (t ∷ ts) end → t.mark ≡ m → verdict before (t ∷ ts) end ≡ None → (t : Tree) × HasTree text t
first_mark text t Left ts end r e v =
    tree_of text t ts end r e
    (parse (length ts + 1) ts t.at [] 63 end (omega arith) refl (sym (first_opens t ts end e) ∙ v))
first_mark text t Right ts end r e v =
    absurd (none-some (Surplus t.at) (sym v ∙ ap (λ o. judge o (λ x. verdict x ts end)) (ap (step before t.at) e)))
first_mark text t (Word w) ts end r e v =
    absurd (none-some (Surplus t.at) (sym v ∙ ap (λ o. judge o (λ x. verdict x ts end)) (ap (step before t.at) e)))

answered : (text : List ℕ) (ts : List Token) (end : Option TokenFault) (o : Option TreeFault)
    → Reading (start text) ts end → verdict before ts end ≡ o
    → ((t : Tree) × HasTree text t) ⊎ ((f : TreeFault) × HasFault text f)
answered text ts end (Some f) r v = inr (f, record { ts = ts; end = end; reading = r; first = v })
answered text [] None None r v = absurd (none-some Empty (sym v))
answered text [] (Some f) None r v = absurd (none-some (fault_of f) (sym v))
answered text (t ∷ ts) end None r v = inl (first_mark text t t.mark ts end r refl v)

fault_same : (one : OneReading) (text : List ℕ) (f : TreeFault) (ts : List Token) (end : Option TokenFault)
    → HasFault text f → Reading (start text) ts end → verdict before ts end ≡ Some f
fault_same one text f ts end x r = let e = one text x.ts ts x.end end x.reading r in
    sym (ap (λ zs. verdict before zs x.end) e.0 ∙ ap (verdict before ts) e.1) ∙ x.first

-- the tokens of a group of at most 64 levels have no fault
no_fault : (ts : List Token) (at : ℕ) (items : List Tree) → map shown ts ≡ flat (tree.Group at items)
    → depth (tree.Group at items) ≤ 64 → verdict before ts None ≡ None
no_fault [] at items e d = absurd (omega (arith, ap length (e ∙ flat_group at items)))
no_fault (u ∷ us) at items e d =
    let h = cons_one _ _ _ _ (e ∙ flat_group at items) in
    first_opens u us None (mark_is u _ h.0) ∙ ap (λ zs. verdict (inside u.at []) zs None) (sym (append-nil us))
    ∙ rest_fit items 63 us u.at [] [] None (all_le 63 items (omega (arith, depth_group at items))) h.1 refl

pub one_answer : OneReading → EachRead → OneAnswer
one_answer one each = record {
  some = λ text. let r = each (start text) in answered text r.0 r.1 _ r.2 refl;
  trees = λ text t u x y.
      (flat_one t u [] []
      (ap (λ ts. ts ++ []) (sym x.shows ∙ ap (map shown) (one text x.ts y.ts None None x.spells y.spells).0
      ∙ y.shows))).0;
  faults = λ text f g x y. same_Some f g (sym x.first ∙ fault_same one text g x.ts x.end y x.reading);
  apart = λ text t f x y.
      none-some f (sym (no_fault x.ts x.at x.items (x.shows ∙ ap flat x.is_group) (rw (← x.is_group) x.deep))
      ∙ fault_same one text f x.ts None y x.spells);
}
