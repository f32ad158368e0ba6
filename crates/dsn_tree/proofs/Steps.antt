-- Reading a group, token by token.
use Rattle.std.proofs.Common.{◌≡◌, ◌<◌, ◌≤◌, ◌-◌, ◌+◌, ◌∙◌, ap, sym, ℕ, List, [], ◌∷◌, ◌++◌, length, map, arith, refl}
use Rattle.std.specs.Prelude.{Option, Some, None, Err}
use Rattle.std.specs.List.{flat_map, AllByRecursion}
use Rattle.std.proofs.lemmas.List.{map-append, append-nil}
use Rattle.std.proofs.lemmas.Grind.{flat_map-append}
use Rattle.dsn_tree.specs.declared.fault.TreeFault.{TreeFault}
use Rattle.dsn_tree.specs.declared.fault.TreeFault.TheVariants.{Unclosed, Surplus, TooDeep, Empty}
use Rattle.dsn_tree.specs.declared.fault.TreeFault.TheVariants as fault
use Rattle.dsn_tree.specs.declared.tree.Tree.{Tree}
use Rattle.dsn_tree.specs.declared.tree.Tree.TheVariants as tree
use Rattle.dsn_tree.specs.Flat.{flat, depth, shown, shown_at}
use Rattle.dsn_tree.specs.Verdict.{inside, before, behind, step, judge, verdict, fault_of}
use Rattle.dsn_tree.specs.Trees.{HasTree, HasFault, Unless}
use Rattle.dsn_tree.specs.Groups.{Leads, AreItems, IsRest, FaultInside}
use Rattle.dsn_tree.proofs.Flats.{right, flat_word, flat_group, depth_word, depth_group, greatest_le}
use Rattle.dsn_tree.proofs.Fits.{verdict_step, cannot_open, opens, items_fit, rest_fit}
use Rattle.dsn_tokens.specs.Place.{Place, start}
use Rattle.dsn_tokens.specs.Gaps.{Ends}
use Rattle.dsn_tokens.specs.Spelling.{Takes, Next, Reading, EachRead}
use Rattle.dsn_tokens.specs.declared.token.Token.{Token}
use Rattle.dsn_tokens.specs.declared.token.Mark.{Mark}
use Rattle.dsn_tokens.specs.declared.token.Mark.TheVariants.{Left, Right, Word}
use Rattle.dsn_tokens.specs.declared.token.TokenFault.{TokenFault}
use Rattle.dsn_tokens.specs.declared.token.TokenFault.TheVariants.{QuoteOpen, BadQuoteByte, Memory}

leads_append : (p m q : Place) (ts us : List Token) → Leads p ts m → Leads m us q → Leads p (ts ++ us) q
leads_append p m q [] us l r = rw l r
leads_append p m q (t ∷ ts) us l r = (l.0, l.1, leads_append l.0 m q ts us l.2 r)

lead_reading : (p q : Place) (ts us : List Token) (end : Option TokenFault) → Leads p ts q → Reading q us end
    → Reading p (ts ++ us) end
lead_reading p q [] us end l r = rw l r
lead_reading p q (t ∷ ts) us end l r = (l.0, l.1, lead_reading l.0 q ts us end l.2 r)

deep_push : (room : ℕ) (items : List Tree) (t : Tree) → AllByRecursion (λ t. depth t ≤ room) items → depth t ≤ room
    → AllByRecursion (λ t. depth t ≤ room) (items ++ t ∷ [])
deep_push room [] t d h = (h, tt)
deep_push room (x ∷ xs) t d h = (d.0, deep_push room xs t d.1 h)

shows_push : (ts us : List Token) (items : List Tree) (t : Tree) → map shown ts ≡ flat_map flat items
    → map shown us ≡ flat t → map shown (ts ++ us) ≡ flat_map flat (items ++ t ∷ [])
shows_push ts us items t e h =
    map-append shown ts us ∙ ap (λ xs. xs ++ map shown us) e ∙ ap (λ xs. flat_map flat items ++ xs)
    (h ∙ sym (append-nil (flat t))) ∙ sym (flat_map-append flat items (t ∷ []))

pub shows_word : (t : Token) (text : List ℕ) → t.mark ≡ Word text → map shown (t ∷ []) ≡ flat (tree.Word t.at text)
shows_word t text e = ap (λ m. shown_at t.at m ∷ []) e ∙ sym (flat_word t.at text)

pub shows_group : (t : Token) (ts : List Token) (items : List Tree) → t.mark ≡ Left → map shown ts ≡ flat_map flat items
    ++ right ∷ [] → map shown (t ∷ ts) ≡ flat (tree.Group t.at items)
shows_group t ts items e h =
    ap (λ m. shown_at t.at m ∷ map shown ts) e ∙ ap (λ xs. record { at = t.at; mark = Left } ∷ xs) h
    ∙ sym (flat_group t.at items)

pub word_more : (p m q : Place) (room : ℕ) (items : List Tree) (t : Token) (text : List ℕ) → AreItems p room items m
    → Takes m t q → t.mark ≡ Word text → length q.rest ≤ length m.rest
    → AreItems p room (items ++ tree.Word t.at text ∷ []) q
word_more p m q room items t text a k e short = record {
  ts = a.ts ++ t ∷ [];
  leads = leads_append p m q a.ts (t ∷ []) a.leads (q, k, refl);
  shows = shows_push a.ts (t ∷ []) items _ a.shows (shows_word t text e);
  deep = deep_push room items _ a.deep (rw depth_word (omega arith));
  shorter = omega arith;
}

pub group_more : (p m o q : Place) (room : ℕ) (items inner : List Tree) (t : Token) → AreItems p room items m
    → Takes m t o → t.mark ≡ Left → length o.rest ≤ length m.rest → 0 < room → IsRest o (room - 1) inner q
    → AreItems p room (items ++ tree.Group t.at inner ∷ []) q
group_more p m o q room items inner t a k e short pos r = record {
  ts = a.ts ++ t ∷ r.ts;
  leads = leads_append p m q a.ts (t ∷ r.ts) a.leads (o, k, r.leads);
  shows = shows_push a.ts (t ∷ r.ts) items _ a.shows (shows_group t r.ts inner e r.shows);
  deep = deep_push room items _ a.deep (rw depth_group (omega (arith, greatest_le (room - 1) inner r.deep)));
  shorter = omega arith;
}

pub group_ends : (p m q : Place) (room : ℕ) (items : List Tree) (t : Token) → AreItems p room items m → Takes m t q
    → t.mark ≡ Right → length q.rest ≤ length m.rest → IsRest p room items q
group_ends p m q room items t a k e short = record {
  ts = a.ts ++ t ∷ [];
  leads = leads_append p m q a.ts (t ∷ []) a.leads (q, k, refl);
  shows = map-append shown a.ts (t ∷ []) ∙ ap (λ xs. xs ++ shown t ∷ []) a.shows
      ∙ ap (λ m. flat_map flat items ++ shown_at t.at m ∷ []) e;
  deep = a.deep;
  shorter = omega arith;
}

-- behind whole trees inside a group, the text goes on to a fault
stops : (p m : Place) (at room : ℕ) (items : List Tree) (f : TreeFault) (us : List Token) (end : Option TokenFault)
    → AreItems p room items m → Reading m us end
    → ((outer : List ℕ) → length outer + room ≡ 63 → verdict (inside at outer) us end ≡ Some f)
    → FaultInside p at room f
stops p m at room items f us end a r v = record {
  ts = a.ts ++ us;
  end = end;
  reading = lead_reading p m a.ts us end a.leads r;
  first = λ outer h. items_fit items room a.ts at outer us end a.deep a.shows h ∙ v outer h;
}

pub ends_fault : (p m : Place) (at room : ℕ) (items : List Tree) → AreItems p room items m → Ends m
    → FaultInside p at room (Unclosed at)
ends_fault p m at room items a e = stops p m at room items (Unclosed at) [] None a e (λ outer h. refl)

pub spelling_fault : (p m q : Place) (at room : ℕ) (items : List Tree) (f : TokenFault) → AreItems p room items m
    → Next m (Err f) q → Unless (fault_of f) (FaultInside p at room (fault_of f))
spelling_fault p m q at room items (QuoteOpen o) a n =
    stops p m at room items _ [] (Some (QuoteOpen o)) a n.0 (λ outer h. refl)
spelling_fault p m q at room items (BadQuoteByte o) a n =
    stops p m at room items _ [] (Some (BadQuoteByte o)) a n.0 (λ outer h. refl)
spelling_fault p m q at room items (Memory o) a n = tt

pub deep_fault : (each : EachRead) (p m q : Place) (at room : ℕ) (items : List Tree) (t : Token)
    → AreItems p room items m → Takes m t q → t.mark ≡ Left → room ≡ 0 → FaultInside p at room (TooDeep t.at)
deep_fault each p m q at room items t a k e z =
    let r = each q in stops p m at room items (TooDeep t.at) (t ∷ r.0) r.1 a (q, k, r.2)
    (λ outer h. ap (λ o. judge o (λ x. verdict x r.0 r.1))
    (ap (step (inside at outer) t.at) e ∙ cannot_open at t.at outer (omega arith)))

unless_map : (f : TreeFault) (P Q : Type 0) → (P → Q) → Unless f P → Unless f Q
unless_map (fault.Memory e) P Q h x = tt
unless_map (fault.QuoteOpen e) P Q h x = h x
unless_map (fault.BadQuoteByte e) P Q h x = h x
unless_map (Unclosed e) P Q h x = h x
unless_map (Surplus e) P Q h x = h x
unless_map (TooDeep e) P Q h x = h x
unless_map Empty P Q h x = h x

pub inner_fault : (p m o : Place) (at room : ℕ) (items : List Tree) (t : Token) (f : TreeFault)
    → AreItems p room items m → Takes m t o → t.mark ≡ Left → 0 < room → Unless f (FaultInside o t.at (room - 1) f)
    → Unless f (FaultInside p at room f)
inner_fault p m o at room items t f a k e pos w =
    unless_map f _ _ (λ x. stops p m at room items f (t ∷ x.ts) x.end a (o, k, x.reading)
    (λ outer h. opens at outer t x.ts x.end e (omega arith) ∙ x.first (at ∷ outer) (omega arith))) w

-- the first bracket opens the group
pub first_opens : (t : Token) (ts : List Token) (end : Option TokenFault) → t.mark ≡ Left
    → verdict before (t ∷ ts) end ≡ verdict (inside t.at []) ts end
first_opens t ts end e = verdict_step before (inside t.at []) t ts end (ap (step before t.at) e)

reading_end : (p q : Place) (ts : List Token) → Leads p ts q → Ends q → Reading p ts None
reading_end p q [] l e = rw l e
reading_end p q (t ∷ ts) l e = (l.0, l.1, reading_end l.0 q ts l.2 e)

pub whole_tree : (text : List ℕ) (p q r : Place) (t : Token) (items : List Tree) → p ≡ start text → Takes p t q
    → t.mark ≡ Left → IsRest q 63 items r → Ends r → HasTree text (tree.Group t.at items)
whole_tree text p q r t items s k e w end = record {
  at = t.at;
  items = items;
  is_group = refl;
  ts = t ∷ w.ts;
  spells = (q, rw (← s) k, reading_end q r w.ts w.leads end);
  shows = shows_group t w.ts items e w.shows;
  deep = rw depth_group (omega (arith, greatest_le 63 items w.deep));
}

-- behind the whole group, the text goes on to a fault
goes_on : (text : List ℕ) (p q r : Place) (t : Token) (items : List Tree) (f : TreeFault) (us : List Token)
    (end : Option TokenFault) → p ≡ start text → Takes p t q → t.mark ≡ Left → IsRest q 63 items r → Reading r us end
    → verdict behind us end ≡ Some f → HasFault text f
goes_on text p q r t items f us end s k e w x v = record {
  ts = t ∷ (w.ts ++ us);
  end = end;
  reading = (q, rw (← s) k, lead_reading q r w.ts us end w.leads x);
  first = first_opens t (w.ts ++ us) end e ∙ rest_fit items 63 w.ts t.at [] us end w.deep w.shows refl ∙ v;
}

pub surplus_last : (each : EachRead) (text : List ℕ) (p q r v : Place) (t u : Token) (items : List Tree)
    → p ≡ start text → Takes p t q → t.mark ≡ Left → IsRest q 63 items r → Takes r u v → HasFault text (Surplus u.at)
surplus_last each text p q r v t u items s k e w l =
    let x = each v in goes_on text p q r t items _ (u ∷ x.0) x.1 s k e w (v, l, x.2) refl

pub last_fault : (text : List ℕ) (p q r v : Place) (t : Token) (items : List Tree) (f : TokenFault) → p ≡ start text
    → Takes p t q → t.mark ≡ Left → IsRest q 63 items r → Next r (Err f) v
    → Unless (fault_of f) (HasFault text (fault_of f))
last_fault text p q r v t items (QuoteOpen o) s k e w n =
    goes_on text p q r t items _ [] (Some (QuoteOpen o)) s k e w n.0 refl
last_fault text p q r v t items (BadQuoteByte o) s k e w n =
    goes_on text p q r t items _ [] (Some (BadQuoteByte o)) s k e w n.0 refl
last_fault text p q r v t items (Memory o) s k e w n = tt

-- a fault that is met first of all
first_met : (text : List ℕ) (p : Place) (f : TreeFault) (us : List Token) (end : Option TokenFault) → p ≡ start text
    → Reading p us end → verdict before us end ≡ Some f → HasFault text f
first_met text p f us end s r v = record { ts = us; end = end; reading = rw (← s) r; first = v }

pub empty_text : (text : List ℕ) (p : Place) → p ≡ start text → Ends p → HasFault text Empty
empty_text text p s e = first_met text p _ [] None s e refl

pub first_fault : (text : List ℕ) (p q : Place) (f : TokenFault) → p ≡ start text → Next p (Err f) q
    → Unless (fault_of f) (HasFault text (fault_of f))
first_fault text p q (QuoteOpen o) s n = first_met text p _ [] (Some (QuoteOpen o)) s n.0 refl
first_fault text p q (BadQuoteByte o) s n = first_met text p _ [] (Some (BadQuoteByte o)) s n.0 refl
first_fault text p q (Memory o) s n = tt

not_left : (at : ℕ) (m : Mark) → (m ≡ Left → ⊥) → step before at m ≡ Err (Surplus at)
not_left at Left h = absurd (h refl)
not_left at Right h = refl
not_left at (Word text) h = refl

pub surplus_first : (each : EachRead) (text : List ℕ) (p q : Place) (t : Token) → p ≡ start text → Takes p t q
    → (t.mark ≡ Left → ⊥) → HasFault text (Surplus t.at)
surplus_first each text p q t s k h = let r = each q in
    first_met text p _ (t ∷ r.0) r.1 s (q, k, r.2) (ap (λ o. judge o (λ x. verdict x r.0 r.1)) (not_left t.at t.mark h))

pub rest_fault : (text : List ℕ) (p q : Place) (t : Token) (f : TreeFault) → p ≡ start text → Takes p t q
    → t.mark ≡ Left → Unless f (FaultInside q t.at 63 f) → Unless f (HasFault text f)
rest_fault text p q t f s k e w =
    unless_map f _ _
    (λ x. first_met text p f (t ∷ x.ts) x.end s (q, k, x.reading) (first_opens t x.ts x.end e ∙ x.first [] refl)) w
