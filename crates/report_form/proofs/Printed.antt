-- The lines of a report as words and numbers.
use Rattle.std.proofs.Common.{◌≡◌, ℕ, ◌^◌, ◌<◌, ◌≤◌, List, ◌∷◌, ◌++◌, Option, length, refl, sym, ap}
use Rattle.std.proofs.Common.{◌∙◌, arith}
use Rattle.std.specs.Prelude.{codes, decimal}
use Rattle.std.proofs.lemmas.List.{append_assoc, append_cancel_left}
use Rattle.pcb_model.specs.declared.item.Kind.{Kind}
use Rattle.pcb_model.specs.declared.design.Design.{Design}
use Rattle.ses_writer.specs.Words.{spelled}
use Rattle.report_form.specs.Form.{IsNumber, IsName, RunTold, line, value, size_line, kind_word}
use Rattle.report_form.specs.inner.Fields.{HasOne, HasTwo, HasThree, HasFour, IsStop, HasGrid, HasPass}
use Rattle.report_form.specs.inner.Fields.{HasItem}
use Rattle.report_form.specs.inner.Fields.{HasRun, HasCut, HasPin, HasWhole, HasOpened}
use Rattle.report_form.specs.inner.State.{opened_line}
use Rattle.report_form.proofs.Numbers.{number_of}
use Rattle.report_form.proofs.Peels.{ended_is, two_is, four_is, cut_is}
use Rattle.report_form.proofs.Fields.{field_one, one_line, one_of_line, one_field, two_field, two_ahead, three_field}
use Rattle.report_form.proofs.Fields.{three_ahead}

-- ---- lines round a name
pub framed : (w s b c r text : List ℕ) → text ≡ w ++ b → b ≡ s ++ c → c ≡ 10 ∷ r → text ≡ line (w ++ s) ++ r
framed w s b c r text e f g =
    e ∙ ap (λ (x : List ℕ). w ++ x) (f ∙ ap (λ (x : List ℕ). s ++ x) g) ∙ sym (ended_is w s r)

pub framed_behind : (w s r text : List ℕ) → text ≡ line (w ++ s) ++ r → text ≡ w ++ (s ++ (10 ∷ r))
framed_behind w s r text e = e ∙ ended_is w s r

pub framed_ahead : (w s b r text : List ℕ) → text ≡ w ++ b → text ≡ line (w ++ s) ++ r → b ≡ s ++ (10 ∷ r)
framed_ahead w s b r text e f = append_cancel_left w b (s ++ (10 ∷ r)) (sym e ∙ framed_behind w s r text f)

-- ---- one and the same line
pub one_same : (word a x b y text : List ℕ) → HasOne word a x text → HasOne word b y text → a ≡ b
one_same word a x b y text f g =
    (field_one word a (10 ∷ x) b (10 ∷ y) text (one_field word a x text f) (one_field word b y text g)).0

pub record SameTwo (a b c e : List ℕ) : Type 0 where
  pub first : a ≡ c
  pub second : b ≡ e

pub two_same : (v w a b x c e y text : List ℕ) → IsStop w → HasTwo v w a b x text → HasTwo v w c e y text
    → SameTwo a b c e
two_same v w a b x c e y text stop f g =
    let field = two_field v w a b x text stop f in
    let other = two_field v w c e y text stop g in record {
      first = (field_one v a (w ++ (b ++ (10 ∷ x))) c (w ++ (e ++ (10 ∷ y))) text field other).0;
      second = one_same w b x e y (w ++ (b ++ (10 ∷ x))) (record { number = f.second; is = refl })
          (two_ahead v w a (w ++ (b ++ (10 ∷ x))) c e y text stop field g);
    }

pub record SameThree (a b c x y z : List ℕ) : Type 0 where
  pub first : a ≡ x
  pub second : b ≡ y
  pub third : c ≡ z

pub three_same : (u v w a b c r x y z s text : List ℕ) → IsStop v → IsStop w → HasThree u v w a b c r text
    → HasThree u v w x y z s text → SameThree a b c x y z
three_same u v w a b c r x y z s text first second f g =
    let behind = v ++ (b ++ (w ++ (c ++ (10 ∷ r)))) in
    let field = three_field u v w a b c r text first f in
    let other = three_field u v w x y z s text first g in
    let rest = two_same v w b c r y z s behind second
    (record { first = f.second; second = f.third; is = refl })
    (three_ahead u v w a behind x y z s text first field g) in record {
      first = (field_one u a behind x (v ++ (y ++ (w ++ (z ++ (10 ∷ s))))) text field other).0;
      second = rest.first;
      third = rest.second;
    }

-- ---- as they are printed
pub two_line : (v w a b r text : List ℕ) → HasTwo v w a b r text → text ≡ line (v ++ a ++ w ++ b) ++ r
two_line v w a b r text h = h.is ∙ sym (two_is v a w b r)

pub two_of_line : (v w a b r text : List ℕ) → IsNumber a → IsNumber b → text ≡ line (v ++ a ++ w ++ b) ++ r
    → HasTwo v w a b r text
two_of_line v w a b r text p q e = record { first = p; second = q; is = e ∙ two_is v a w b r }

three_is : (u a v b w c r : List ℕ) → line (u ++ a ++ v ++ b ++ w ++ c) ++ r
    ≡ u ++ (a ++ (v ++ (b ++ (w ++ (c ++ (10 ∷ r))))))
three_is u a v b w c r =
    two_is (u ++ a ++ v) b w c r
    ∙ append_assoc (u ++ a) v (b ++ (w ++ (c ++ (10 ∷ r))))
    ∙ append_assoc u a (v ++ (b ++ (w ++ (c ++ (10 ∷ r)))))

pub three_line : (u v w a b c r text : List ℕ) → HasThree u v w a b c r text
    → text ≡ line (u ++ a ++ v ++ b ++ w ++ c) ++ r
three_line u v w a b c r text h = h.is ∙ sym (three_is u a v b w c r)

pub three_of_line : (u v w a b c r text : List ℕ) → IsNumber a → IsNumber b → IsNumber c
    → text ≡ line (u ++ a ++ v ++ b ++ w ++ c) ++ r → HasThree u v w a b c r text
three_of_line u v w a b c r text p q s e =
    record { first = p; second = q; third = s; is = e ∙ three_is u a v b w c r }

-- the sizes of a design
abbrev pub HasSizes : (l n p behind text : List ℕ) → Type 0
HasSizes l n p behind text = HasThree (codes "layers ") (codes " nets ") (codes " pins ") l n p behind text

pub sizes_line : (d : Design) (l n p r text : List ℕ) → HasSizes l n p r text → l ≡ decimal (length d.layers)
    → n ≡ decimal (length d.nets) → p ≡ decimal (length d.pins) → text ≡ size_line d ++ r
sizes_line d l n p r text h a b c =
    three_line (codes "layers ") (codes " nets ") (codes " pins ") l n p r text h
    ∙ (λ i. line (codes "layers " ++ a i ++ codes " nets " ++ b i ++ codes " pins " ++ c i) ++ r)

pub record Few (d : Design) : Type 0 where
  pub layers : length d.layers < 2 ^ 64
  pub nets : length d.nets < 2 ^ 64
  pub pins : length d.pins < 2 ^ 64

pub sizes_of_line : (d : Design) (r text : List ℕ) → Few d → text ≡ size_line d ++ r
    → HasSizes (decimal (length d.layers)) (decimal (length d.nets)) (decimal (length d.pins)) r text
sizes_of_line d r text few e =
    three_of_line (codes "layers ") (codes " nets ") (codes " pins ") (decimal (length d.layers))
    (decimal (length d.nets)) (decimal (length d.pins)) r text
    (number_of (length d.layers) (omega (arith, few.layers))) (number_of (length d.nets) (omega (arith, few.nets)))
    (number_of (length d.pins) (omega (arith, few.pins))) e

-- the grid
pub grid_from : (g n r text : List ℕ) → HasTwo (codes "grid ") (codes " nodes ") g n r text → 1000 ≤ value g
    → value g ≤ 409600000 → HasGrid g n r text
grid_from g n r text h low high = record {
  good = record { grid = h.first; grid_from = low; grid_to = high; nodes = h.second };
  is = two_line (codes "grid ") (codes " nodes ") g n r text h;
}

pub grid_two : (g n r text : List ℕ) → HasGrid g n r text → HasTwo (codes "grid ") (codes " nodes ") g n r text
grid_two g n r text h = two_of_line (codes "grid ") (codes " nodes ") g n r text h.good.grid h.good.nodes h.is

-- a pass, whose number is told
abbrev pub HasPassNumber : (k a b behind text : List ℕ) → Type 0
HasPassNumber k a b behind text = HasThree (codes "pass ") (codes " commits ") (codes " open ") k a b behind text

pub pass_from : (k : ℕ) (w a b r text : List ℕ) → HasPassNumber w a b r text → w ≡ decimal k → HasPass k a b r text
pass_from k w a b r text h e = record {
  first = h.second;
  second = h.third;
  is = three_line (codes "pass ") (codes " commits ") (codes " open ") w a b r text h
      ∙ ap (λ (x : List ℕ). line (codes "pass " ++ x ++ codes " commits " ++ a ++ codes " open " ++ b) ++ r) e;
}

pub pass_three : (k : ℕ) (a b r text : List ℕ) → k < 2 ^ 64 → HasPass k a b r text
    → HasPassNumber (decimal k) a b r text
pass_three k a b r text few h =
    three_of_line (codes "pass ") (codes " commits ") (codes " open ") (decimal k) a b r text
    (number_of k (omega (arith, few))) h.first h.second h.is

-- an item
pub item_from : (kind : Kind) (id r text : List ℕ) → HasOne (codes "by " ++ kind_word kind) id r text
    → HasItem (kind, id) r text
item_from kind id r text h =
    record { number = h.number; is = one_line (codes "by " ++ kind_word kind) id r text h }

pub item_one : (kind : Kind) (id r text : List ℕ) → HasItem (kind, id) r text
    → HasOne (codes "by " ++ kind_word kind) id r text
item_one kind id r text h = one_of_line (codes "by " ++ kind_word kind) id r text h.number h.is

-- a stretch
pub run_from : (a b c e r text : List ℕ) → HasFour (codes "run ") a b c e r text
    → HasRun (record { level = a; row = b; first = c; last = e }) r text
run_from a b c e r text h = record {
  told = record { level = h.first; row = h.second; first = h.third; last = h.fourth };
  is = h.is ∙ sym (four_is (codes "run ") (codes " ") a b c e r);
}

pub run_four : (run : RunTold) (r text : List ℕ) → HasRun run r text
    → HasFour (codes "run ") run.level run.row run.first run.last r text
run_four run r text h = record {
  first = h.told.level;
  second = h.told.row;
  third = h.told.first;
  fourth = h.told.last;
  is = h.is ∙ four_is (codes "run ") (codes " ") run.level run.row run.first run.last r;
}

-- a cut
abbrev pub HasCounts : (a b behind text : List ℕ) → Type 0
HasCounts a b behind text = HasTwo (codes " reached ") (codes " blocked ") a b behind text

pub cut_from : (first : Option (List ℕ)) (pin a b x y r text : List ℕ)
    → text ≡ codes "cut " ++ x → x ≡ spelled pin ++ y → IsName first pin
    → HasCounts a b r y → HasCut first pin a b r text
cut_from first pin a b x y r text e f n h = record {
  name = n;
  first_number = h.first;
  second_number = h.second;
  is = e ∙ ap (λ (z : List ℕ). codes "cut " ++ z) (f ∙ ap (λ (z : List ℕ). spelled pin ++ z) h.is)
      ∙ sym (cut_is (spelled pin) a b r);
}

-- its name and its numbers
pub record CutApart (first : Option (List ℕ)) (pin a b x behind : List ℕ) : Type 0 where
  pub rest : List ℕ
  pub has : HasPin first pin rest x
  pub counts : HasCounts a b behind rest

pub cut_word : (first : Option (List ℕ)) (pin a b r text : List ℕ) → HasCut first pin a b r text
    → text ≡ codes "cut " ++ (spelled pin ++ (codes " reached " ++ (a ++ (codes " blocked " ++ (b ++ (10 ∷ r))))))
cut_word first pin a b r text h = h.is ∙ cut_is (spelled pin) a b r

pub cut_apart : (first : Option (List ℕ)) (pin a b r text x : List ℕ) → HasCut first pin a b r text
    → text ≡ codes "cut " ++ x → CutApart first pin a b x r
cut_apart first pin a b r text x h e =
    let behind = codes " reached " ++ (a ++ (codes " blocked " ++ (b ++ (10 ∷ r)))) in record {
      rest = behind;
      has = record {
        name = h.name;
        stops = refl;
        is = append_cancel_left (codes "cut ") x (spelled pin ++ behind) (sym e ∙ cut_word first pin a b r text h);
      };
      counts = record { first = h.first_number; second = h.second_number; is = refl };
    }

-- the line of a net
pub whole_words : (name r text : List ℕ) → HasWhole name r text
    → text ≡ codes "net " ++ (spelled name ++ (codes " complete\n" ++ r))
whole_words name r text h =
    h.is ∙ ended_is (codes "net " ++ spelled name) (codes " complete") r
    ∙ append_assoc (codes "net ") (spelled name) (codes " complete\n" ++ r)

pub whole_from : (name r text x y : List ℕ) → text ≡ codes "net " ++ x → x ≡ spelled name ++ y
    → y ≡ codes " complete\n" ++ r → HasWhole name r text
whole_from name r text x y e f g = record {
  is = e ∙ ap (λ (z : List ℕ). codes "net " ++ z) (f ∙ ap (λ (z : List ℕ). spelled name ++ z) g)
      ∙ sym (append_assoc (codes "net ") (spelled name) (codes " complete\n" ++ r))
      ∙ sym (ended_is (codes "net " ++ spelled name) (codes " complete") r);
}

opened_is : (name islands r : List ℕ) → opened_line name islands ++ r
    ≡ codes "net " ++ (spelled name ++ (codes " open " ++ (islands ++ (10 ∷ r))))
opened_is name islands r =
    ended_is (codes "net " ++ spelled name) (codes " open " ++ islands) r
    ∙ append_assoc (codes "net ") (spelled name) ((codes " open " ++ islands) ++ (10 ∷ r))
    ∙ ap (λ (z : List ℕ). codes "net " ++ (spelled name ++ z)) (append_assoc (codes " open ") islands (10 ∷ r))

pub opened_words : (name islands r text : List ℕ) → HasOpened name islands r text
    → text ≡ codes "net " ++ (spelled name ++ (codes " open " ++ (islands ++ (10 ∷ r))))
opened_words name islands r text h = h.is ∙ opened_is name islands r

pub opened_from : (name islands r text x y : List ℕ) → text ≡ codes "net " ++ x → x ≡ spelled name ++ y
    → HasOne (codes " open ") islands r y → 2 ≤ value islands → HasOpened name islands r text
opened_from name islands r text x y e f h many = record {
  number = h.number;
  many = many;
  is = e ∙ ap (λ (z : List ℕ). codes "net " ++ z) (f ∙ ap (λ (z : List ℕ). spelled name ++ z) h.is)
      ∙ sym (opened_is name islands r);
}

-- what is behind a net's name
pub behind_name : (name x y z text : List ℕ) → text ≡ codes "net " ++ x → x ≡ spelled name ++ y
    → text ≡ codes "net " ++ (spelled name ++ z) → y ≡ z
behind_name name x y z text e f g =
    append_cancel_left (spelled name) y z (sym f
    ∙ append_cancel_left (codes "net ") x (spelled name ++ z) (sym e ∙ g))
