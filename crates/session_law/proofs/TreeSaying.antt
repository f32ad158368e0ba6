-- Which trees a piece of a text spells.
use Rattle.std.proofs.Common.{◌≡◌, ℕ, suc, ◌≤◌, Bool, true, false, List, [], ◌∷◌, ◌++◌, length, map}
use Rattle.std.proofs.Common.{refl, ap, sym, ◌∙◌, subst, arith, append_assoc, true≢false}
use Rattle.std.specs.Prelude.{codes, nat_le, not, ◌&&◌, ◌==◌}
use Rattle.std.specs.Str.{str_eq_ignore_ascii_case}
use Rattle.std.specs.List.{AllByRecursion, flat_map, list_all}
use Rattle.std.proofs.lemmas.List.{append-nil, map-append}
use Rattle.std.proofs.lemmas.Grind.{flat_map-append}
use Rattle.std.proofs.lemmas.Bool.{and_parts}
use Rattle.std.proofs.lemmas.Bool.Decides.{nat_tests}
use Rattle.dsn_tokens.specs.Place.{Place}
use Rattle.dsn_tokens.specs.Gaps.{is_blank}
use Rattle.dsn_tokens.specs.Words.{ends_word, EndsWord}
use Rattle.dsn_tokens.specs.declared.token.Token.{Token}
use Rattle.dsn_tokens.specs.declared.token.Mark.TheVariants.{Left, Right}
use Rattle.dsn_tokens.specs.declared.token.Mark.TheVariants as mark
use Rattle.dsn_tree.specs.declared.tree.Tree.{Tree}
use Rattle.dsn_tree.specs.declared.tree.Tree.TheVariants.{Word, Group, rolls-Word, rolls-Group}
use Rattle.dsn_tree.specs.declared.tree.Tree.TheOpen as layer
use Rattle.dsn_tree.specs.declared.tree.Tree.TheFolds.{fold-roll-Tree}
use Rattle.dsn_tree.specs.Flat.{flat, depth, shown, shown_at}
use Rattle.dsn_tree.specs.Groups.{Leads}
use Rattle.dsn_tree.proofs.Flats.{right, depth_word, depth_group, greatest_le}
use Rattle.dsn_tree.proofs.Steps.{shows_word, shows_group}
use Rattle.session_law.specs.Shape.{unplaced, unplaced_step, word_tree, group_tree}
use Rattle.session_law.proofs.TreePlain.{IsSpelled, ArePlain, plain_word}
use Rattle.session_law.proofs.TreeTaken.{Stands, Past, past_blank, past_left, past_right, past_word}

-- From the place on come the tokens of such trees, but for their places, within so much room; the bytes follow.
pub record Spelled (room : ℕ) (p : Place) (trees : List Tree) (bytes : List ℕ) : Type 0 where
  pub q : Place
  pub ts : List Token
  pub items : List Tree
  pub leads : Leads p ts q
  pub stands : Stands false q bytes
  pub shows : map shown ts ≡ flat_map flat items
  pub is : map unplaced items ≡ trees
  pub deep : AllByRecursion (λ t. depth t ≤ room) items

-- The bytes are a text of these trees and then the rest, wherever a word may end behind them.
-- They begin with a blank or a bracket.
pub record Says (room : ℕ) (trees : List Tree) (bytes rest : List ℕ) : Type 0 where
  pub starts : EndsWord bytes
  pub spells : (p : Place) (more : List ℕ) → EndsWord more → Stands false p (bytes ++ more)
      → Spelled room p trees (rest ++ more)

-- ---- trees without places
-- a word without its place
pub unplaced_word : (at : ℕ) (text : List ℕ) → unplaced (Word at text) ≡ Word 0 text
unplaced_word at text = ap unplaced (sym (rolls-Word at text)) ∙ fold-roll-Tree Tree unplaced_step (layer.Word at text)

-- a group without places
unplaced_group : (at : ℕ) (items : List Tree) → unplaced (Group at items) ≡ Group 0 (map unplaced items)
unplaced_group at items =
    ap unplaced (sym (rolls-Group at items)) ∙ fold-roll-Tree Tree unplaced_step (layer.Group at items)

-- ---- lists of tokens
-- one way after another
leads_both : (p m q : Place) (ts us : List Token) → Leads p ts m → Leads m us q → Leads p (ts ++ us) q
leads_both p m q [] us l r = rw l r
leads_both p m q (t ∷ ts) us l r = (l.0, l.1, leads_both l.0 m q ts us l.2 r)

-- one list of trees behind another
deep_both : (room : ℕ) (ts us : List Tree) → AllByRecursion (λ t. depth t ≤ room) ts
    → AllByRecursion (λ t. depth t ≤ room) us
    → AllByRecursion (λ t. depth t ≤ room) (ts ++ us)
deep_both room [] us d e = e
deep_both room (t ∷ ts) us d e = (d.0, deep_both room ts us d.1 e)

-- their tokens
shows_both : (ts us : List Token) (xs ys : List Tree) → map shown ts ≡ flat_map flat xs
    → map shown us ≡ flat_map flat ys
    → map shown (ts ++ us) ≡ flat_map flat (xs ++ ys)
shows_both ts us xs ys e f = map-append shown ts us ∙ ap (λ zs. zs ++ map shown us) e
    ∙ ap (λ zs. flat_map flat xs ++ zs) f
    ∙ sym (flat_map-append flat xs ys)

-- one piece after another, with its trees
spelled_both : (room : ℕ) (p : Place) (trees more : List Tree) (bytes rest : List ℕ) (a : Spelled room p trees bytes)
    → Spelled room a.q more rest → Spelled room p (trees ++ more) rest
spelled_both room p trees more bytes rest a b = record {
  q = b.q;
  ts = a.ts ++ b.ts;
  items = a.items ++ b.items;
  leads = leads_both p a.q b.q a.ts b.ts a.leads b.leads;
  stands = b.stands;
  shows = shows_both a.ts b.ts a.items b.items a.shows b.shows;
  is = map-append unplaced a.items b.items ∙ ap (λ ts. ts ++ map unplaced b.items) a.is ∙ ap (λ ts. trees ++ ts) b.is;
  deep = deep_both room a.items b.items a.deep b.deep;
}

-- ---- steps
-- where a word ends before a piece, it ends before more
ends_more : (bytes more : List ℕ) → EndsWord bytes → EndsWord more → EndsWord (bytes ++ more)
ends_more [] more e f = f
ends_more (b ∷ bytes) more e f = e

-- nothing
nothing : (room : ℕ) (bytes : List ℕ) → EndsWord bytes → Says room [] bytes bytes
nothing room bytes e = record {
  starts = e;
  spells = λ p more f s. record {
    q = p;
    ts = [];
    items = [];
    leads = refl;
    stands = s;
    shows = refl;
    is = refl;
    deep = tt;
  };
}

-- nothing up to a closing bracket
pub closes : {room : ℕ} {bytes : List ℕ} → Says room [] (41 ∷ bytes) (41 ∷ bytes)
closes {room} {bytes} = nothing room (41 ∷ bytes) refl

-- nothing, and nothing behind
pub end : {room : ℕ} → Says room [] [] []
end {room} = nothing room [] tt

-- the same bytes in another form
pub respell : {room : ℕ} {trees : List Tree} {bytes other rest : List ℕ} → Says room trees other rest → bytes ≡ other
    → Says room trees bytes rest
respell {room} {trees} {bytes} {other} {rest} a e = subst (λ xs. Says room trees xs rest) (sym e) a

-- a word ends before a blank
ends_blank : (b : ℕ) → is_blank b ≡ true → ends_word b ≡ true
ends_blank b h = rw h refl

-- a blank
pub blank : {room : ℕ} {trees : List Tree} {bytes rest : List ℕ} (b : ℕ) → is_blank b ≡ true
    → Says room trees bytes rest
    → Says room trees (b ∷ bytes) rest
blank {room} {trees} {bytes} {rest} b h a = record {
  starts = ends_blank b h;
  spells = λ p more e s. a.spells p more e (past_blank false p b (bytes ++ more) h s);
}

-- a word is one tree
spelled_word : (room : ℕ) (p : Place) (text bytes : List ℕ) → Past false p (mark.Word text) bytes
    → Spelled room p (word_tree text ∷ []) bytes
spelled_word room p text bytes a = record {
  q = a.q;
  ts = a.t ∷ [];
  items = Word a.t.at text ∷ [];
  leads = (a.q, a.takes, refl);
  stands = a.stands;
  shows = shows_word a.t text a.mark_is ∙ sym (append-nil (flat (Word a.t.at text)));
  is = ap (λ t. t ∷ []) (unplaced_word a.t.at text);
  deep = (rw depth_word (omega arith), tt);
}

-- a blank and a word
pub word : {room : ℕ} {trees : List Tree} {text bytes rest : List ℕ} (spelled : List ℕ) → IsSpelled text spelled
    → Says room trees bytes rest → Says room (word_tree text ∷ trees) (32 ∷ (spelled ++ bytes)) rest
word {room} {trees} {text} {bytes} {rest} spelled w a = record {
  starts = refl;
  spells = λ p more f s.
      let behind = past_blank false p 32 ((spelled ++ bytes) ++ more) refl s in
      let past = past_word false p text spelled (bytes ++ more) w refl (ends_more bytes more a.starts f)
      (subst (Stands false p) (append_assoc spelled bytes more) behind) in
      let b = spelled_word room p text (bytes ++ more) past in
      spelled_both room p (word_tree text ∷ []) trees (bytes ++ more) (rest ++ more) b (a.spells b.q more f b.stands);
}

-- a blank and a word at the end
pub last_word : {room : ℕ} {text : List ℕ} (spelled : List ℕ) → IsSpelled text spelled
    → Says room (word_tree text ∷ []) (32 ∷ spelled) []
last_word {room} {text} spelled w = respell (word spelled w end) (ap (λ xs. 32 ∷ xs) (sym (append-nil spelled)))

-- several blanks
pub gap : {room : ℕ} {trees : List Tree} {bytes rest : List ℕ} (blanks : List ℕ) → list_all is_blank blanks ≡ true
    → Says room trees bytes rest → Says room trees (blanks ++ bytes) rest
gap {room} {trees} {bytes} {rest} [] h a = a
gap {room} {trees} {bytes} {rest} (b ∷ blanks) h a =
    let parts = and_parts (is_blank b) (list_all is_blank blanks) h in
    blank b parts.0 (gap blanks parts.1 a)

-- ---- constant words
-- some bytes from 42 on
abbrev pub is_constant : List ℕ → Bool
is_constant word = not (length word == 0) && list_all (λ b. nat_le 42 b) word

-- and not `string_quote`
abbrev pub can_head : List ℕ → Bool
can_head word = is_constant word && not (str_eq_ignore_ascii_case word (codes "string_quote"))

-- the test tells the bound
from_42 : (b : ℕ) → nat_le 42 b ≡ true → 42 ≤ b
from_42 b h = grind (arith, nat_tests)

-- such bytes are plain
all_plain : (word : List ℕ) → list_all (λ b. nat_le 42 b) word ≡ true → ArePlain word
all_plain [] h = tt
all_plain (b ∷ word) h =
    let parts = and_parts (nat_le 42 b) (list_all (λ b. nat_le 42 b) word) h in
    (from_42 b parts.0, all_plain word parts.1)

-- and a word where there are some
pub constant : (word : List ℕ) → is_constant word ≡ true → IsSpelled word word
constant [] h = absurd (true≢false (sym h))
constant (b ∷ word) h = plain_word (b ∷ word) (omega arith)
    (all_plain (b ∷ word) (and_parts (not (length (b ∷ word) == 0)) (list_all (λ b. nat_le 42 b) (b ∷ word)) h).1)

-- a test that isn't passed
not_true : (b : Bool) → not b ≡ true → b ≡ false
not_true true h = absurd (true≢false (sym h))
not_true false h = refl

-- ---- groups
-- the tokens in a group
shows_inside : (w r : Token) (ts : List Token) (head : List ℕ) (items : List Tree) → w.mark ≡ mark.Word head
    → r.mark ≡ Right
    → map shown ts ≡ flat_map flat items
    → map shown (w ∷ ts ++ r ∷ []) ≡ flat_map flat (Word w.at head ∷ items) ++ right ∷ []
shows_inside w r ts head items e f h =
    map-append shown (w ∷ ts) (r ∷ [])
    ∙ ap (λ xs. (xs ++ map shown ts) ++ shown r ∷ []) (shows_word w head e)
    ∙ ap (λ xs. (flat (Word w.at head) ++ xs) ++ shown r ∷ []) h
    ∙ ap (λ m. (flat (Word w.at head) ++ flat_map flat items) ++ shown_at r.at m ∷ []) f

-- so is a group
spelled_group : (room : ℕ) (p : Place) (head bytes more rest : List ℕ) (trees : List Tree) (l : Past true p Left bytes)
    (w : Past false l.q (mark.Word head) more) (a : Spelled room w.q trees (41 ∷ rest))
    → Past false a.q Right rest → Spelled (suc room) p (group_tree head trees ∷ []) rest
spelled_group room p head bytes more rest trees l w a r =
    let inner : List Tree = Word w.t.at head ∷ a.items in record {
      q = r.q;
      ts = l.t ∷ w.t ∷ a.ts ++ r.t ∷ [];
      items = Group l.t.at inner ∷ [];
      leads = (l.q, l.takes, (w.q, w.takes, leads_both w.q a.q r.q a.ts (r.t ∷ []) a.leads (r.q, r.takes, refl)));
      stands = r.stands;
      shows = shows_group l.t (w.t ∷ a.ts ++ r.t ∷ []) inner l.mark_is
          (shows_inside w.t r.t a.ts head a.items w.mark_is r.mark_is a.shows)
          ∙ sym (append-nil (flat (Group l.t.at inner)));
      is = ap (λ t. t ∷ []) (unplaced_group l.t.at inner
          ∙ ap (λ t. Group 0 (t ∷ map unplaced a.items)) (unplaced_word w.t.at head)
          ∙ ap (λ ts. Group 0 (word_tree head ∷ ts)) a.is);
      deep = (rw depth_group (omega (arith, greatest_le room inner (rw depth_word (omega arith), a.deep))), tt);
    }

-- a group: its head, what stands in it up to the closing bracket, and what follows
pub group : {room : ℕ} {inside trees : List Tree} {bytes behind rest : List ℕ} (head : List ℕ) → can_head head ≡ true
    → Says room inside bytes (41 ∷ behind) → Says (suc room) trees behind rest
    → Says (suc room) (group_tree head inside ∷ trees) (40 ∷ head ++ bytes) rest
group {room} {inside} {trees} {bytes} {behind} {rest} head h a b =
    let parts = and_parts (is_constant head) (not (str_eq_ignore_ascii_case head (codes "string_quote"))) h in record {
      starts = refl;
      spells = λ p more f s.
          let l = past_left false p (head ++ (bytes ++ more))
          (subst (λ xs. Stands false p (40 ∷ xs)) (append_assoc head bytes more) s) in
          let w = past_word true l.q head head (bytes ++ more) (constant head parts.0) (not_true _ parts.1)
          (ends_more bytes more a.starts f) l.stands in
          let t = a.spells w.q more f w.stands in
          let r = past_right false t.q (behind ++ more) t.stands in
          let g = spelled_group room p head (head ++ (bytes ++ more)) (bytes ++ more) (behind ++ more) inside l w t r in
          spelled_both (suc room) p (group_tree head inside ∷ []) trees (behind ++ more) (rest ++ more) g
          (b.spells g.q more f g.stands);
    }

-- ---- pieces
-- a piece, with more behind
pub both : {room : ℕ} {inside trees : List Tree} {piece bytes rest : List ℕ} → Says room inside piece []
    → Says room trees bytes rest
    → Says room (inside ++ trees) (piece ++ bytes) rest
both {room} {inside} {trees} {piece} {bytes} {rest} a b = record {
  starts = ends_more piece bytes a.starts b.starts;
  spells = λ p more f s.
      let t = a.spells p (bytes ++ more) (ends_more bytes more b.starts f)
      (subst (Stands false p) (append_assoc piece bytes more) s) in
      spelled_both room p inside trees (bytes ++ more) (rest ++ more) t (b.spells t.q more f t.stands);
}

-- the last piece with trees
pub last : {room : ℕ} {inside : List Tree} {piece bytes rest : List ℕ} → Says room inside piece []
    → Says room [] bytes rest
    → Says room inside (piece ++ bytes) rest
last {room} {inside} {piece} {bytes} {rest} a b =
    subst (λ ts. Says room ts (piece ++ bytes) rest) (append-nil inside) (both a b)

-- pieces one after another
pub each : {A : Type 0} {room : ℕ} (f : A → List Tree) (g : A → List ℕ) → ((a : A) → Says room (f a) (g a) [])
    → (xs : List A)
    → Says room (flat_map f xs) (flat_map g xs) []
each {A} {room} f g h [] = end
each {A} {room} f g h (x ∷ xs) = both (h x) (each f g h xs)
