-- Parts of a text, one after another, and what is put behind others at the end.
use Rattle.std.proofs.Common.{◌≡◌, ◌∙◌, ℕ, List, [], ◌∷◌, ◌++◌, refl, sym, ap, flat_map, append_assoc, append-nil}
use Rattle.std.proofs.lemmas.Result.{on_ok_weaker}
use Rattle.std.specs.Prelude.{Result, OnOk, codes, decimal}
use Rattle.ses_writer.specs.Words.{Appends}
use Rattle.ses_writer.proofs.Puts.{then_put}
use Rattle.board_picture.specs.declared.words.Part.{Part}
use Rattle.board_picture.specs.Words.{part_word, part_words, words_behind}
use Rattle.board_picture.specs.Legend.{swatch_head, row_head}

-- parts behind what is there, each by itself
behind : (before : List ℕ) (parts : List Part) → before ++ flat_map part_word parts ≡ words_behind before parts
behind before [] = append-nil before
behind before (part ∷ parts) =
    sym (append_assoc before (part_word part) (flat_map part_word parts)) ∙ behind (before ++ part_word part) parts

-- parts, each by itself
parts_are : (parts : List Part) → flat_map part_word parts ≡ part_words parts
parts_are [] = refl
parts_are (part ∷ parts) = behind (part_word part) parts

pub parts_put : {a b : List ℕ} (parts : List Part) → Appends a b (flat_map part_word parts)
    → Appends a b (part_words parts)
parts_put {a} {b} parts put = record { is = put.is ∙ ap (λ (l : List ℕ). a ++ l) (parts_are parts) }

-- lists behind what is there
abbrev pub chained : List ℕ → List (List ℕ) → List ℕ
chained x [] = x
chained x (y ∷ ys) = chained (x ++ y) ys

chained_on : (x y : List ℕ) (ys : List (List ℕ)) → x ++ chained y ys ≡ chained (x ++ y) ys
chained_on x y [] = refl
chained_on x y (z ∷ ys) = chained_on x (y ++ z) ys ∙ ap (λ (l : List ℕ). chained l ys) (sym (append_assoc x y z))

-- the head of a row in its parts
grouped : (x t n u : List ℕ) → x ++ t ++ n ++ u ≡ x ++ (t ++ n ++ u)
grouped x t n u = ap (λ (l : List ℕ). l ++ u) (append_assoc x t n) ∙ append_assoc x (t ++ n) u

-- what stands between two numbers, and behind the second, joined
row_joined : (x b t n u e : List ℕ) (ls : List (List ℕ))
    → x ++ (chained b ls ++ t) ++ n ++ (u ++ e) ≡ chained (x ++ b) ls ++ (t ++ n ++ u) ++ e
row_joined x b t n u e ls =
    sym (append_assoc (x ++ (chained b ls ++ t) ++ n) u e)
    ∙ ap (λ (l : List ℕ). l ++ n ++ u ++ e) (sym (append_assoc x (chained b ls) t))
    ∙ ap (λ (l : List ℕ). l ++ t ++ n ++ u ++ e) (chained_on x b ls)
    ∙ ap (λ (l : List ℕ). l ++ e) (grouped (chained (x ++ b) ls) t n u)

-- a row behind its first number and what is put next
row_parted : (x s t n u y z : List ℕ) → x ++ ((s ++ t) ++ n ++ u ++ y ++ z) ≡ x ++ s ++ (t ++ n ++ u) ++ y ++ z
row_parted x s t n u y z =
    chained_on x (s ++ t) (n ∷ u ∷ y ∷ z ∷ [])
    ∙ ap (λ (l : List ℕ). l ++ n ++ u ++ y ++ z) (sym (append_assoc x s t))
    ∙ ap (λ (l : List ℕ). l ++ y ++ z) (grouped (x ++ s) t n u)

-- the text in front of a row's number, and behind it
abbrev pub text_front : List ℕ
text_front = codes "<text x=\"2.5\" y=\""

abbrev pub text_back : List ℕ
text_back = codes ".8\">"

-- x, y and z, of which y and z were put as one
pub parted : {a b : List ℕ} (x y z : List ℕ) → Appends a b (x ++ (y ++ z)) → Appends a b (x ++ y ++ z)
parted {a} {b} x y z put = record { is = put.is ∙ ap (λ (l : List ℕ). a ++ l) (sym (append_assoc x y z)) }

module _ {T E : Type 0} (r : Result T E) where
  -- first x, and y last
  pub put_last : {a b x : List ℕ} (c y : List ℕ) → Appends a b x → OnOk r (Appends b c y)
      → OnOk r (Appends a c (x ++ y))
  put_last {a} {b} {x} c y first last =
      on_ok_weaker r (λ (put : Appends b c y). then_put first put) last

  -- first x, and y and z last
  pub two_last : {a b x : List ℕ} (c y z : List ℕ) → Appends a b x → OnOk r (Appends b c (y ++ z))
      → OnOk r (Appends a c (x ++ y ++ z))
  two_last {a} {b} {x} c y z first last = on_ok_weaker r
      (λ (put : Appends b c (y ++ z)). record {
        is = (then_put first put).is ∙ ap (λ (l : List ℕ). a ++ l) (sym (append_assoc x y z));
      }) last

  -- a swatch and a row's head in their parts, and e last
  pub row_put : (a b : List ℕ) (row : ℕ) (ls : List (List ℕ)) (e : List ℕ)
      → OnOk r (Appends a b (codes "<path d=\"M0 " ++ decimal row ++ (chained (codes ".5h2\" stroke-width=\"") ls
      ++ text_front) ++ decimal row ++ (text_back ++ e)))
      → OnOk r (Appends a b (chained (swatch_head row) ls ++ row_head row ++ e))
  unfolding swatch_head row_head
  row_put a b row ls e last = on_ok_weaker r
      (λ (put : Appends a b (codes "<path d=\"M0 " ++ decimal row ++ (chained (codes ".5h2\" stroke-width=\"") ls
      ++ text_front) ++ decimal row ++ (text_back ++ e))). record {
        is = put.is ∙ ap (λ (l : List ℕ). a ++ l)
            (row_joined (codes "<path d=\"M0 " ++ decimal row) (codes ".5h2\" stroke-width=\"") text_front
            (decimal row) text_back e ls);
      }) last

  -- first x, then s and the head of a row in its parts, y and z
  pub row_named : {a b x : List ℕ} (c s : List ℕ) (row : ℕ) (y z : List ℕ) → Appends a b x
      → OnOk r (Appends b c ((s ++ text_front) ++ decimal row ++ text_back ++ y ++ z))
      → OnOk r (Appends a c (x ++ s ++ row_head row ++ y ++ z))
  unfolding row_head
  row_named {a} {b} {x} c s row y z first last = on_ok_weaker r
      (λ (put : Appends b c ((s ++ text_front) ++ decimal row ++ text_back ++ y ++ z)). record {
        is = (then_put first put).is
            ∙ ap (λ (l : List ℕ). a ++ l) (row_parted x s text_front (decimal row) text_back y z);
      }) last
