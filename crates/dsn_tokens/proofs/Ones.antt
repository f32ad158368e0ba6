-- A text has one reading.
use Rattle.std.proofs.Common.{◌≡◌, ◌≢◌, ◌==◌, ◌<◌, ◌||◌, ◌∙◌, ap, sym, subst, ℕ, true, false, List, [], ◌∷◌, ◌++◌}
use Rattle.std.proofs.Common.{arith, refl, length}
use Rattle.std.specs.Prelude.{Option, Some, None, IsTrue}
use Rattle.std.specs.List.{AllByRecursion, flat_map}
use Rattle.std.proofs.lemmas.Bool.{false≢true}
use Rattle.std.proofs.lemmas.Bool.Decides.{nat_tests}
use Rattle.dsn_tokens.specs.Place.{Place, start, end_of, behind_token}
use Rattle.dsn_tokens.specs.Gaps.{is_blank, Lacks, Space, blank, skipped, spaces_then, IsGap, behind_space, behind_gap}
use Rattle.dsn_tokens.specs.Gaps.{StartsToken, EndsText, IsBehindGap, Ends}
use Rattle.dsn_tokens.specs.Words.{Piece, bare, quoted, IsPiece, pieces_then, piece_text, ends_word, EndsWord}
use Rattle.dsn_tokens.specs.Words.{behind_word, IsWord, IsOpenQuote}
use Rattle.dsn_tokens.specs.Spelling.{can_quote, IsMark, IsTokenAt, IsFault, Takes, Faults, Reading, OneReading}
use Rattle.dsn_tokens.specs.declared.context.Context.{Context}
use Rattle.dsn_tokens.specs.declared.context.Line.{Line}
use Rattle.dsn_tokens.specs.declared.context.Line.TheVariants.{Fresh, Begun, Quoting}
use Rattle.dsn_tokens.specs.declared.token.Mark.{Mark}
use Rattle.dsn_tokens.specs.declared.token.Mark.TheVariants.{Left, Right, Word}
use Rattle.dsn_tokens.specs.declared.token.Token.{Token}
use Rattle.dsn_tokens.specs.declared.token.TokenFault.{TokenFault}
use Rattle.dsn_tokens.specs.declared.token.TokenFault.TheVariants.{QuoteOpen, BadQuoteByte, Memory}

cons_one : {X : Type 0} (x y : X) (xs ys : List X) → x ∷ xs ≡ y ∷ ys → (x ≡ y) × (xs ≡ ys)
cons_one x y xs ys e = (cc, cc)

lacks_stop : (stop : ℕ) (xs rest : List ℕ) → Lacks stop (xs ++ stop ∷ rest) → ⊥
lacks_stop stop [] rest l = l.0 refl
lacks_stop stop (x ∷ xs) rest l = lacks_stop stop xs rest l.1

-- the bytes before the first stop are one list
until_one : (stop : ℕ) (xs ys rs ss : List ℕ) → Lacks stop xs → Lacks stop ys → xs ++ stop ∷ rs ≡ ys ++ stop ∷ ss
    → (xs ≡ ys) × (rs ≡ ss)
until_one stop [] [] rs ss k l e = (refl, (cons_one stop stop rs ss e).1)
until_one stop [] (y ∷ ys) rs ss k l e = absurd (l.0 (sym (cons_one stop y rs (ys ++ stop ∷ ss) e).0))
until_one stop (x ∷ xs) [] rs ss k l e = absurd (k.0 (cons_one x stop (xs ++ stop ∷ rs) ss e).0)
until_one stop (x ∷ xs) (y ∷ ys) rs ss k l e =
    let h = cons_one x y (xs ++ stop ∷ rs) (ys ++ stop ∷ ss) e in
    let r = until_one stop xs ys rs ss k.1 l.1 h.1 in
    (ap (λ z. z ∷ xs) h.0 ∙ ap (λ zs. y ∷ zs) r.0, r.1)

-- no blank and no whole skipped line is in front
abbrev Behind : Line → List ℕ → Type 0
Behind line [] = Unit {0}
Behind line (b ∷ bytes) = (is_blank b ≡ false) × (line ≡ Fresh → b ≡ 35 → Lacks 10 bytes)

abbrev SameGap : List Space → List ℕ → List Space → List ℕ → Type 0
SameGap g r h s = (g ≡ h) × (r ≡ s)

gap_more : (line : Line) (x y : Space) (g h : List Space) (r s : List ℕ) → x ≡ y → IsGap (behind_space line y) h
    → Behind (behind_gap (behind_space line y) h) s → spaces_then g r ≡ spaces_then h s
    → (IsGap (behind_space line x) h → Behind (behind_gap (behind_space line x) h) s → spaces_then g r ≡ spaces_then h s
    → SameGap g r h s) → SameGap (x ∷ g) r (y ∷ h) s
gap_more line x y g h r s e is b t more =
    let k = more (subst (λ z. IsGap (behind_space line z) h) (sym e) is)
    (subst (λ z. Behind (behind_gap (behind_space line z) h) s) (sym e) b) t in
    (ap (λ z. z ∷ g) e ∙ ap (λ zs. y ∷ zs) k.0, k.1)

blank_no_hash : (b : ℕ) → IsTrue (is_blank b) → b ≡ 35 → ⊥
blank_no_hash b t e = grind (arith, nat_tests)

-- a gap and what stands behind it are one
gap_one : (line : Line) (g h : List Space) (r s : List ℕ) → IsGap line g → IsGap line h → Behind (behind_gap line g) r
    → Behind (behind_gap line h) s → spaces_then g r ≡ spaces_then h s → SameGap g r h s
gap_one line [] [] r s i j a b e = (refl, e)
gap_one line [] (blank x ∷ h) r s i j a b e = absurd (false≢true (sym (subst (Behind line) e a).0 ∙ j.0))
gap_one line [] (skipped x ∷ h) r s i j a b e = absurd (lacks_stop 10 x _ ((subst (Behind line) e a).1 j.0.0 refl))
gap_one line (blank x ∷ g) [] r s i j a b e = absurd (false≢true (sym (subst (Behind line) (sym e) b).0 ∙ i.0))
gap_one line (skipped x ∷ g) [] r s i j a b e =
    absurd (lacks_stop 10 x _ ((subst (Behind line) (sym e) b).1 i.0.0 refl))
gap_one line (blank x ∷ g) (skipped y ∷ h) r s i j a b e = absurd (blank_no_hash x i.0 (cons_one x 35 _ _ e).0)
gap_one line (skipped x ∷ g) (blank y ∷ h) r s i j a b e = absurd (blank_no_hash y j.0 (sym (cons_one 35 y _ _ e).0))
gap_one line (blank x ∷ g) (blank y ∷ h) r s i j a b e =
    let k = cons_one x y (spaces_then g r) (spaces_then h s) e in
    gap_more line (blank x) (blank y) g h r s (ap blank k.0) j.1 b k.1
    (λ v w t. gap_one (behind_space line (blank x)) g h r s i.1 v a w t)
gap_one line (skipped x ∷ g) (skipped y ∷ h) r s i j a b e =
    let k = until_one 10 x y (spaces_then g r) (spaces_then h s) i.0.1 j.0.1 (cons_one 35 35 _ _ e).1 in
    gap_more line (skipped x) (skipped y) g h r s (ap skipped k.0) j.1 b k.1
    (λ v w t. gap_one (behind_space line (skipped x)) g h r s i.1 v a w t)

starts_behind : (line : Line) (bytes : List ℕ) → StartsToken line bytes → Behind line bytes
starts_behind line [] s = absurd s
starts_behind line (b ∷ bytes) s = (s.0, λ f e. absurd (s.1 f e))

ends_behind : (line : Line) (bytes : List ℕ) → EndsText line bytes → Behind line bytes
ends_behind line [] s = tt
ends_behind line (b ∷ bytes) s = (unblank b s.1, λ f e. s.2)
  where
    unblank : (b : ℕ) → b ≡ 35 → is_blank b ≡ false
    unblank b e = grind (arith, nat_tests)

starts_no_end : (line : Line) (bytes : List ℕ) → StartsToken line bytes → EndsText line bytes → ⊥
starts_no_end line [] s e = s
starts_no_end line (b ∷ bytes) s e = s.1 e.0 e.1

behind_one : (p : Place) (xs ys : List ℕ) → IsBehindGap p xs → IsBehindGap p ys → xs ≡ ys
behind_one p xs ys x y =
    (gap_one p.context.line x.spaces y.spaces xs ys x.is_gap y.is_gap (starts_behind _ xs x.starts)
    (starts_behind _ ys y.starts) (sym x.text ∙ y.text)).1

behind_no_end : (p : Place) (xs : List ℕ) → IsBehindGap p xs → Ends p → ⊥
behind_no_end p xs x y =
    let k = gap_one p.context.line x.spaces y.spaces xs y.last x.is_gap y.is_gap (starts_behind _ xs x.starts)
    (ends_behind _ y.last y.ends) (sym x.text ∙ y.text) in
    starts_no_end (behind_gap p.context.line y.spaces) y.last
    (subst (λ g. StartsToken (behind_gap p.context.line g) y.last) k.0
    (subst (StartsToken (behind_gap p.context.line x.spaces)) k.1 x.starts)) y.ends

-- no piece is in front
abbrev Past : ℕ → List ℕ → Type 0
Past q [] = Unit {0}
Past q (b ∷ bytes) = (b ≡ q → Lacks q bytes) × (b ≢ q → ends_word b ≡ true)

abbrev SamePieces : List Piece → List ℕ → List Piece → List ℕ → Type 0
SamePieces g r h s = (g ≡ h) × (r ≡ s)

pieces_more : (x y : Piece) (g h : List Piece) (r s : List ℕ) → x ≡ y → SamePieces g r h s
    → SamePieces (x ∷ g) r (y ∷ h) s
pieces_more x y g h r s e k = (ap (λ z. z ∷ g) e ∙ ap (λ zs. y ∷ zs) k.0, k.1)

-- pieces and what stands behind them are one
pieces_one : (q : ℕ) (g h : List Piece) (r s : List ℕ) → AllByRecursion (IsPiece q) g → AllByRecursion (IsPiece q) h
    → Past q r → Past q s → pieces_then q g r ≡ pieces_then q h s → SamePieces g r h s
pieces_one q [] [] r s i j a b e = (refl, e)
pieces_one q [] (bare x ∷ h) r s i j a b e = absurd (false≢true (sym j.0.1 ∙ (subst (Past q) e a).1 j.0.0))
pieces_one q [] (quoted x ∷ h) r s i j a b e = absurd (lacks_stop q x _ ((subst (Past q) e a).0 refl))
pieces_one q (bare x ∷ g) [] r s i j a b e = absurd (false≢true (sym i.0.1 ∙ (subst (Past q) (sym e) b).1 i.0.0))
pieces_one q (quoted x ∷ g) [] r s i j a b e = absurd (lacks_stop q x _ ((subst (Past q) (sym e) b).0 refl))
pieces_one q (bare x ∷ g) (quoted y ∷ h) r s i j a b e = absurd (i.0.0 (cons_one x q _ _ e).0)
pieces_one q (quoted x ∷ g) (bare y ∷ h) r s i j a b e = absurd (j.0.0 (sym (cons_one q y _ _ e).0))
pieces_one q (bare x ∷ g) (bare y ∷ h) r s i j a b e =
    let k = cons_one x y (pieces_then q g r) (pieces_then q h s) e in
    pieces_more (bare x) (bare y) g h r s (ap bare k.0) (pieces_one q g h r s i.1 j.1 a b k.1)
pieces_one q (quoted x ∷ g) (quoted y ∷ h) r s i j a b e =
    let k = until_one q x y (pieces_then q g r) (pieces_then q h s) i.0 j.0 (cons_one q q _ _ e).1 in
    pieces_more (quoted x) (quoted y) g h r s (ap quoted k.0) (pieces_one q g h r s i.1 j.1 a b k.1)

-- a quoting byte is neither blank nor bracket
quote_in_word : (q b : ℕ) → IsTrue (can_quote q) → IsTrue (ends_word b) → b ≢ q
quote_in_word q b c w e = grind (arith, nat_tests)

ends_past : (q : ℕ) (rest : List ℕ) → IsTrue (can_quote q) → EndsWord rest → Past q rest
ends_past q [] c e = tt
ends_past q (b ∷ rest) c e = (λ x. absurd (quote_in_word q b c e x), λ n. e)

open_past : (q : ℕ) (inside : List ℕ) → Lacks q inside → Past q (q ∷ inside)
open_past q inside l = (λ e. l, λ n. absurd (n refl))

-- a bracket begins no word
bracket_first : (q b : ℕ) (rest : List ℕ) (pieces : List Piece) (r : List ℕ) → IsTrue (can_quote q)
    → IsTrue (b == 40 || b == 41) → 0 < length pieces → AllByRecursion (IsPiece q) pieces
    → b ∷ rest ≡ pieces_then q pieces r → ⊥
bracket_first q b rest [] r c t some i e = absurd (omega arith)
bracket_first q b rest (bare x ∷ g) r c t some i e =
    false≢true (sym i.0.1 ∙ subst (λ z. ends_word z ≡ true) (cons_one b x _ _ e).0 (bracket_ends b t))
  where
    bracket_ends : (b : ℕ) → IsTrue (b == 40 || b == 41) → ends_word b ≡ true
    bracket_ends b t = grind (arith, nat_tests)
bracket_first q b rest (quoted x ∷ g) r c t some i e = bracket_quotes q b c t (cons_one b q _ _ e).0
  where
    bracket_quotes : (q b : ℕ) → IsTrue (can_quote q) → IsTrue (b == 40 || b == 41) → b ≡ q → ⊥
    bracket_quotes q b c t e = grind (arith, nat_tests)

bracket_no_word : (c : Context) (b : ℕ) (bytes text rest r : List ℕ) (d : Context) → IsTrue (can_quote c.quote)
    → IsTrue (b == 40 || b == 41) → bytes ≡ b ∷ rest → IsWord c bytes text r d → ⊥
bracket_no_word c b bytes text rest r d can t e w =
    bracket_first c.quote b rest w.pieces r can t w.some w.each (sym e ∙ w.spelled)

-- one mark
mark_one : (m n : Mark) (c : Context) (bytes r s : List ℕ) (d e : Context) → IsTrue (can_quote c.quote)
    → IsMark m c bytes r d → IsMark n c bytes s e → (m ≡ n) × (r ≡ s) × (d ≡ e)
mark_one Left Left c bytes r s d e can x y = (refl, (cons_one 40 40 r s (sym x.0 ∙ y.0)).1, x.1 ∙ sym y.1)
mark_one Right Right c bytes r s d e can x y = (refl, (cons_one 41 41 r s (sym x.0 ∙ y.0)).1, x.1 ∙ sym y.1)
mark_one Left Right c bytes r s d e can x y = absurd (omega (arith, (cons_one 40 41 r s (sym x.0 ∙ y.0)).0))
mark_one Right Left c bytes r s d e can x y = absurd (omega (arith, (cons_one 41 40 r s (sym x.0 ∙ y.0)).0))
mark_one Left (Word t) c bytes r s d e can x y = absurd (bracket_no_word c 40 bytes t r s e can refl x.0 y)
mark_one Right (Word t) c bytes r s d e can x y = absurd (bracket_no_word c 41 bytes t r s e can refl x.0 y)
mark_one (Word t) Left c bytes r s d e can x y = absurd (bracket_no_word c 40 bytes t s r d can refl y.0 x)
mark_one (Word t) Right c bytes r s d e can x y = absurd (bracket_no_word c 41 bytes t s r d can refl y.0 x)
mark_one (Word t) (Word u) c bytes r s d e can x y =
    let k = pieces_one c.quote x.pieces y.pieces r s x.each y.each (ends_past c.quote r can x.ends)
    (ends_past c.quote s can y.ends) (sym x.spelled ∙ y.spelled) in (
      ap Word (x.joined ∙ ap (flat_map piece_text) k.0 ∙ sym y.joined),
      k.1,
      x.context ∙ ap (λ g. behind_word c (pieces_then c.quote g [])) k.0 ∙ sym y.context,
    )

token_one : (line : Line) (m n : Mark) (c : Context) (bytes r s : List ℕ) (d e : Context) → IsTrue (can_quote c.quote)
    → IsTokenAt line m c bytes r d → IsTokenAt line n c bytes s e → (m ≡ n) × (r ≡ s) × (d ≡ e)
token_one Fresh m n c bytes r s d e can x y = mark_one m n c bytes r s d e can x y
token_one Begun m n c bytes r s d e can x y = mark_one m n c bytes r s d e can x y
token_one Quoting m n c bytes r s d e can x y =
    let k = cons_one x.byte y.byte r s (sym x.here ∙ y.here) in (
      x.mark_is ∙ ap (λ b. Word (b ∷ [])) k.0 ∙ sym y.mark_is,
      k.1,
      x.context ∙ ap (behind_token false) k.0
          ∙ sym y.context,
    )

mark_can : (m : Mark) (c : Context) (bytes r : List ℕ) (d : Context) → IsTrue (can_quote c.quote) → IsMark m c bytes r d
    → IsTrue (can_quote d.quote)
mark_can Left c bytes r d can x = rw x.1 can
mark_can Right c bytes r d can x = rw x.1 can
mark_can (Word t) c bytes r d can x = rw x.context can

token_can : (line : Line) (m : Mark) (c : Context) (bytes r : List ℕ) (d : Context) → IsTrue (can_quote c.quote)
    → IsTokenAt line m c bytes r d → IsTrue (can_quote d.quote)
token_can Fresh m c bytes r d can x = mark_can m c bytes r d can x
token_can Begun m c bytes r d can x = mark_can m c bytes r d can x
token_can Quoting m c bytes r d can x = rw x.context x.can

open_no_bracket : (c : Context) (b : ℕ) (bytes rest : List ℕ) (last at : ℕ) → IsTrue (can_quote c.quote)
    → IsTrue (b == 40 || b == 41) → bytes ≡ b ∷ rest → IsOpenQuote c bytes last at → ⊥
open_no_bracket c b bytes rest last at can t e w = first w.pieces w.each (sym e ∙ w.spelled)
  where
    first : (pieces : List Piece) → AllByRecursion (IsPiece c.quote) pieces
        → b ∷ rest ≡ pieces_then c.quote pieces (c.quote ∷ w.inside) → ⊥
    first [] i e = bracket_quotes c.quote b can t (cons_one b c.quote _ _ e).0
      where
        bracket_quotes : (q b : ℕ) → IsTrue (can_quote q) → IsTrue (b == 40 || b == 41) → b ≡ q → ⊥
        bracket_quotes q b c t e = grind (arith, nat_tests)
    first (p ∷ pieces) i e = bracket_first c.quote b rest (p ∷ pieces) _ can t (omega arith) i e

mark_closed : (m : Mark) (c : Context) (bytes r : List ℕ) (d : Context) (last at : ℕ) → IsTrue (can_quote c.quote)
    → IsMark m c bytes r d → IsOpenQuote c bytes last at → ⊥
mark_closed Left c bytes r d last at can x f = open_no_bracket c 40 bytes r last at can refl x.0 f
mark_closed Right c bytes r d last at can x f = open_no_bracket c 41 bytes r last at can refl x.0 f
mark_closed (Word t) c bytes r d last at can x f =
    let k = pieces_one c.quote x.pieces f.pieces r (c.quote ∷ f.inside) x.each f.each (ends_past c.quote r can x.ends)
    (open_past c.quote f.inside f.unclosed) (sym x.spelled ∙ f.spelled) in
    quote_in_word c.quote c.quote can (subst EndsWord k.1 x.ends) refl

token_no_fault : (line : Line) (m : Mark) (c : Context) (bytes r : List ℕ) (d : Context) (last : ℕ) (f : TokenFault)
    → line ≡ c.line → IsTrue (can_quote c.quote) → IsTokenAt line m c bytes r d → IsFault c bytes last f → ⊥
token_no_fault Fresh m c bytes r d last (QuoteOpen at) l can x f = mark_closed m c bytes r d last at can x f
token_no_fault Begun m c bytes r d last (QuoteOpen at) l can x f = mark_closed m c bytes r d last at can x f
token_no_fault Quoting m c bytes r d last (QuoteOpen at) l can x f = f.no_quote_due (sym l)
token_no_fault Fresh m c bytes r d last (BadQuoteByte at) l can x f = let e = l ∙ f.0.due in cc
token_no_fault Begun m c bytes r d last (BadQuoteByte at) l can x f = let e = l ∙ f.0.due in cc
token_no_fault Quoting m c bytes r d last (BadQuoteByte at) l can x f =
    false≢true (sym f.0.other ∙ ap can_quote (cons_one f.0.byte x.byte f.0.rest r (sym f.0.here ∙ x.here)).0 ∙ x.can)
token_no_fault line m c bytes r d last (Memory e) l can x f = absurd f

fault_one : (c : Context) (bytes : List ℕ) (last : ℕ) (f g : TokenFault) → IsFault c bytes last f
    → IsFault c bytes last g → f ≡ g
fault_one c bytes last (QuoteOpen a) (QuoteOpen b) x y =
    let k = pieces_one c.quote x.pieces y.pieces (c.quote ∷ x.inside) (c.quote ∷ y.inside) x.each y.each
    (open_past c.quote x.inside x.unclosed) (open_past c.quote y.inside y.unclosed) (sym x.spelled ∙ y.spelled) in
    ap QuoteOpen (omega (arith, ap length k.1, x.opened_at, y.opened_at))
fault_one c bytes last (BadQuoteByte a) (BadQuoteByte b) x y = ap BadQuoteByte (omega (arith, x.1, y.1))
fault_one c bytes last (QuoteOpen a) (BadQuoteByte b) x y = absurd (x.no_quote_due y.0.due)
fault_one c bytes last (BadQuoteByte a) (QuoteOpen b) x y = absurd (y.no_quote_due x.0.due)
fault_one c bytes last (Memory e) g x y = absurd x
fault_one c bytes last (QuoteOpen a) (Memory e) x y = absurd y
fault_one c bytes last (BadQuoteByte a) (Memory e) x y = absurd y

-- equal fields make equal records
token_same : (t u : Token) → t.at ≡ u.at → t.mark ≡ u.mark → t ≡ u
token_same t u e f =
    ap (λ a. let x : Token = record { at = a; mark = t.mark } in x) e
    ∙ ap (λ m. let x : Token = record { at = u.at; mark = m } in x) f

place_same : (p q : Place) → p.at ≡ q.at → p.rest ≡ q.rest → p.context ≡ q.context → p ≡ q
place_same p q a r c =
    ap (λ x. let y : Place = record { at = x; rest = p.rest; context = p.context } in y) a
    ∙ ap (λ x. let y : Place = record { at = q.at; rest = x; context = p.context } in y) r
    ∙ ap (λ x. let y : Place = record { at = q.at; rest = q.rest; context = x } in y) c

takes_one : (p : Place) (t u : Token) (q r : Place) → IsTrue (can_quote p.context.quote) → Takes p t q → Takes p u r
    → (t ≡ u) × (q ≡ r)
takes_one p t u q r can x y =
    let b = behind_one p x.bytes y.bytes x.gap y.gap in
    let k = token_one p.context.line t.mark u.mark p.context x.bytes q.rest r.rest q.context r.context can x.token
    (rw b y.token) in (
      token_same t u (omega (arith, ap length b, x.token_at, y.token_at)) k.0,
      place_same q r (omega (arith, ap length k.1, x.same_end, y.same_end)) k.1 k.2,
    )

takes_no_fault : (p : Place) (t : Token) (q : Place) (f : TokenFault) → IsTrue (can_quote p.context.quote) → Takes p t q
    → Faults p f → ⊥
takes_no_fault p t q f can x y =
    token_no_fault p.context.line t.mark p.context y.bytes q.rest q.context (end_of p) f refl can
    (rw (← behind_one p x.bytes y.bytes x.gap y.gap) x.token) y.fault

faults_one : (p : Place) (f g : TokenFault) → Faults p f → Faults p g → f ≡ g
faults_one p f g x y =
    fault_one p.context y.bytes (end_of p) f g (rw (← behind_one p x.bytes y.bytes x.gap y.gap) x.fault) y.fault

reading_one : (p : Place) (ts us : List Token) (e f : Option TokenFault) → IsTrue (can_quote p.context.quote)
    → Reading p ts e → Reading p us f → (ts ≡ us) × (e ≡ f)
reading_one p [] [] None None c x y = (refl, refl)
reading_one p [] [] None (Some f) c x y = absurd (behind_no_end p y.bytes y.gap x)
reading_one p [] [] (Some e) None c x y = absurd (behind_no_end p x.bytes x.gap y)
reading_one p [] [] (Some e) (Some f) c x y = (refl, ap Some (faults_one p e f x y))
reading_one p [] (u ∷ us) None f c x y = absurd (behind_no_end p y.1.bytes y.1.gap x)
reading_one p [] (u ∷ us) (Some e) f c x y = absurd (takes_no_fault p u y.0 e c y.1 x)
reading_one p (t ∷ ts) [] e None c x y = absurd (behind_no_end p x.1.bytes x.1.gap y)
reading_one p (t ∷ ts) [] e (Some f) c x y = absurd (takes_no_fault p t x.0 f c x.1 y)
reading_one p (t ∷ ts) (u ∷ us) e f c x y =
    let s = takes_one p t u x.0 y.0 c x.1 y.1 in
    let r = reading_one x.0 ts us e f
    (token_can p.context.line t.mark p.context x.1.bytes x.0.rest x.0.context c x.1.token) x.2
    (rw (← s.1) at y.2) in
    (ap (λ z. z ∷ ts) s.0 ∙ ap (λ zs. u ∷ zs) r.0, r.1)

pub one_reading : OneReading
one_reading text ts us e f x y = reading_one (start text) ts us e f refl x y
