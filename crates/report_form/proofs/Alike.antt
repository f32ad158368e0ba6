-- That all cuts of a report tell how far moves at 45 degrees reach, or none does.
use Rattle.std.proofs.Common.{◌≡◌, ◌∙◌, ℕ, ◌<◌, Bool, true, false, true≢false, List, [], ◌∷◌, ◌++◌, length, get_or}
use Rattle.std.proofs.Common.{Option, Some, None, All, is_some, refl, sym, ap, subst, arith, length-append}
use Rattle.std.proofs.lemmas.List.{append_assoc, append-nil}
use Rattle.std.proofs.lemmas.List.Elements.{All-append, All-cons, All-head, All-nil, All-tail}
use Rattle.report_form.specs.Form.{CutTold, NetTold, TellAlike, cuts_in, tells_wide}
use Rattle.report_form.specs.inner.State.{MayTell, bare, opened}
use Rattle.report_form.specs.inner.Halts.{HaveTold, IsSoFar, may_follow}

-- ---- parts of lists
pub all_left : {X : Type 0} (P : X → Type 0) (xs ys : List X) → All P (xs ++ ys) → All P xs
all_left P [] ys h = All-nil P
all_left P (x ∷ xs) ys h =
    All-cons P x xs (All-head P x (xs ++ ys) h) (all_left P xs ys (All-tail P x (xs ++ ys) h))

pub all_right : {X : Type 0} (P : X → Type 0) (xs ys : List X) → All P (xs ++ ys) → All P ys
all_right P [] ys h = h
all_right P (x ∷ xs) ys h = all_right P xs ys (All-tail P x (xs ++ ys) h)

-- the cut tells so
abbrev pub Tells : Bool → CutTold → Type 0
Tells wide c = tells_wide c ≡ wide

-- ---- cuts of nets
pub net_cuts : (ns : List NetTold) (n : NetTold) → cuts_in (ns ++ n ∷ []) ≡ cuts_in ns ++ n.cuts
net_cuts [] n = append-nil n.cuts
net_cuts (x ∷ ns) n =
    ap (λ (z : List CutTold). x.cuts ++ z) (net_cuts ns n) ∙ sym (append_assoc x.cuts (cuts_in ns) n.cuts)

-- behind a cut more
pub tell_more : (wide : Bool) (ns : List NetTold) (cs : List CutTold) (c : CutTold) → MayTell wide ns cs
    → tells_wide c ≡ wide → MayTell wide ns (cs ++ c ∷ [])
tell_more wide ns cs c may e = subst (All (Tells wide)) (append_assoc (cuts_in ns) cs (c ∷ []))
    (All-append (Tells wide) (cuts_in ns ++ cs) (c ∷ []) may
    (All-cons (Tells wide) c [] e (All-nil (Tells wide))))

-- behind the last cut of a net
pub tell_net : (wide : Bool) (ns : List NetTold) (n : NetTold) → MayTell wide ns n.cuts
    → All (Tells wide) (cuts_in (ns ++ n ∷ []))
tell_net wide ns n may = subst (All (Tells wide)) (sym (net_cuts ns n)) may

pub no_cuts_yet : (wide : Bool) (ns : List NetTold) → All (Tells wide) (cuts_in ns) → MayTell wide ns []
no_cuts_yet wide ns h = subst (All (Tells wide)) (sym (append-nil (cuts_in ns))) h

-- the cuts before some
pub tell_before : (wide : Bool) (ns : List NetTold) (cs es : List CutTold) → MayTell wide ns (cs ++ es)
    → MayTell wide ns cs
tell_before wide ns cs es h = all_left (Tells wide) (cuts_in ns ++ cs) es
    (subst (All (Tells wide)) (sym (append_assoc (cuts_in ns) cs es)) h)

-- and the one behind them
pub tell_here : (wide : Bool) (ns : List NetTold) (cs : List CutTold) (c : CutTold) (es : List CutTold)
    → MayTell wide ns (cs ++ c ∷ es) → tells_wide c ≡ wide
tell_here wide ns cs c es h = All-head (Tells wide) c es
    (all_right (Tells wide) cs (c ∷ es) (all_right (Tells wide) (cuts_in ns) (cs ++ c ∷ es) h))

pub like_cut : (wide : Bool) (ns : List NetTold) (cs : List CutTold) (c : CutTold) → tells_wide c ≡ wide
    → MayTell wide ns cs → MayTell (tells_wide c) ns cs
like_cut wide ns cs c e may = subst (λ (b : Bool). MayTell b ns cs) (sym e) may

-- ---- a cut's last line
pub none_told : (o : Option (List ℕ)) → is_some o ≡ false → o ≡ None
none_told None e = refl
none_told (Some x) e = absurd (true≢false e)

pub some_told : (o : Option (List ℕ)) → o ≡ None → is_some o ≡ true → ⊥
some_told o e f = true≢false (sym f ∙ ap (λ (x : Option (List ℕ)). is_some x) e)

-- ---- what the cuts so far tell
at_first : (wide : Bool) (xs : List CutTold) → 0 < length xs → All (Tells wide) xs
    → tells_wide (get_or xs 0 (bare [] [] [])) ≡ wide
at_first wide xs some all = all 0 (bare [] [] []) some

pub follows : (ns : List NetTold) (cs : List CutTold) (told : Option Bool) (wide : Bool) → IsSoFar ns cs told
    → may_follow told wide ≡ true → MayTell wide ns cs
follows ns cs None wide none e = subst (All (Tells wide)) (sym none) (All-nil (Tells wide))
follows ns cs (Some true) true have e = have.all
follows ns cs (Some false) true have e = absurd (true≢false (sym e))
follows ns cs (Some true) false have e = absurd (true≢false (sym e))
follows ns cs (Some false) false have e = have.all

pub follows_not : (ns : List NetTold) (cs : List CutTold) (told : Option Bool) (wide : Bool) → IsSoFar ns cs told
    → may_follow told wide ≡ false → MayTell wide ns cs → ⊥
follows_not ns cs None wide none e may = true≢false e
follows_not ns cs (Some true) true have e may = true≢false e
follows_not ns cs (Some false) true have e may =
    true≢false (sym (at_first true (cuts_in ns ++ cs) have.some may)
    ∙ at_first false (cuts_in ns ++ cs) have.some have.all)
follows_not ns cs (Some true) false have e may =
    true≢false (sym (at_first true (cuts_in ns ++ cs) have.some have.all)
    ∙ at_first false (cuts_in ns ++ cs) have.some may)
follows_not ns cs (Some false) false have e may = true≢false e

-- behind a cut
pub so_far_on : (ns : List NetTold) (cs : List CutTold) (c : CutTold) (wide : Bool) → MayTell wide ns cs
    → tells_wide c ≡ wide → IsSoFar ns (cs ++ c ∷ []) (Some wide)
so_far_on ns cs c wide may e = record {
  some = omega (arith, length-append (cuts_in ns) (cs ++ c ∷ []), length-append cs (c ∷ []));
  all = tell_more wide ns cs c may e;
}

-- behind a net
pub so_far_net : (ns : List NetTold) (n : NetTold) (told : Option Bool) → IsSoFar ns n.cuts told
    → IsSoFar (ns ++ n ∷ []) [] told
so_far_net ns n None none = append-nil (cuts_in (ns ++ n ∷ [])) ∙ (net_cuts ns n ∙ none)
so_far_net ns n (Some wide) have =
    let same : cuts_in ns ++ n.cuts ≡ cuts_in (ns ++ n ∷ []) ++ [] =
    sym (net_cuts ns n) ∙ sym (append-nil (cuts_in (ns ++ n ∷ []))) in record {
      some = subst (λ (xs : List CutTold). 0 < length xs) same have.some;
      all = subst (All (Tells wide)) same have.all;
    }
