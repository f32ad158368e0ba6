-- What loops over lines keep.
use Rattle.std.proofs.Common.{◌≡◌, ℕ, ◌+◌, ◌-◌, ◌^◌, ◌<◌, ◌≤◌, true, List, [], ◌∷◌, ◌++◌, length}
use Rattle.std.proofs.Common.{refl, sym}
use Rattle.std.proofs.Common.{ap, ◌∙◌, subst, arith, get_or, Some, None, Option, Bool, false, ◌==◌, eqb-true}
use Rattle.std.specs.Prelude.{codes, decimal, slice_get, Result, MatchResult}
use Rattle.std.proofs.lemmas.Bool.{both_ways}
use Rattle.std.proofs.lemmas.List.{length-append, length_push}
use Rattle.std.proofs.lemmas.Option.{slice_get_within, slice_get_read}
use Rattle.pcb_model.specs.declared.item.Kind.{Kind}
use Rattle.pcb_model.specs.declared.design.Net.{Net}
use Rattle.pcb_model.specs.declared.design.Design.{Design}
use Rattle.ses_writer.specs.Words.{spelled}
use Rattle.report_form.specs.Form.{Told, NetTold, CutTold, value, line}
use Rattle.report_form.specs.Form.{kind_word, total_line}
use Rattle.report_form.specs.Reading.{capped, AreCutsKept, AreNetsKept}
use Rattle.report_form.specs.declared.reading.ReadRun.{ReadRun}
use Rattle.report_form.specs.declared.reading.ReadCut.{ReadCut}
use Rattle.report_form.specs.declared.cuts.Halt.{Halt}
use Rattle.report_form.specs.declared.cuts.CutLine.{CutLine}
use Rattle.report_form.specs.declared.cuts.CutAt.{CutAt}
use Rattle.report_form.specs.inner.State.{Page, Dropping, Passing, Netting, Opened, Parts, Ended, IsPage, At}
use Rattle.report_form.specs.inner.State.{IsStopped, IsEarly, IsBeforeCut, bare, opened, whole, firsts_after}
use Rattle.report_form.specs.inner.State.{own_firsts, name_of, name_after}
use Rattle.report_form.specs.inner.Fields.{HasOne, HasItem, PassAt, ItemAt, RunAt, IsCutAt}
use Rattle.report_form.specs.inner.Fields.{HasWhole, OpenedAt}
use Rattle.report_form.specs.inner.Halts.{IsHead, IsSoFar, ItemsRead, AllItemsRead, RunsRead, RunsReadTo, CutRead}
use Rattle.report_form.specs.inner.Halts.{MostRead}
use Rattle.report_form.specs.declared.nets.NetAt.{NetAt}
use Rattle.report_form.proofs.Alike.{so_far_net, so_far_on}
use Rattle.report_form.specs.inner.Halts.{CutsRead, OpenRead, NetsRead, PlacesFirst, PlacesRead, PassesRead}
use Rattle.report_form.specs.inner.Halts.{AllPassesRead, HasNoNetLine, WholeRead, NetHere, PartsAt, CutsAdded, IsHalted}
use Rattle.report_form.proofs.Fields.{one_line}
use Rattle.report_form.proofs.Options.{match_both}
use Rattle.report_form.proofs.Steps.{place_on, place_stop, pass_on, passes_end}
use Rattle.report_form.proofs.Parts.{before_next, between_next, first_cut, first_net, whole_on, opened_on, net_stop}
use Rattle.report_form.proofs.Parts.{kept_more, nets_kept_more, cut_on, total_on, total_stop, end_stop}

-- ---- bytes that are gone
line_shorter : (x r text : List ℕ) → text ≡ line x ++ r → length r < length text
line_shorter x r text e =
    let size = ap length e in
    omega (arith, size, length-append (line x) r, length-append x (codes "\n"))

pub one_shorter : (word a r text : List ℕ) → HasOne word a r text → length r < length text
one_shorter word a r text h = line_shorter (word ++ a) r text (one_line word a r text h)

pub item_shorter : (r text : List ℕ) → ItemAt r text → length r < length text
item_shorter r text h =
    let item = h.item in
    line_shorter (codes "by " ++ kind_word item.0 ++ item.1) r text h.has.is

pub run_shorter : (run : ReadRun) (r text : List ℕ) → RunAt run r text → length r < length text
run_shorter run r text h =
    let t = h.told in
    line_shorter (codes "run " ++ t.level ++ codes " " ++ t.row ++ codes " " ++ t.first ++ codes " " ++ t.last) r text
    h.has.is

pub pass_shorter : (k : ℕ) (r text : List ℕ) → PassAt k r text → length r < length text
pass_shorter k r text h =
    line_shorter (codes "pass " ++ decimal k ++ codes " commits " ++ h.a ++ codes " open " ++ h.b) r text h.has.is

no_bytes : (xs : List ℕ) → length xs ≡ 0 → xs ≡ []
no_bytes [] e = refl
no_bytes (x ∷ xs) e = absurd (omega (arith, e))

-- ---- places
pub places_start : (p : Page) (h : Told) (rest : List ℕ) → At p (Dropping h []) rest → PlacesFirst p h 0 rest
places_start p h rest at = record { places = []; at = at; count_is = refl }

pub places_on : (p : Page) (h : Told) (count : ℕ) (w rest r : List ℕ) → IsPage p → PlacesFirst p h count rest
    → count < value h.dropped → HasOne (codes "drop ") w r rest → PlacesFirst p h (count + 1) r
places_on p h count w rest r page read less one =
    let e = read.count_is in record {
      places = read.places ++ w ∷ [];
      at = place_on p h read.places w rest r page read.at (omega (arith, less, e)) one;
      count_is = omega (arith, e, length_push read.places w);
    }

pub places_stop : (p : Page) (h : Told) (count : ℕ) (rest : List ℕ) → PlacesFirst p h count rest
    → count < value h.dropped → ((w r : List ℕ) → HasOne (codes "drop ") w r rest → ⊥) → IsStopped p rest
places_stop p h count rest read less none =
    let e = read.count_is in place_stop p h read.places rest read.at (omega (arith, less, e)) none

-- a count that was reached isn't capped
pub reached : (count n bytes : ℕ) (w : List ℕ) → count ≡ capped (2 ^ 64 - 1) w → count ≤ bytes → bytes < 2 ^ 64 - 1
    → count ≡ value w
reached count n bytes w e less few = omega (arith, e, less, few)

pub capped_below : (k : ℕ) (w : List ℕ) → k < capped (2 ^ 64 - 1) w → k < value w
capped_below k w less = omega (arith, less)

pub places_all : (p : Page) (h : Told) (count : ℕ) (rest : List ℕ) → PlacesFirst p h count rest
    → count ≡ value h.dropped → PlacesRead p h rest
places_all p h count rest read e =
    record { places = read.places; at = read.at; all = sym read.count_is ∙ e }

-- ---- passes
pub passes_start : (p : Page) (h : Told) (rest : List ℕ) → At p (Passing h []) rest → PassesRead p h 0 rest
passes_start p h rest at = record { passes = []; at = at; count_is = refl }

pub passes_on : (p : Page) (h : Told) (count : ℕ) (rest r : List ℕ) → IsPage p → PassesRead p h count rest
    → PassAt (count + 1) r rest → PassesRead p h (count + 1) r
passes_on p h count rest r page read found = pass_on p h count found.a found.b rest r page read found.has

-- at the end of the text there is no pass
pub passes_over : (p : Page) (h : Told) (count : ℕ) (rest : List ℕ) → PassesRead p h count rest → length rest ≡ 0
    → AllPassesRead p h count rest
passes_over p h count rest read none = passes_end p h count rest read (λ a b r has.
    let less = pass_shorter (count + 1) r rest (record { a = a; b = b; has = has }) in omega (arith, less, none))

-- ---- lines of items
pub items_start : (p : Page) (h : Told) (ns : List NetTold) (w : List ℕ) (cs : List CutTold) (c : CutTold)
    (rest : List ℕ) → At p (Parts h ns w cs c) rest → IsEarly c → ItemsRead p h ns w cs c rest
items_start p h ns w cs c rest at early =
    record { cut = c; same = record { pin = refl; reached = refl; blocked = refl }; early = early; at = at }

pub items_all : (p : Page) (h : Told) (ns : List NetTold) (w : List ℕ) (cs : List CutTold) (c : CutTold)
    (rest : List ℕ) → ItemsRead p h ns w cs c rest
    → ((item : Kind × List ℕ) (r : List ℕ) → HasItem item r rest → ⊥) → AllItemsRead p h ns w cs c rest
items_all p h ns w cs c rest read none = record { items = read; none = none }

pub items_over : (p : Page) (h : Told) (ns : List NetTold) (w : List ℕ) (cs : List CutTold) (c : CutTold)
    (rest : List ℕ) → ItemsRead p h ns w cs c rest → length rest ≡ 0 → AllItemsRead p h ns w cs c rest
items_over p h ns w cs c rest read empty = record {
  items = read;
  none = λ item r has.
      let less = item_shorter r rest (record { item = item; has = has }) in omega (arith, less, empty);
}

-- ---- stretches
pub runs_over : (p : Page) (h : Told) (ns : List NetTold) (w : List ℕ) (cs : List CutTold) (c : CutTold)
    (runs : List ReadRun) (rest : List ℕ) → RunsRead p h ns w cs c runs rest → length rest ≡ 0
    → RunsReadTo p h ns w cs c runs rest
runs_over p h ns w cs c runs rest read empty = record { read = read; no_run = none rest empty }
  where
    none : (rest : List ℕ) → length rest ≡ 0 → IsHead 114 rest → ⊥
    none [] e h = h
    none (b ∷ bs) e h = omega (arith, e)

-- ---- a whole cut
pub cut_from_line : (p : Page) (h : Told) (ns : List NetTold) (w : List ℕ) (cs : List CutTold) (named : Bool)
    (reached blocked : ℕ) (rest text : List ℕ) → IsPage p → IsBeforeCut p h ns w cs text → length cs < value w
    → (line : IsCutAt (slice_get (firsts_after p.firsts ns) (length cs)) named reached blocked rest text)
    → At p (Parts h ns w cs (bare line.pin line.a line.b)) rest
cut_from_line p h ns w cs named reached blocked rest text page before less line =
    cut_on p h ns w cs line.pin line.a line.b text rest page before less line.has

pub cut_read : (p : Page) (h : Told) (ns : List NetTold) (w : List ℕ) (cs : List CutTold) (named : Bool)
    (reached blocked : ℕ) (left text rest : List ℕ) (k : ReadCut)
    → (line : IsCutAt (slice_get (firsts_after p.firsts ns) (length cs)) named reached blocked left text)
    → RunsReadTo p h ns w cs (bare line.pin line.a line.b) k.runs rest → k.named ≡ named → k.reached ≡ reached
    → k.blocked ≡ blocked → MostRead p h ns w cs k rest
cut_read p h ns w cs named reached blocked left text rest k line parts a b c =
    let read = parts.read in record {
      cut = read.cut;
      kept = record {
        named = (
          λ e. line.named_is.0 (sym a ∙ e) ∙ ap (λ (x : List ℕ). Some x) (sym read.same.pin),
          λ e. a ∙ line.named_is.1 (e ∙ ap (λ (x : List ℕ). Some x) read.same.pin),
        );
        reached = b ∙ line.reached_is ∙ ap (capped (2 ^ 64 - 1)) (sym read.same.reached);
        blocked = c ∙ line.blocked_is ∙ ap (capped (2 ^ 64 - 1)) (sym read.same.blocked);
        runs = read.runs_are;
      };
      at = read.at;
      no_wide = read.no_wide;
      no_blocker = read.head;
      no_run = parts.no_run;
    }

-- ---- cuts of a net
pub cuts_start : (p : Page) (h : Told) (ns : List NetTold) (w rest : List ℕ) (told : Option Bool)
    → At p (Opened h ns w) rest → IsSoFar ns [] told → CutsRead p h ns w 0 [] told rest
cuts_start p h ns w rest told at so = record {
  cuts = [];
  told_is = so;
  count_is = refl;
  kept = kept_none (firsts_after p.firsts ns);
  before = λ less. first_cut p h ns w rest at;
  full = λ e. absurd (let many = at.good.many in omega (arith, many, e));
}
  where
    kept_none : (own : List (List ℕ)) → AreCutsKept own [] []
    kept_none own = tt

pub cuts_on : (p : Page) (h : Told) (ns : List NetTold) (w : List ℕ) (count : ℕ) (ks : List ReadCut) (k : ReadCut)
    (told : Option Bool) (wide : Bool) (text rest : List ℕ) → (read : CutsRead p h ns w count ks told text)
    → CutRead p h ns w read.cuts k wide rest → CutsRead p h ns w (count + 1) (ks ++ k ∷ []) (Some wide) rest
cuts_on p h ns w count ks k told wide text rest read cut =
    let e = read.count_is in record {
      cuts = read.cuts ++ cut.cut ∷ [];
      told_is = so_far_on ns read.cuts cut.cut wide cut.may cut.wide_is;
      count_is = omega (arith, e, length_push read.cuts cut.cut);
      kept = kept_more (firsts_after p.firsts ns) read.cuts ks cut.cut k read.kept cut.kept;
      before = before_next p h ns w read.cuts k wide rest cut;
      full = between_next p h ns w read.cuts k wide rest cut;
    }

pub cuts_all : (p : Page) (h : Told) (ns : List NetTold) (w : List ℕ) (count : ℕ) (ks : List ReadCut)
    (told : Option Bool) (rest : List ℕ) → CutsRead p h ns w count ks told rest → count ≡ value w
    → OpenRead p h ns w ks told rest
cuts_all p h ns w count ks told rest read e =
    let full = sym read.count_is ∙ e in record {
      cuts = read.cuts;
      told_is = read.told_is;
      full = full;
      kept = read.kept;
      between = read.full full;
    }

-- ---- nets
pub nets_start : (p : Page) (h : Told) (rest : List ℕ) → At p (Netting h []) rest → NetsRead p h 0 [] None rest
nets_start p h rest at = record {
  nets = [];
  told_is = refl;
  count_is = refl;
  kept = kept_none p.firsts;
  between = first_net p h [] rest at;
}
  where
    kept_none : (firsts : List (List (List ℕ))) → AreNetsKept firsts [] []
    kept_none firsts = tt

here_name : (p : Page) (ns : List NetTold) (count : ℕ) (net : Net) (own : List (List ℕ)) → count ≡ length ns
    → NetHere p count net own → name_after p.design ns ≡ net.name
here_name p ns count net own e here =
    ap (λ (k : ℕ). name_of (slice_get p.design.nets k)) (sym e) ∙ ap name_of here.net_is

pub here_firsts : (p : Page) (ns : List NetTold) (count : ℕ) (net : Net) (own : List (List ℕ)) → count ≡ length ns
    → NetHere p count net own → own ≡ firsts_after p.firsts ns
here_firsts p ns count net own e here =
    sym (ap (λ (k : ℕ). own_firsts (slice_get p.firsts k)) (sym e) ∙ ap own_firsts here.own_is)

here_below : (p : Page) (ns : List NetTold) (count : ℕ) (net : Net) (own : List (List ℕ)) → count ≡ length ns
    → NetHere p count net own → length ns < length p.design.nets
here_below p ns count net own e here =
    let less = slice_get_within p.design.nets count net here.net_is in omega (arith, less, e)

pub net_whole : (p : Page) (h : Told) (count : ℕ) (net : Net) (own : List (List ℕ)) (ks : List (List ReadCut))
    (told : Option Bool) (text rest : List ℕ) → IsPage p → NetsRead p h count ks told text → NetHere p count net own
    → HasWhole net.name rest text → NetsRead p h (count + 1) (ks ++ [] ∷ []) told rest
net_whole p h count net own ks told text rest page read here has =
    let e = read.count_is in record {
      nets = read.nets ++ whole ∷ [];
      told_is = so_far_net read.nets whole told read.told_is;
      count_is = omega (arith, e, length_push read.nets whole);
      kept = nets_kept_more p.firsts read.nets ks whole [] own read.kept
          (ap (λ (k : ℕ). slice_get p.firsts k) (sym e) ∙ here.own_is) (kept_none own);
      between = whole_on p h read.nets net.name text rest page read.between
          (here_below p read.nets count net own e here) (here_name p read.nets count net own e here) has;
    }
  where
    kept_none : (own : List (List ℕ)) → AreCutsKept own [] []
    kept_none own = tt

pub net_opened : (p : Page) (h : Told) (count islands : ℕ) (net : Net) (own : List (List ℕ))
    (ks : List (List ReadCut)) (told : Option Bool) (text rest : List ℕ) → IsPage p
    → (read : NetsRead p h count ks told text) → NetHere p count net own
    → (found : OpenedAt net.name islands rest text) → At p (Opened h read.nets found.islands) rest
net_opened p h count islands net own ks told text rest page read here found =
    let e = read.count_is in
    opened_on p h read.nets net.name found.islands text rest page read.between
    (here_below p read.nets count net own e here) (here_name p read.nets count net own e here) found.has

pub net_filled : (p : Page) (h : Told) (count : ℕ) (net : Net) (own : List (List ℕ)) (ks : List (List ReadCut))
    (w : List ℕ) (cuts : List ReadCut) (told new : Option Bool) (text rest : List ℕ)
    → (read : NetsRead p h count ks told text) → NetHere p count net own → OpenRead p h read.nets w cuts new rest
    → NetsRead p h (count + 1) (ks ++ cuts ∷ []) new rest
net_filled p h count net own ks w cuts told new text rest read here open_ =
    let e = read.count_is in record {
      nets = read.nets ++ opened w open_.cuts ∷ [];
      told_is = so_far_net read.nets (opened w open_.cuts) new open_.told_is;
      count_is = omega (arith, e, length_push read.nets (opened w open_.cuts));
      kept = nets_kept_more p.firsts read.nets ks (opened w open_.cuts) cuts own read.kept
          (ap (λ (k : ℕ). slice_get p.firsts k) (sym e) ∙ here.own_is)
          (subst (λ (x : List (List ℕ)). AreCutsKept x open_.cuts cuts)
          (sym (here_firsts p read.nets count net own e here)) open_.kept);
      between = open_.between;
    }

pub net_unreadable : (p : Page) (h : Told) (count : ℕ) (net : Net) (own : List (List ℕ)) (ks : List (List ReadCut))
    (told : Option Bool) (text : List ℕ) → NetsRead p h count ks told text → NetHere p count net own
    → HasNoNetLine net.name text → IsStopped p text
net_unreadable p h count net own ks told text read here none =
    let e = read.count_is in
    net_stop p h read.nets net.name text read.between (here_below p read.nets count net own e here)
    (here_name p read.nets count net own e here) none

-- ---- the end
end_at : (p : Page) (h : Told) (ks : List (List ReadCut)) (told : Option Bool) (text left : List ℕ) → IsPage p
    → (read : NetsRead p h (length p.design.nets) ks told text) → text ≡ total_line read.nets ++ left
    → At p (Ended (record h { nets = read.nets })) left
end_at p h ks told text left page read e = total_on p h read.nets text left page read.between (sym read.count_is) e

pub end_read : (p : Page) (h : Told) (ks : List (List ReadCut)) (told : Option Bool) (text left : List ℕ) → IsPage p
    → (read : NetsRead p h (length p.design.nets) ks told text) → text ≡ total_line read.nets ++ left
    → (length left == 0) ≡ true → WholeRead p ks
end_read p h ks told text left page read e none = record {
  told = record h { nets = read.nets };
  at = subst (λ (x : List ℕ). At p (Ended (record h { nets = read.nets })) x)
      (no_bytes left (eqb-true (length left) 0 none)) (end_at p h ks told text left page read e);
  kept = read.kept;
}

pub end_over : (p : Page) (h : Told) (ks : List (List ReadCut)) (told : Option Bool) (text left : List ℕ) → IsPage p
    → (read : NetsRead p h (length p.design.nets) ks told text) → text ≡ total_line read.nets ++ left
    → (length left == 0) ≡ false → IsStopped p left
end_over p h ks told text left page read e some =
    end_stop p (record h { nets = read.nets }) left (end_at p h ks told text left page read e)
    (λ f. both_ways (length left == 0) some (ap (λ (x : List ℕ). length x == 0) f))

pub end_none : (p : Page) (h : Told) (ks : List (List ReadCut)) (told : Option Bool) (text : List ℕ)
    → (read : NetsRead p h (length p.design.nets) ks told text)
    → ((r : List ℕ) → text ≡ total_line read.nets ++ r → ⊥) → IsStopped p text
end_none p h ks told text read none = total_stop p h read.nets text read.between (sym read.count_is) none

-- ---- bytes of a cut's line
pub cut_shorter : (first : Option (List ℕ)) (named : Bool) (reached blocked : ℕ) (r text : List ℕ)
    → IsCutAt first named reached blocked r text → length r < length text
cut_shorter first named reached blocked r text h =
    line_shorter (codes "cut " ++ spelled h.pin ++ codes " reached " ++ h.a ++ codes " blocked " ++ h.b) r text h.has.is

-- ---- pages
pub page_of : (p : Page) (d : Design) (firsts : List (List (List ℕ))) → p.design ≡ d → p.firsts ≡ firsts
    → length firsts ≡ length d.nets → IsPage p
page_of p d firsts e f same = record {
  same = ap length f ∙ same ∙ ap (λ (x : Design). length x.nets) (sym e);
}

-- ---- results
-- a cut, from its own line and what is behind it
pub cut_says : (p : Page) (h : Told) (ns : List NetTold) (w : List ℕ) (cs : List CutTold) (first : Option (List ℕ))
    (line : CutLine) (text : List ℕ) (o : Result CutAt Halt) → IsPage p → IsBeforeCut p h ns w cs text
    → length cs < value w → first ≡ slice_get (firsts_after p.firsts ns) (length cs)
    → IsCutAt first line.named line.reached line.blocked line.rest.now text
    → ((c : CutTold) → At p (Parts h ns w cs c) line.rest.now → IsEarly c
    → MatchResult o (PartsAt p h ns w cs c line) (IsHalted p))
    → MatchResult o (λ x. MostRead p h ns w cs x.cut x.rest.now) (IsHalted p)
cut_says p h ns w cs first line text o page before less e found behind =
    let own = subst (λ (f : Option (List ℕ)). IsCutAt f line.named line.reached line.blocked line.rest.now text)
    e found in
    let c = bare own.pin own.a own.b in
    let at = cut_from_line p h ns w cs line.named line.reached line.blocked line.rest.now text page before less own in
    match_both o (PartsAt p h ns w cs c line) (λ x. MostRead p h ns w cs x.cut x.rest.now) (IsHalted p)
    (λ x parts. cut_read p h ns w cs line.named line.reached line.blocked line.rest.now text x.rest.now x.cut own
    parts.parts parts.named parts.reached parts.blocked)
    (behind c at (record { inside = refl; no_run = refl; no_wide = refl }))

-- a cut more
pub cuts_step : (p : Page) (h : Told) (ns : List NetTold) (w : List ℕ) (count : ℕ) (ks new : List ReadCut)
    (k : ReadCut) (told : Option Bool) (wide : Bool) (text rest : List ℕ) (firsts : List (List ℕ))
    (first : Option (List ℕ)) → CutsRead p h ns w count ks told text → count < value w
    → firsts ≡ firsts_after p.firsts ns → first ≡ slice_get firsts count
    → ((cs : List CutTold) → IsBeforeCut p h ns w cs text → length cs < value w → IsSoFar ns cs told
    → first ≡ slice_get (firsts_after p.firsts ns) (length cs) → CutRead p h ns w cs k wide rest) → new ≡ ks ++ k ∷ []
    → CutsRead p h ns w (count + 1) new (Some wide) rest
cuts_step p h ns w count ks new k told wide text rest firsts first read less own e behind is =
    let n = read.count_is in
    let below : length read.cuts < value w = omega (arith, n, less) in
    let cut = behind read.cuts (read.before below) below read.told_is
    (e ∙ ap (λ (f : List (List ℕ)). slice_get f count) own
    ∙ ap (λ (i : ℕ). slice_get (firsts_after p.firsts ns) i) n) in
    subst (λ (l : List ReadCut). CutsRead p h ns w (count + 1) l (Some wide) rest) (sym is)
    (cuts_on p h ns w count ks k told wide text rest read cut)

pub cuts_halt : (p : Page) (h : Told) (ns : List NetTold) (w : List ℕ) (count : ℕ) (ks : List ReadCut)
    (told : Option Bool) (text : List ℕ) (firsts : List (List ℕ)) (first : Option (List ℕ)) (halt : Halt)
    → CutsRead p h ns w count ks told text → count < value w → firsts ≡ firsts_after p.firsts ns
    → first ≡ slice_get firsts count
    → ((cs : List CutTold) → IsBeforeCut p h ns w cs text → length cs < value w → IsSoFar ns cs told
    → first ≡ slice_get (firsts_after p.firsts ns) (length cs) → IsHalted p halt) → IsHalted p halt
cuts_halt p h ns w count ks told text firsts first halt read less own e behind =
    let n = read.count_is in
    let below : length read.cuts < value w = omega (arith, n, less) in
    behind read.cuts (read.before below) below read.told_is
    (e ∙ ap (λ (f : List (List ℕ)). slice_get f count) own
    ∙ ap (λ (i : ℕ). slice_get (firsts_after p.firsts ns) i) n)

-- a net of several islands
pub open_says : (p : Page) (h : Told) (count islands : ℕ) (net : Net) (own : List (List ℕ))
    (old new : List (List ReadCut)) (told : Option Bool) (text next : List ℕ) (o : Result NetAt Halt) → IsPage p
    → NetsRead p h count old told text → NetHere p count net own → OpenedAt net.name islands next text
    → ((ns : List NetTold) (w : List ℕ) → At p (Opened h ns w) next → IsSoFar ns [] told
    → islands ≡ capped (2 ^ 64 - 1) w → own ≡ firsts_after p.firsts ns
    → MatchResult o (λ x. CutsAdded p h ns w old new x.told x.rest.now) (IsHalted p))
    → MatchResult o (λ x. NetsRead p h (count + 1) new x.told x.rest.now) (IsHalted p)
open_says p h count islands net own old new told text next o page read here found behind =
    let at = net_opened p h count islands net own old told text next page read here found in
    match_both o (λ x. CutsAdded p h read.nets found.islands old new x.told x.rest.now)
    (λ x. NetsRead p h (count + 1) new x.told x.rest.now) (IsHalted p)
    (λ x added. subst (λ (l : List (List ReadCut)). NetsRead p h (count + 1) l x.told x.rest.now) (sym added.is)
    (net_filled p h count net own old found.islands added.cuts told x.told text x.rest.now read here added.read))
    (behind read.nets found.islands at read.told_is found.count_is
    (here_firsts p read.nets count net own read.count_is here))

-- the net of a loop over nets and the names of first pins
pub here_from : (p : Page) (d : Design) (firsts : List (List (List ℕ))) (nets : List Net) (i : ℕ) (net : Net)
    (own : List (List ℕ)) → p.design ≡ d → p.firsts ≡ firsts → nets ≡ d.nets → i < length nets
    → net ≡ get_or nets i net → length firsts ≡ length d.nets → own ≡ get_or firsts i own → NetHere p i net own
here_from p d firsts nets i net own e f g less net_is same own_is =
    let within : i < length firsts = omega (arith, less, same, ap length g) in record {
      net_is = ap (λ (x : Design). slice_get x.nets i) e ∙ ap (λ (x : List Net). slice_get x i) (sym g)
          ∙ slice_get_read nets (length nets) i net refl less net_is;
      own_is = ap (λ (x : List (List (List ℕ))). slice_get x i) f
          ∙ slice_get_read firsts (length firsts) i own refl within own_is;
    }

pub each_start : (p : Page) (h : Told) (ks : List (List ReadCut)) (text : List ℕ) → ks ≡ [] → At p (Netting h []) text
    → NetsRead p h 0 ks None text
each_start p h ks text e at =
    subst (λ (x : List (List ReadCut)). NetsRead p h 0 x None text) (sym e) (nets_start p h text at)
