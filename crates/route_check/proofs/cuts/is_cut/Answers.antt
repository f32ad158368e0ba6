use Rattle.std.proofs.Common.{◌≡◌, ◌∙◌, ◌^◌, ◌≤◌, List, None, Option, Some, ap, arith, length, map, subst}
use Rattle.std.proofs.lemmas.Bool.{OnFalse_from, OnTrue_from}
use Rattle.cut_certificate.proofs.Each.{unless}
use Rattle.cut_check.specs.Sizes.{IsSized}
use Rattle.cut_check.specs.declared.cut.CutSize.{CutSize}
use Rattle.cut_check.specs.declared.stretch.Stretch.{Stretch}
use Rattle.route_check.specs.inner.Kept.{IsKeptFalse, IsKeptTrue, stretch_of}
use Rattle.route_check.proofs.Cutting.{kept_true, not_named, not_shut, not_sized}
use Rattle.route_check.proofs.cuts.is_cut.Goals as goal

pub returns-then-not-cut-clause-blank : goal.returns-then-not-cut-clause-blank
returns-then-not-cut-clause-blank g c = c.requires.blank

pub returns-then-not-cut-clause-no : goal.returns-then-not-cut-clause-no
returns-then-not-cut-clause-no g c =
    let on = c.args.on.now in
    not_named on.d on.lat on.items c.args.own.now.islands.now c.args.k c.args.cut.now c.if-not-cut.true

pub cut_size-requires-clause-anchored : goal.cut_size-requires-clause-anchored
cut_size-requires-clause-anchored g c = c.requires.anchored

pub cut_size-requires-clause-nets : goal.cut_size-requires-clause-nets
cut_size-requires-clause-nets g c = c.requires.nets

pub cut_size-requires-clause-place : goal.cut_size-requires-clause-place
cut_size-requires-clause-place g c = c.requires.place

pub cut_size-requires-clause-blank : goal.cut_size-requires-clause-blank
cut_size-requires-clause-blank g c = c.requires.blank

pub returns-in-None-clause-blank : goal.returns-in-None-clause-blank
returns-in-None-clause-blank g c = c.in_ok-cut_size.ensures.blank

pub returns-in-None-clause-no : goal.returns-in-None-clause-no
returns-in-None-clause-no g c =
    let on = c.args.on.now in
    let own = c.args.own.now.islands.now in
    let k = c.args.k in
    let cut = c.args.cut.now in
    let fits = c.keeps.ensures.fits in
    let levels : length on.lat.layers ≤ 2 ^ 24 = omega (arith, fits.few_layers) in
    let laid : c.deref.result.now ≡ map stretch_of cut.runs =
    c.deref.ensures.value ∙ c.in_ok-runs.ensures ∙ ap (map stretch_of) c.as_slice.ensures in
    not_shut on.lat fits.few_nodes levels on.d on.items own k cut
    (subst (λ (ss : List Stretch). IsSized on.d on.lat on.items own k ss None) laid
    (subst (λ (o : Option CutSize). IsSized on.d on.lat on.items own k c.deref.result.now o) c.in-None.is
    c.in_ok-cut_size.ensures.sized))

pub returns-clause-blank : goal.returns-clause-blank
returns-clause-blank g c = c.in_ok-cut_size.ensures.blank

pub returns-clause-yes : goal.returns-clause-yes
returns-clause-yes g c =
    let on = c.args.on.now in
    let own = c.args.own.now.islands.now in
    let k = c.args.k in
    let cut = c.args.cut.now in
    let size = c.in-Some.size in
    let fits = c.keeps.ensures.fits in
    let levels : length on.lat.layers ≤ 2 ^ 24 = omega (arith, fits.few_layers) in
    let laid : c.deref.result.now ≡ map stretch_of cut.runs =
    c.deref.ensures.value ∙ c.in_ok-runs.ensures ∙ ap (map stretch_of) c.as_slice.ensures in
    OnTrue_from c.is_size.result (IsKeptTrue on.d on.lat on.items own k cut)
    (λ e. kept_true on.lat fits.few_nodes levels on.d on.items own k cut size c.if-not-cut.false
    (subst (λ (ss : List Stretch). IsSized on.d on.lat on.items own k ss (Some size)) laid
    (subst (λ (o : Option CutSize). IsSized on.d on.lat on.items own k c.deref.result.now o) c.in-Some.is
    c.in_ok-cut_size.ensures.sized)) (c.is_size.ensures.0 e))

pub returns-clause-no : goal.returns-clause-no
returns-clause-no g c =
    let on = c.args.on.now in
    let own = c.args.own.now.islands.now in
    let k = c.args.k in
    let cut = c.args.cut.now in
    let size = c.in-Some.size in
    let fits = c.keeps.ensures.fits in
    let levels : length on.lat.layers ≤ 2 ^ 24 = omega (arith, fits.few_layers) in
    let laid : c.deref.result.now ≡ map stretch_of cut.runs =
    c.deref.ensures.value ∙ c.in_ok-runs.ensures ∙ ap (map stretch_of) c.as_slice.ensures in
    OnFalse_from c.is_size.result (IsKeptFalse on.d on.lat on.items own k cut)
    (λ e. not_sized on.lat fits.few_nodes levels on.d on.items own k cut size
    (c.sizes_are_one.ensures.nodes on.lat (map stretch_of cut.runs)) (c.sizes_are_one.ensures.counts on.d on.lat)
    (subst (λ (ss : List Stretch). IsSized on.d on.lat on.items own k ss (Some size)) laid
    (subst (λ (o : Option CutSize). IsSized on.d on.lat on.items own k c.deref.result.now o) c.in-Some.is
    c.in_ok-cut_size.ensures.sized))
    (unless c.is_size.result ((size.reached ≡ cut.reached) × (size.blocked ≡ cut.blocked)) c.is_size.ensures e))
