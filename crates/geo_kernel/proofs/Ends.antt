-- What the vertices of a spine have, the ends of its segments have.
use Rattle.std.proofs.Common.{List, [], ◌∷◌, flat_map, All}
use Rattle.std.proofs.lemmas.List.Elements.{All-nil, All-cons, All-head, All-tail, All-append}
use Rattle.geo_kernel.specs.declared.point.Point.{Point}
use Rattle.geo_kernel.specs.declared.spine.Spine.{Spine}
use Rattle.geo_kernel.specs.declared.spine.Spine.TheVariants.{Chain, Area}
use Rattle.geo_kernel.specs.Spine.{Segment, links, last_of, chain_segments, loop_segments, area_segments}
use Rattle.geo_kernel.specs.Spine.{spine_segments, vertices, outline}
use Rattle.geo_kernel.proofs.Paths.{All-append_first, All-append_second}

module _ (Q : Point → Type 0) where
  abbrev pub Ends : Segment → Type 0
  Ends g = Q g.from × Q g.to

  pub last_has : (q : Point) (qs : List Point) → All Q (q ∷ qs) → Q (last_of q qs)
  last_has q [] h = All-head Q q [] h
  last_has q (r ∷ rs) h = last_has r rs (All-tail Q q (r ∷ rs) h)

  links_have : (u : Point) (vs : List Point) → Q u → All Q vs → All Ends (links u vs)
  links_have u [] h k = All-nil Ends
  links_have u (v ∷ vs) h k = let w = All-head Q v vs k in
      All-cons Ends (record { from = u; to = v }) (links v vs) (h, w) (links_have v vs w (All-tail Q v vs k))

  chain_have : (ps : List Point) → All Q ps → All Ends (chain_segments ps)
  chain_have [] h = All-nil Ends
  chain_have (p ∷ []) h = links_have p (p ∷ []) (All-head Q p [] h) h
  chain_have (p ∷ q ∷ qs) h = links_have p (q ∷ qs) (All-head Q p (q ∷ qs) h) (All-tail Q p (q ∷ qs) h)

  loop_have : (ps : List Point) → All Q ps → All Ends (loop_segments ps)
  loop_have [] h = All-nil Ends
  loop_have (p ∷ ps) h = links_have (last_of p ps) (p ∷ ps) (last_has p ps h) h

  area_have : (ls : List (List Point)) → All Q (flat_map (λ l. l) ls) → All Ends (area_segments ls)
  area_have [] h = All-nil Ends
  area_have (l ∷ ls) h =
      All-append Ends (loop_segments l) (area_segments ls) (loop_have l (All-append_first Q l (flat_map (λ x. x) ls) h))
      (area_have ls (All-append_second Q l (flat_map (λ x. x) ls) h))

  pub segments_have : (s : Spine) → All Q (vertices s) → All Ends (spine_segments s)
  segments_have (Chain ps) h = chain_have ps h
  segments_have (Area ls) h = area_have ls h

  pub outline_has : (s : Spine) → All Q (vertices s) → All Q (outline s)
  outline_has (Chain ps) h = h
  outline_has (Area []) h = h
  outline_has (Area (l ∷ ls)) h = All-append_first Q l (flat_map (λ x. x) ls) h
