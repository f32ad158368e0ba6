-- Planes that are read without a refusal are planes of the design.
use Rattle.std.proofs.Common.{◌≡◌, ℕ, suc, ◌<◌, ◌≤◌, ◌+◌, ◌^◌, ◌%◌, ◌/◌, ◌==◌, arith, refl, sym, subst, List}
use Rattle.std.proofs.Common.{[], ◌∷◌, length, Bool, true, false, cond, Option, Some, None, All, flat_map, map}
use Rattle.std.specs.Prelude.{slice_get, option_and_then, IfSome, IfOk, Result, Ok, Err}
use Rattle.std.specs.List.{position_from}
use Rattle.std.specs.Str.{bytes_eq}
use Rattle.std.specs.Option.{IsSomeAnd, option_map, option_map_or, option_to_list}
use Rattle.std.proofs.lemmas.List.Elements.{All-nil, All-cons, All-append, All-head, All-tail}
use Rattle.geo_kernel.specs.declared.point.Point.{Point}
use Rattle.geo_kernel.specs.declared.spine.Spine.{Spine}
use Rattle.geo_kernel.specs.declared.spine.Spine.TheVariants.{Chain, Area}
use Rattle.geo_kernel.specs.Plane.{IsWithin}
use Rattle.geo_kernel.specs.Spine.{IsSpineWithin, IsWellFormed}
use Rattle.pcb_model.specs.declared.design.BoardLayer.{BoardLayer}
use Rattle.pcb_model.specs.declared.design.Net.{Net}
use Rattle.pcb_model.specs.declared.design.Design.{Design}
use Rattle.pcb_model.specs.Sound.{IsSound}
use Rattle.dsn_tree.specs.declared.tree.Tree.{Tree}
use Rattle.dsn_tree.specs.declared.fault.TreeFault.{TreeFault}
use Rattle.dsn_tree.specs.declared.fault.TreeFault.TheVariants as fault
use Rattle.dsn_tree.specs.Trees.{HasFault, HasTree, OneAnswer, Unless}
use Rattle.dsn_shapes.specs.declared.parts.Layer.{Layer}
use Rattle.dsn_shapes.specs.declared.parts.LayerShape.{LayerShape}
use Rattle.dsn_shapes.specs.declared.refusal.ReadFault.{ReadFault}
use Rattle.dsn_shapes.specs.declared.refusal.ReadFault.TheVariants.{Refused, Memory}
use Rattle.dsn_shapes.specs.Fits.{IsShapeFit}
use Rattle.dsn_shapes.specs.Lists.{name_of}
use Rattle.dsn_shapes.specs.Names.{first_place, place_index}
use Rattle.dsn_shapes.specs.Refusals.{Reads, least}
use Rattle.dsn_shapes.specs.Shapes.{shape_of, shape_refusals}
use Rattle.dsn_shapes.proofs.Fits.{each_nil, none_left, shape_fit}
use Rattle.plane_joins.specs.declared.area.PlaneArea.{PlaneArea}
use Rattle.plane_joins.specs.Planes.{IsPlaneOf, IsPower}
use Rattle.plane_joins.specs.inner.Wanting.{IsWanting}
use Rattle.plane_joins.specs.Reading.{area_on, area_shape_in, areas_of, layers_in, loop_in, names_in, net_named}
use Rattle.plane_joins.specs.Reading.{plane_lists}
use Rattle.plane_joins.specs.Reading.{plane_of, plane_refusals, planes_of, planes_refusals, power_from}

if_some : {X : Type 0} (P Q : X → Type 0) → ((x : X) → P x → Q x) → (o : Option X) → IfSome o P → IfSome o Q
if_some P Q f None h = tt
if_some P Q f (Some x) h = f x h

-- ---- the layer
record IsPowerAt (i : ℕ) (ls : List BoardLayer) (k : ℕ) : Type 0 where
  place : ℕ
  is : k ≡ i + place
  power : IsSomeAnd (slice_get ls place) (λ (l : BoardLayer). l.power ≡ true)

power_at : (i : ℕ) (ls : List BoardLayer) (mask : ℕ) → IfSome (power_from i ls mask) (IsPowerAt i ls)
power_at i [] mask = tt
power_at i (l ∷ ls) mask =
    pick (mask == 1) (mask % 2 == 1) l.power refl (power_from (i + 1) ls (mask / 2))
    (if_some (IsPowerAt (i + 1) ls) (IsPowerAt i (l ∷ ls))
    (λ k h. record { place = suc h.place; is = let e = h.is in omega (arith, e); power = h.power })
    (power_from (i + 1) ls (mask / 2)) (power_at (i + 1) ls (mask / 2)))
  where
    pick : (a b p : Bool) → p ≡ l.power → (rest : Option ℕ) → IfSome rest (IsPowerAt i (l ∷ ls))
        → IfSome (cond a (cond p (Some i) None) (cond b None rest)) (IsPowerAt i (l ∷ ls))
    pick true b true e rest h = record { place = 0; is = omega arith; power = sym e }
    pick true b false e rest h = tt
    pick false true p e rest h = tt
    pick false false p e rest h = h

power_of : (d : Design) (mask : ℕ) → IfSome (power_from 0 d.layers mask) (IsPower d)
power_of d mask =
    if_some (IsPowerAt 0 d.layers) (IsPower d)
    (λ k h. subst (IsPower d) (let e = h.is in by k h.place e) h.power) (power_from 0 d.layers mask)
    (power_at 0 d.layers mask)
  where
    by : (k j : ℕ) → k ≡ 0 + j → j ≡ k
    by k j e = omega (arith, e)

-- ---- the net
place_within : (name : List ℕ) (i : ℕ) (names : List (List ℕ))
    → IfSome (position_from (λ n. bytes_eq n name) i names) (λ k. k < i + length names)
place_within name i [] = tt
place_within name i (n ∷ names) =
    pick (bytes_eq n name) (position_from (λ m. bytes_eq m name) (i + 1) names)
    (if_some (λ k. k < i + 1 + length names) (λ k. k < i + length (n ∷ names)) (λ k h. omega (arith, h))
    (position_from (λ m. bytes_eq m name) (i + 1) names) (place_within name (i + 1) names))
  where
    pick : (b : Bool) (rest : Option ℕ) → IfSome rest (λ k. k < i + length (n ∷ names))
        → IfSome (cond b (Some i) rest) (λ k. k < i + length (n ∷ names))
    pick true rest h = omega arith
    pick false rest h = h

length-names : (nets : List Net) → length (map (λ (n : Net). n.name) nets) ≡ length nets
length-names [] = refl
length-names (n ∷ ns) = let e = length-names ns in omega (arith, e)

net_within : (d : Design) (name : List ℕ) → IfSome (net_named (names_in d) name) (λ k. k < length d.nets)
unfolding first_place
net_within d name = mapped (position_from (λ n. bytes_eq n name) 0 (names_in d)) (place_within name 0 (names_in d))
  where
    mapped : (o : Option ℕ) → IfSome o (λ k. k < 0 + length (names_in d))
        → IfSome (option_map place_index o) (λ k. k < length d.nets)
    mapped None h = tt
    mapped (Some k) h = let e = length-names d.nets in omega (arith, h, e)

-- ---- one plane
module _ (d : Design) (net : ℕ) (there : net < length d.nets) where
  on_layer : (layer width : ℕ) → IsPower d layer → width ≤ 2 ^ 28 → (spine : Spine) → IsWellFormed spine
      → IsSpineWithin (2 ^ 29) spine → All (IsPlaneOf d)
      (option_to_list (option_map (λ rim. record { net = net; layer = layer; rim = rim; width = width })
      (loop_in spine)))
  on_layer layer width power w (Chain ps) formed within = All-nil (IsPlaneOf d)
  on_layer layer width power w (Area []) formed within = All-nil (IsPlaneOf d)
  on_layer layer width power w (Area (rim ∷ [])) formed within =
      All-cons (IsPlaneOf d) (record { net = net; layer = layer; rim = rim; width = width }) [] (record {
        net_there = there;
        on_power = power;
        some = All-head (λ (loop : List Point). 3 ≤ length loop) rim [] formed.1;
        within = All-head (All (IsWithin (2 ^ 29))) rim [] within;
        width_within = w;
      }) (All-nil (IsPlaneOf d))
  on_layer layer width power w (Area (rim ∷ more ∷ rest)) formed within = All-nil (IsPlaneOf d)

  area_sound : (s : LayerShape) → IsShapeFit s → All (IsPlaneOf d) (option_to_list (area_on d net s))
  area_sound s fit = by (power_from 0 d.layers s.layers) (power_of d s.layers)
    where
      by : (o : Option ℕ) → IfSome o (IsPower d) → All (IsPlaneOf d)
          (option_to_list (option_and_then (λ layer. option_map
          (λ rim. record { net = net; layer = layer; rim = rim; width = s.width }) (loop_in s.spine)) o))
      by None h = All-nil (IsPlaneOf d)
      by (Some layer) h = on_layer layer s.width h fit.width_within s.spine fit.well_formed fit.within

module _ (nm : ℕ) (d : Design) (layers : List Layer) where
  with_net : (s : Tree) (n : Option ℕ) → IfSome n (λ k. k < length d.nets)
      → option_map_or (λ (net : ℕ). shape_refusals nm layers s) n [] ≡ []
      → All (IsPlaneOf d) (option_to_list (option_and_then (λ net. area_on d net (shape_of nm layers s)) n))
  with_net s None h e = All-nil (IsPlaneOf d)
  with_net s (Some net) h e = area_sound d net h (shape_of nm layers s) (shape_fit nm layers s e)

  with_shape : (n : Option ℕ) → IfSome n (λ k. k < length d.nets) → (o : Option Tree)
      → option_map_or (λ s. option_map_or (λ (net : ℕ). shape_refusals nm layers s) n []) o [] ≡ []
      → All (IsPlaneOf d) (option_to_list (option_and_then (λ s. option_and_then (λ net.
      area_on d net (shape_of nm layers s)) n) o))
  with_shape n h None e = All-nil (IsPlaneOf d)
  with_shape n h (Some s) e = with_net s n h e

  plane_sound : (t : Tree) → plane_refusals nm layers (names_in d) t ≡ []
      → All (IsPlaneOf d) (areas_of nm layers (names_in d) d t)
  unfolding plane_refusals plane_of
  plane_sound t e = with_shape (net_named (names_in d) (name_of t 1)) (net_within d (name_of t 1)) (area_shape_in t) e

  each_sound : (ts : List Tree) → All (λ t. plane_refusals nm layers (names_in d) t ≡ []) ts
      → All (IsPlaneOf d) (flat_map (areas_of nm layers (names_in d) d) ts)
  each_sound [] h = All-nil (IsPlaneOf d)
  each_sound (t ∷ ts) h =
      let P : Tree → Type 0 = λ u. plane_refusals nm layers (names_in d) u ≡ [] in
      All-append (IsPlaneOf d) (areas_of nm layers (names_in d) d t) (flat_map (areas_of nm layers (names_in d) d) ts)
      (plane_sound t (All-head P t ts h)) (each_sound ts (All-tail P t ts h))

-- ---- all planes
planes_sound : (nm : ℕ) (d : Design) (pcb : Tree) → least (planes_refusals nm d pcb) ≡ None
    → All (IsPlaneOf d) (planes_of nm d pcb)
unfolding planes_refusals planes_of
planes_sound nm d pcb e =
    each_sound nm d (layers_in d) (plane_lists pcb)
    (each_nil (plane_refusals nm (layers_in d) (names_in d)) (plane_lists pcb)
    (none_left (flat_map (plane_refusals nm (layers_in d) (names_in d)) (plane_lists pcb)) e))

pub read_sound : (nm : ℕ) (d : Design) (pcb : Tree) → IsSound d → (r : Result (List PlaneArea) ReadFault)
    → Reads (planes_refusals nm d pcb) (λ v. v ≡ planes_of nm d pcb) r → IfOk r (All (IsPlaneOf d))
read_sound nm d pcb s (Ok v) h = subst (All (IsPlaneOf d)) (sym h.1) (planes_sound nm d pcb h.0)
read_sound nm d pcb s (Err (Refused r)) h = tt
read_sound nm d pcb s (Err (Memory e)) h = tt

-- ---- a text that has a tree has no fault
pub wanting_only : (text : List ℕ) (t : Tree) (f : TreeFault) → OneAnswer → HasTree text t → Unless f (HasFault text f)
    → IsWanting f
wanting_only text t (fault.Memory e) one is h = tt
wanting_only text t (fault.QuoteOpen at) one is h = one.apart text t (fault.QuoteOpen at) is h
wanting_only text t (fault.BadQuoteByte at) one is h = one.apart text t (fault.BadQuoteByte at) is h
wanting_only text t (fault.Unclosed at) one is h = one.apart text t (fault.Unclosed at) is h
wanting_only text t (fault.Surplus at) one is h = one.apart text t (fault.Surplus at) is h
wanting_only text t (fault.TooDeep at) one is h = one.apart text t (fault.TooDeep at) is h
wanting_only text t fault.Empty one is h = one.apart text t fault.Empty is h
