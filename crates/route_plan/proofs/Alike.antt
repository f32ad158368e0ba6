-- What a search answers over the same moves is the same.
use Rattle.std.proofs.Common.{ℕ, ◌<◌, Bool, true, false, List, Result, Ok, Err, sym, subst}
use Rattle.std.proofs.lemmas.List.Elements.{All-weaker}
use Rattle.std.specs.Prelude.{IfOk}
use Rattle.std.specs.Bool.{OnTrue}
use Rattle.route_lattice.specs.Walks.{MoveGraph, IsWalk, NoneLeads, Answers}
use Rattle.route_lattice.specs.declared.moves.Walk.{Walk}
use Rattle.route_lattice.specs.declared.moves.Found.{Found}
use Rattle.route_lattice.specs.declared.moves.Found.TheVariants as found
use Rattle.wave_search.specs.Bounds.{IsBound}
use Rattle.wave_search.specs.Stated.{AnswersStated}
use Rattle.cut_certificate.specs.declared.cut.Cut.{Cut}
use Rattle.cut_certificate.specs.Past.{IsCutPast, IsMoveIn}
use Rattle.cut_certificate.specs.Same.{SameMoves}
use Rattle.cut_certificate.specs.Backwards.{HasMoveTo, IsMutual}
use Rattle.std.proofs.Common.{◌∙◌}
use Rattle.cut_certificate.proofs.Same.{flipped, opens_same, leads_same, reach_same}

module _ (a b : MoveGraph) (s : SameMoves a b) where
  -- a walk
  pub walk_same : (starts goals : List ℕ) (w : Walk) → IsWalk a starts goals w → IsWalk b starts goals w
  walk_same starts goals w h = record {
    from = h.from;
    hops = h.hops;
    to = h.to;
    starts_in = h.starts_in;
    ends_in = h.ends_in;
    leads = leads_same a b s h.hops h.from h.to h.leads;
    nodes = h.nodes;
    moves = h.moves;
    price = h.price;
  }

  -- no walk leads on
  none_same : (starts goals : List ℕ) → NoneLeads a starts goals → NoneLeads b starts goals
  none_same starts goals none v hs g x y p = none v hs g x y (leads_same b a (flipped a b s) hs v g p)

  -- what a search answers
  pub answers_same : (starts goals : List ℕ) (f : Found) → Answers a starts goals f → Answers b starts goals f
  answers_same starts goals (found.Walk w) h = record {
    walk = walk_same starts goals w h.walk;
    least = λ v hs g x y p. h.least v hs g x y (leads_same b a (flipped a b s) hs v g p);
    small = h.small;
  }
  answers_same starts goals (found.Closed r) h =
      (none_same starts goals h.0, reach_same a b s starts r.nodes h.1)

  -- a test that none does, where memory may be wanting
  pub shut_same : {E : Type 0} (starts goals : List ℕ) (r : Result Bool E)
      → IfOk r (λ shut. OnTrue shut (NoneLeads a starts goals))
      → IfOk r (λ shut. OnTrue shut (NoneLeads b starts goals))
  shut_same starts goals (Ok true) h = none_same starts goals h
  shut_same starts goals (Ok false) h = h
  shut_same starts goals (Err e) h = h

  -- a search, where memory may be wanting
  pub ok_same : {E : Type 0} (starts goals : List ℕ) (r : Result Found E) → IfOk r (Answers a starts goals)
      → IfOk r (Answers b starts goals)
  ok_same starts goals (Ok f) h = answers_same starts goals f h
  ok_same starts goals (Err e) h = h

  -- the stated walk
  stated_same : (starts goals : List ℕ) (f : Found) → AnswersStated a starts goals f → AnswersStated b starts goals f
  unfolding walk_same
  stated_same starts goals (found.Walk w) h = record {
    walk = walk_same starts goals w h.walk;
    first = λ v hs g x y p. h.first v hs g x y (leads_same b a (flipped a b s) hs v g p);
    small = h.small;
  }
  stated_same starts goals (found.Closed r) h =
      (none_same starts goals h.0, reach_same a b s starts r.nodes h.1)

  pub ok_stated : {E : Type 0} (starts goals : List ℕ) (r : Result Found E) → IfOk r (AnswersStated a starts goals)
      → IfOk r (AnswersStated b starts goals)
  ok_stated starts goals (Ok f) h = stated_same starts goals f h
  ok_stated starts goals (Err e) h = h

  -- a bound
  pub bound_same : (goals : List ℕ) (low : ℕ → ℕ) → IsBound a goals low → IsBound b goals low
  bound_same goals low h = record {
    limit = λ node x. h.limit node (subst (λ n. node < n) (sym s.count) x);
    at_goals = h.at_goals;
    falls = λ node hop x o.
        h.falls node hop (subst (λ n. node < n) (sym s.count) x) (opens_same b a (flipped a b s) node hop o);
  }

  -- where moves lead back
  pub mutual_same : IsMutual b → IsMutual a
  mutual_same h node i m to x k e =
      let way : HasMoveTo b to node = h node i m to (subst (λ n. node < n) s.count x)
      (subst (λ n. i < n) s.arity k) (sym (s.leads node i) ∙ e) in
      record {
        index = way.index;
        move = way.move;
        listed = subst (λ n. way.index < n) (sym s.arity) way.listed;
        leads = s.leads to way.index ∙ way.leads;
      }

  -- a cut past an item
  pub past_same : (cut : Cut) (id : ℕ) → IsCutPast b cut id → IsCutPast a cut id
  past_same cut id past = record {
    ascends = past.ascends;
    there = All-weaker (IsMoveIn b) (IsMoveIn a) (λ block is. record {
      node_there = subst (λ n. block.node < n) (sym s.count) is.node_there;
      index_there = subst (λ n. block.index < n) (sym s.arity) is.index_there;
    }) cut.blocked past.there;
    leads = λ node hop c o. past.leads node hop c (opens_same a b s node hop o);
  }
