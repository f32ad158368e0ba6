use Rattle.std.proofs.Common.{◌≡◌, ◌-ℤ◌, ◌≤◌, ◌^◌, ◌∙◌, ℤ, unsigned_abs, ap₂, subst, sym, arith}
use Rattle.std.proofs.lemmas.Int.{ints}
use Rattle.geo_kernel.proofs.Bounds.{seen, unseen}
use Rattle.move_maps.proofs.cover.around.Goals as goal

-- the code's difference of two coordinates is their difference
difference : (a b : ℤ) → unsigned_abs a ≤ 2 ^ 29 → unsigned_abs b ≤ 2 ^ 29 → seen (seen a -ℤ seen b) ≡ a -ℤ b
difference a b h k =
    ap₂ (λ y z. seen (y -ℤ z)) (unseen a (omega arith)) (unseen b (omega arith))
    ∙ unseen (a -ℤ b) (omega (arith, ints, h, k))

-- and no larger than 2^30
short : (a b r : ℤ) → unsigned_abs a ≤ 2 ^ 29 → unsigned_abs b ≤ 2 ^ 29 → r ≡ a -ℤ b → unsigned_abs r ≤ 2 ^ 30
short a b r h k e = subst (λ z. unsigned_abs z ≤ 2 ^ 30) (sym e) (by a b h k)
  where
    by : (a b : ℤ) → unsigned_abs a ≤ 2 ^ 29 → unsigned_abs b ≤ 2 ^ 29 → unsigned_abs (a -ℤ b) ≤ 2 ^ 30
    by a b h k = omega (arith, ints, h, k)

pub overflow_sub-result : goal.overflow_sub-result
overflow_sub-result c = omega (arith, ints, c.requires.item.x0_within, c.requires.stack.x1_within)

pub overflow_sub-result-2 : goal.overflow_sub-result-2
overflow_sub-result-2 c = omega (arith, ints, c.requires.item.y0_within, c.requires.stack.y1_within)

pub overflow_sub-result-3 : goal.overflow_sub-result-3
overflow_sub-result-3 c = omega (arith, ints, c.requires.item.x1_within, c.requires.stack.x0_within)

pub overflow_sub-result-4 : goal.overflow_sub-result-4
overflow_sub-result-4 c = omega (arith, ints, c.requires.item.y1_within, c.requires.stack.y0_within)

pub returns-clause-x0 : goal.returns-clause-x0
returns-clause-x0 c = difference c.args.item.x0 c.args.stack.x1 c.requires.item.x0_within c.requires.stack.x1_within

pub returns-clause-y0 : goal.returns-clause-y0
returns-clause-y0 c = difference c.args.item.y0 c.args.stack.y1 c.requires.item.y0_within c.requires.stack.y1_within

pub returns-clause-x1 : goal.returns-clause-x1
returns-clause-x1 c = difference c.args.item.x1 c.args.stack.x0 c.requires.item.x1_within c.requires.stack.x0_within

pub returns-clause-y1 : goal.returns-clause-y1
returns-clause-y1 c = difference c.args.item.y1 c.args.stack.y0 c.requires.item.y1_within c.requires.stack.y0_within

pub returns-clause-within : goal.returns-clause-within
returns-clause-within c =
    let r = c.args.item in let e = c.args.stack in let h = c.requires.item in let k = c.requires.stack in
    record {
      x0_within = short r.x0 e.x1 _ h.x0_within k.x1_within (difference r.x0 e.x1 h.x0_within k.x1_within);
      y0_within = short r.y0 e.y1 _ h.y0_within k.y1_within (difference r.y0 e.y1 h.y0_within k.y1_within);
      x1_within = short r.x1 e.x0 _ h.x1_within k.x0_within (difference r.x1 e.x0 h.x1_within k.x0_within);
      y1_within = short r.y1 e.y0 _ h.y1_within k.y0_within (difference r.y1 e.y0 h.y1_within k.y0_within);
    }
