-- The candidate is taken where its test holds; its vertices then are small.
use native.Mathlib.Omega.{arith}
use mathlib.Core.Path.{refl}
use Rattle.strip.proofs.Laws.Sides.{sides_narrow, sides_short}
use Rattle.strip_pairs.proofs.Pairing.{taken-low, pick_taken, pick_omitted}
use Rattle.strip_pairs.proofs.standard.picked.Goals as goal

pub sites_of-c-requires : goal.sites_of-c-requires
sites_of-c-requires c = (c.requires.0.wide, sides_narrow c.requires.0, c.requires.0.long, sides_short c.requires.0, c.requires.1)

pub overflow_mul-u : goal.overflow_mul-u
overflow_mul-u c = omega (arith, (taken-low c.requires.0 c.sites_of-c.result c.if-c-inside.true).one)

pub overflow_add-u : goal.overflow_add-u
overflow_add-u c = omega (arith, (taken-low c.requires.0 c.sites_of-c.result c.if-c-inside.true).one)

pub overflow_mul-v : goal.overflow_mul-v
overflow_mul-v c = omega (arith, (taken-low c.requires.0 c.sites_of-c.result c.if-c-inside.true).other)

pub overflow_add-v : goal.overflow_add-v
overflow_add-v c = omega (arith, (taken-low c.requires.0 c.sites_of-c.result c.if-c-inside.true).other)

pub returns-then-c-inside : goal.returns-then-c-inside
returns-then-c-inside c = pick_taken _ _ _ c.sites_of-c.result c.sites_of-c.ensures c.if-c-inside.true _ _ refl refl

pub returns : goal.returns
returns c = pick_omitted _ _ _ c.sites_of-c.result c.sites_of-c.ensures c.if-c-inside.false
