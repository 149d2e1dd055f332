-- What a step's tables are made of: the left edge's two factors and the weights of the near edges.
use Rattle.std.specs.Prelude.{◌≡◌, refl, Bool, List, ℕ, zero, suc, ◌+◌, ◌-◌, get_or, Float}
use Rattle.std.proofs.Math.Option.{Option, none, some}
use Rattle.std.proofs.Common.{arith}
use Rattle.std.specs.Float.{binary64}
use Rattle.std.specs.Float.Ieee.{div, round}
use Rattle.transfer_matrix.specs.Rounded.{ieee}
use Rattle.transfer_matrix.specs.Sweep as S
use Rattle.step_tables.specs.Step.{near_edges, left_edge, step_from, pattern_from, tables, Filled, Tabled}

near-pattern : (x : List Float) (bits : List ℕ) (i n k : ℕ) → pattern_from bits i n k ≡ S.pattern (near_edges x bits i n) k
unfolding near_edges pattern_from S.pattern
near-pattern x bits i zero k = refl
near-pattern x bits i (suc n) k =
    let e : get_or bits i 0 + 1 - 1 ≡ get_or bits i 0 = omega arith in
    rw (near-pattern x bits (suc i) n k, e) (omega arith)

-- 1.0 over 1.0 is 1.0
minus-of : (o : Option Float) → div binary64 ieee.𝟙 (S.ep ieee o) ≡ S.em ieee o
unfolding S.ep S.em div round
minus-of none = refl
minus-of (some y) = refl

-- they are the step's
pub tabled : (there : Bool) (left ep sc : Float) (x : List Float) (bits : List ℕ) (count : ℕ) (up down : List Float)
    → ep ≡ S.ep ieee (left_edge there left) → Filled (near_edges x bits 0 count) sc count up down
    → Tabled (step_from there left x bits count) sc (tables count ep (div binary64 ieee.𝟙 ep) bits up down)
tabled there left ep sc x bits count up down p g =
    record {
      plus = p;
      minus = rw p (minus-of (left_edge there left));
      picks = near-pattern x bits 0 count;
      ups = g.ups;
      downs = g.downs;
    }
