-- Laws of what specs/Rule defines.
use Rattle.std.specs.Prelude.{◌≡◌, ℕ, ◌+◌, ◌*◌, Float}
use Rattle.step_tables.specs.Rule.{backward_rule}
use Rattle.two_steps_backward.specs.Rule.{end_twice}

-- entries that are the same give the same
pub backward-same : (x y : Float) (p q v p' q' v' : ℕ → Float) (k k' : ℕ) → p k ≡ p' k' → q k ≡ q' k' → v (2 * k) ≡ v' (2 * k')
    → v (2 * k + 1) ≡ v' (2 * k' + 1) → backward_rule x y p q v k ≡ backward_rule x y p' q' v' k'
unfolding backward_rule
backward-same x y p q v p' q' v' k k' ep eq ev ew = rw (ep, eq, ev, ew)

pub end_same : (x y z u : Float) (p q e f v p' q' e' f' v' : ℕ → Float) (k k' : ℕ) → p k ≡ p' k' → q k ≡ q' k'
    → backward_rule z u e f v (2 * k) ≡ backward_rule z u e' f' v' (2 * k') → backward_rule z u e f v (2 * k + 1) ≡ backward_rule z u e' f' v' (2 * k' + 1)
    → end_twice x y z u p q e f v k ≡ end_twice x y z u p' q' e' f' v' k'
unfolding end_twice
end_same x y z u p q e f v p' q' e' f' v' k k' ep eq ev ew = rw (ep, eq, ev, ew)
