-- A finite vector after a backward step came from a finite one: its lower half alone has every entry.
use Rattle.std.specs.Prelude.{◌≡◌, List, ℕ, zero, suc, ◌+◌, ◌*◌, ◌-◌, ◌/◌, ◌%◌, ◌^◌, ◌≤◌, ◌<◌, T, Float}
use Rattle.std.proofs.Common.{◌∙◌, subst, mod-eq_of_lt, arith, lt-ltb}
use Rattle.std.specs.Float.{binary64}
use Rattle.std.specs.Float.Ieee.{add, mul}
use Rattle.std.specs.Float.Ieee.Scale.{finite}
use Rattle.rounding.proofs.Laws.Sign.{add_finite, mul_finite}
use Rattle.list_laws.proofs.Laws.Power.{pow_double}
use Rattle.transfer_matrix.specs.Job.{Step}
use Rattle.transfer_matrix.specs.Rounded.{ieee}
use Rattle.transfer_matrix.specs.Sweep.{at, backward_at, backward_step, ep, em}
use Rattle.exactness.proofs.Laws.Entries as E
use Rattle.bounds.proofs.Laws.Steps.{Finite}

entry-finite : (p q x y : Float) → T (finite (add binary64 (mul binary64 p x) (mul binary64 q y))) → T (finite x) × T (finite y)
entry-finite p q x y h =
    let s = add_finite binary64 (mul binary64 p x) (mul binary64 q y) h in
    ((mul_finite binary64 p x s.0).1, (mul_finite binary64 q y s.1).1)

-- The vector before a backward step is finite where the one after it is.
pub backward_step-finite : (w : ℕ) (s : Step Float) (sc : Float) (v : List Float) → 1 ≤ w → Finite w (backward_step ieee w s sc v) → Finite w v
unfolding backward_at
backward_step-finite w s sc v W h j l = go (j % 2) (j / 2) (omega arith) (omega arith)
  where
    half : ℕ
    half = 2 ^ (w - 1)

    both : (k : ℕ) → k < half → T (finite (at ieee v (2 * k))) × T (finite (at ieee v (2 * k + 1)))
    both k b =
        let c : k < 2 ^ w = omega (arith, pow_double w W) in
        let made = E.backward-at ieee s sc w v k c in
        let low = E.backward-low ieee s sc w (at ieee v) k k (mod-eq_of_lt b) (lt-ltb k half b) in
        let f = entry-finite (ep ieee s.left) (em ieee s.left) (mul binary64 (at ieee v (2 * k)) (E.up_at ieee s sc k))
        (mul binary64 (at ieee v (2 * k + 1)) (E.down_at ieee s sc k)) (subst (λ (x : Float). T (finite x)) (made ∙ low) (h k c)) in
        ((mul_finite binary64 (at ieee v (2 * k)) (E.up_at ieee s sc k) f.0).0, (mul_finite binary64 (at ieee v (2 * k + 1)) (E.down_at ieee s sc k) f.1).0)

    go : (r k : ℕ) → j ≡ 2 * k + r → r ≤ 1 → T (finite (at ieee v j))
    go zero k e m = let i : 2 * k ≡ j = omega arith in subst (λ (n : ℕ). T (finite (at ieee v n))) i (both k (omega (arith, pow_double w W))).0
    go (suc zero) k e m = let i : 2 * k + 1 ≡ j = omega arith in subst (λ (n : ℕ). T (finite (at ieee v n))) i (both k (omega (arith, pow_double w W))).1
    go (suc (suc r)) k e m = absurd (omega arith)
