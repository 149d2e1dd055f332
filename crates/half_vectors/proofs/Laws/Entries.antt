-- Laws of what specs/Entries defines.
use Rattle.std.specs.Prelude.{◌≡◌, ℕ, ◌+◌, ◌*◌, ◌-◌, ◌/◌, ◌%◌, ◌^◌, ◌<◌, Float}
use Rattle.std.proofs.Math.Nat.{mod-eq_of_lt}
use native.Mathlib.Omega.{arith}
use Rattle.std.proofs.Math.Pow as Pow
use Rattle.std.proofs.Common.{lt-ltb, le-ltb}
use Rattle.transfer_matrix.specs.Job.{Step}
use Rattle.transfer_matrix.specs.Rounded.{ieee}
use Rattle.transfer_matrix.specs.Sweep as S
use Rattle.half_vectors.specs.Entries.{ups, downs, blend, mix}

-- in the window w, with the scale sc, from the entries v
module _ (w : ℕ) (s : Step Float) (sc : Float) (v : ℕ → Float) where
  abbrev half : ℕ
  half = 2 ^ (w - 1)

  -- entries 2 k and 2 k + 1 of the forward step
  abbrev pub evens : ℕ → Float
  evens k = blend (S.ep ieee s.left) (S.em ieee s.left) (ups s sc k) (v k) (v (half + k))

  abbrev pub odds : ℕ → Float
  odds k = blend (S.em ieee s.left) (S.ep ieee s.left) (downs s sc k) (v k) (v (half + k))

  pub forward_even : (j k : ℕ) → j ≡ 2 * k → S.forward_at ieee w s sc v j ≡ evens k
  unfolding S.forward_at
  forward_even j k h =
      let r : j / 1 % 2 ≡ 0 = omega arith in
      let q : j / 2 ≡ k = omega arith in
      rw (r, q)

  pub forward-odd : (j k : ℕ) → j ≡ 2 * k + 1 → S.forward_at ieee w s sc v j ≡ odds k
  unfolding S.forward_at
  forward-odd j k h =
      let r : j / 1 % 2 ≡ 1 = omega arith in
      let q : j / 2 ≡ k = omega arith in
      rw (r, q)

  -- entries k and 2 ^ (w - 1) + k of the backward step
  abbrev pub lower : ℕ → Float
  lower k = mix (S.ep ieee s.left) (S.em ieee s.left) (ups s sc k) (downs s sc k) (v (2 * k)) (v (2 * k + 1))

  abbrev pub upper : ℕ → Float
  upper k = mix (S.em ieee s.left) (S.ep ieee s.left) (ups s sc k) (downs s sc k) (v (2 * k)) (v (2 * k + 1))

  pub backward-low : (j : ℕ) → j < half → S.backward_at ieee w s sc v j ≡ lower j
  unfolding S.backward_at
  backward-low j b = rw (lt-ltb j half b, mod-eq_of_lt {n = j} {m = half} b)

  pub backward-high : (j k : ℕ) → j ≡ half + k → k < half → S.backward_at ieee w s sc v j ≡ upper k
  unfolding S.backward_at
  backward-high j k h b =
      let g : j ≡ 1 * half + k = omega arith in
      let e : j % half ≡ k = rw g (Pow.low 1 (w - 1) b) in
      rw (le-ltb j half (omega arith), e)
