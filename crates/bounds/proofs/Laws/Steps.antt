-- One step of a sweep, each operation rounded: entries stay under entries, and a finite vector came from a finite one.
use Rattle.std.specs.Prelude.{◌≡◌, Bool, true, false, not, cond, List, [], ◌∷◌, ℕ, suc, ◌+◌, ◌*◌, ◌-◌, ◌/◌, ◌%◌, ◌^◌, ◌≤◌, ◌<◌, T, eqb, ltb, Float}
use Rattle.std.proofs.Common.{ap, ◌∙◌, arith, ltb→lt, nltb→le}
use Rattle.std.proofs.Math.Nat.{pow-succ'}
use Rattle.std.proofs.Math.ListN.{get_or-eq_default}
use Rattle.std.specs.Float.Ieee.{binary64, add, mul, lt}
use Rattle.std.specs.Float.Ieee.Scale.{finite}
use Rattle.rounding.proofs.Laws.Sign.{cond_not_minus, add_finite, mul_finite}
use Rattle.rounding.specs.Laws.Sign.{not_minus}
use Rattle.rounding.proofs.Laws.Sums.{Each}
use Rattle.rounding.specs.Under.{nought, unit}
use Rattle.rounding.proofs.Laws.Under.{under_refl, cond_under, add_under, mul_under}
use Rattle.rounding.specs.Laws.Under.{Under}
use Rattle.list_laws.specs.Bits.{bit}
use Rattle.list_laws.specs.Tabulate.{tabulate}
use Rattle.list_laws.proofs.Laws.Tabulate.{tabulate-at, tabulate-length}
use Rattle.transfer_matrix.specs.Job.{Step, Manner, block, per_element}
use Rattle.transfer_matrix.specs.Rounded.{ieee}
use Rattle.transfer_matrix.specs.Sweep.{pattern, ep, em, up, down, at, forward_at, forward_step, backward_at, backward_step, start, largest, stored}
use Rattle.bounds.proofs.Laws.Factors.{StepNotMinus}

-- Every entry of g is under that of v, and past the end zero under zero. `Beneath v v` says that no entry of v has a minus sign.
abbrev pub Beneath : List Float → List Float → Type 0
Beneath g v = (j : ℕ) → Under (at ieee g j) (at ieee v j)

-- Any entry, also past the end.
pub tabulate-entry : (f : ℕ → Float) (n j : ℕ) → at ieee (tabulate f n) j ≡ cond (ltb j n) (f j) nought
tabulate-entry f n j = go (ltb j n) (ltb→lt j n) (nltb→le j n)
  where
    go : (b : Bool) → (T b → j < n) → (T (not b) → n ≤ j) → at ieee (tabulate f n) j ≡ cond b (f j) nought
    go true l g = tabulate-at f n j nought (l tt)
    go false l g = get_or-eq_default (tabulate f n) nought (rw tabulate-length (g tt))

tabulate_beneath : (g v : ℕ → Float) (n : ℕ) → ((j : ℕ) → Under (g j) (v j)) → Beneath (tabulate g n) (tabulate v n)
tabulate_beneath g v n h j = rw (tabulate-entry g n j, tabulate-entry v n j) (cond_under (ltb j n) (h j) (under_refl nought tt))

pub start_beneath : (w : ℕ) → Beneath (start ieee w) (start ieee w)
unfolding start
start_beneath w = tabulate_beneath (λ j. unit) (λ j. unit) (2 ^ w) (λ j. under_refl unit tt)

module _ (w : ℕ) (s : Step Float) (sc : Float) (fair : StepNotMinus s sc) (g v : List Float) (h : Beneath g v) where
  forward_at-under : (j : ℕ) → Under (forward_at ieee w s sc (at ieee g) j) (forward_at ieee w s sc (at ieee v) j)
  unfolding forward_at
  forward_at-under j =
      let k = j / 2 in
      let m = pattern s.others k in
      let a = h k in
      let b = h (2 ^ (w - 1) + k) in
      cond_under (bit 0 j)
      (mul_under binary64 (add_under binary64 (mul_under binary64 fair.minus a) (mul_under binary64 fair.plus b)) (fair.spin_down m))
      (mul_under binary64 (add_under binary64 (mul_under binary64 fair.plus a) (mul_under binary64 fair.minus b)) (fair.spin_up m))

  pub forward_step_beneath : Beneath (forward_step ieee w s sc g) (forward_step ieee w s sc v)
  unfolding forward_step
  forward_step_beneath = tabulate_beneath (forward_at ieee w s sc (at ieee g)) (forward_at ieee w s sc (at ieee v)) (2 ^ w) forward_at-under

  backward_at-under : (j : ℕ) → Under (backward_at ieee w s sc (at ieee g) j) (backward_at ieee w s sc (at ieee v) j)
  unfolding backward_at
  backward_at-under j =
      let k = j % 2 ^ (w - 1) in
      let m = pattern s.others k in
      let x = mul_under binary64 (h (2 * k)) (fair.spin_up m) in
      let y = mul_under binary64 (h (2 * k + 1)) (fair.spin_down m) in
      cond_under (ltb j (2 ^ (w - 1)))
      (add_under binary64 (mul_under binary64 fair.plus x) (mul_under binary64 fair.minus y))
      (add_under binary64 (mul_under binary64 fair.minus x) (mul_under binary64 fair.plus y))

  pub backward_step_beneath : Beneath (backward_step ieee w s sc g) (backward_step ieee w s sc v)
  unfolding backward_step
  backward_step_beneath = tabulate_beneath (backward_at ieee w s sc (at ieee g)) (backward_at ieee w s sc (at ieee v)) (2 ^ w) backward_at-under

largest-not_minus : (m : Float) (v : List Float) → T (not_minus m) → Beneath v v → T (not_minus (largest ieee m v))
unfolding largest
largest-not_minus m [] p h = p
largest-not_minus m (x ∷ v) p h = largest-not_minus (cond (lt m x) x m) v (cond_not_minus (lt m x) x m (h 0).sign p) (λ j. h (suc j))

pub stored-not_minus : (a : Manner) (r t : ℕ) (v : List Float) → Beneath v v → T (not_minus (stored ieee a r t v))
unfolding stored
stored-not_minus per_element r t v h = largest-not_minus nought v tt h
stored-not_minus block r t v h = cond_not_minus (eqb (t % 4) r) (largest ieee nought v) unit (largest-not_minus nought v tt h) tt

-- ---- what is not finite stays so
-- Every entry of v, of 2 ^ w, is finite.
abbrev pub Finite : ℕ → List Float → Type 0
Finite w v = Each (2 ^ w) (λ j. T (finite (at ieee v j)))

cond_finite : {Q : Type 0} (b : Bool) (x y : Float) → (T (finite x) → Q) → (T (finite y) → Q) → T (finite (cond b x y)) → Q
cond_finite true x y p q h = p h
cond_finite false x y p q h = q h

-- A finite forward entry is made of finite ones.
entry-finite : (p q u a b : Float) → T (finite (mul binary64 (add binary64 (mul binary64 p a) (mul binary64 q b)) u))
    → T (finite a) × T (finite b)
entry-finite p q u a b h =
    let x = mul binary64 p a in
    let y = mul binary64 q b in
    let m = mul_finite binary64 (add binary64 x y) u h in
    let s = add_finite binary64 x y m.0 in
    ((mul_finite binary64 p a s.0).1, (mul_finite binary64 q b s.1).1)

forward_at-finite : (w : ℕ) (s : Step Float) (sc : Float) (v : ℕ → Float) (j : ℕ) → T (finite (forward_at ieee w s sc v j))
    → T (finite (v (j / 2))) × T (finite (v (2 ^ (w - 1) + j / 2)))
unfolding forward_at
forward_at-finite w s sc v j =
    let m = pattern s.others (j / 2) in
    let a = v (j / 2) in
    let b = v (2 ^ (w - 1) + j / 2) in
    let p = ep ieee s.left in
    let q = em ieee s.left in
    let u = up ieee s.others sc m in
    let d = down ieee s.others sc m in
    cond_finite (bit 0 j)
    (mul binary64 (add binary64 (mul binary64 q a) (mul binary64 p b)) d) (mul binary64 (add binary64 (mul binary64 p a) (mul binary64 q b)) u)
    (entry-finite q p d a b) (entry-finite p q u a b)

halves : (w : ℕ) → 1 ≤ w → 2 ^ w ≡ 2 * 2 ^ (w - 1)
halves w h = let e : w ≡ suc (w - 1) = omega arith in ap (λ x. 2 ^ x) e ∙ pow-succ' 2 (w - 1)

-- Entry 2k of a forward step reads entries k and 2 ^ (w - 1) + k, so all of them are read.
pub forward_step-finite : (w : ℕ) (s : Step Float) (sc : Float) (v : List Float) → 1 ≤ w → Finite w (forward_step ieee w s sc v) → Finite w v
unfolding forward_step
forward_step-finite w s sc v l h j b = go (ltb j half) (ltb→lt j half) (nltb→le j half)
  where
    half : ℕ
    half = 2 ^ (w - 1)

    read : (k : ℕ) → k < half → T (finite (at ieee v k)) × T (finite (at ieee v (half + k)))
    read k a =
        let c : 2 * k < 2 ^ w = omega (arith, halves w l) in
        let e : 2 * k / 2 ≡ k = omega arith in
        let made = tabulate-at (forward_at ieee w s sc (at ieee v)) (2 ^ w) (2 * k) nought c in
        rw e at (forward_at-finite w s sc (at ieee v) (2 * k) (rw made at (h (2 * k) c)))

    go : (c : Bool) → (T c → j < half) → (T (not c) → half ≤ j) → T (finite (at ieee v j))
    go true a n = (read j (a tt)).0
    go false a n =
        let g = n tt in
        let e : half + (j - half) ≡ j = omega arith in
        rw e at (read (j - half) (omega (arith, halves w l))).1
