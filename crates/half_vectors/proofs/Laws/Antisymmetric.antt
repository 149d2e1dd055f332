-- Laws of what specs/Antisymmetric defines.
use Rattle.std.specs.Prelude.{◌≡◌, refl, Bool, true, false, cond, not, List, ℕ, ◌+◌, ◌*◌, ◌-◌, ◌/◌, ◌%◌, ◌^◌, ◌≤◌, ◌<◌, Float}
use Rattle.std.proofs.Common.{sym, ◌∙◌, arith}
use Rattle.std.proofs.Math.Logic.{dite}
use Rattle.std.proofs.Math.Decide.{dec_lt}
use Rattle.std.specs.Float.{binary64}
use Rattle.std.specs.Float.Ieee.{neg, add, mul}
use Rattle.list_laws.specs.Bits.{bit}
use Rattle.list_laws.proofs.Laws.Power.{pow_double}
use Rattle.list_laws.proofs.Laws.Tabulate.{tabulate-at}
use Rattle.transfer_matrix.specs.Job.{Step}
use Rattle.transfer_matrix.specs.Rounded.{ieee}
use Rattle.transfer_matrix.specs.Sweep as S
use Rattle.rounding.proofs.Laws.Commute.{sum_commutes}
use Rattle.half_vectors.proofs.Laws.Flip.{Below, bit_flips, up_flips, down_flips}
use Rattle.half_vectors.specs.Entries as E
use Rattle.half_vectors.proofs.Laws.Entries as ELaws
use Rattle.half_vectors.specs.Entries.{blend}
use Rattle.rounding.proofs.Laws.Negation.{neg_neg, neg_first, neg_second}
use Rattle.rounding.specs.Alike.{Alike, same}
use Rattle.rounding.proofs.Laws.Alike.{alike_is, alike_sym, alike_trans, alike_mul, alike_add, add_negated}
use Rattle.half_vectors.specs.Half.{forward_half}
use Rattle.half_vectors.proofs.Laws.Half.{forward_half_even, forward_half-odd}
use Rattle.half_vectors.specs.Symmetric.{SymmetricHalf}
use Rattle.half_vectors.specs.Antisymmetric.{AntisymmetricHalf, alternate_half}

-- is the antisymmetric half of the alternated vector, of a symmetric half h
pub alternate_antisymmetric : (w : ℕ) (h : ℕ → Float) (v : List Float) → 1 ≤ w → SymmetricHalf w h v → AntisymmetricHalf w (alternate_half h) (S.alternate ieee w v)
unfolding S.alternate alternate_half
alternate_antisymmetric w h v wide e =
    let whole = pow_double w wide in
    let entry = tabulate-at (λ j. cond (bit 0 j) (neg (S.at ieee v j)) (S.at ieee v j)) (2 ^ w) in
    record {
      low = λ j b. alike_is (entry j ieee.𝟘 (omega arith) ∙ rw (e.low j b));
      high = λ j b. alike_is (entry (2 ^ w - 1 - j) ieee.𝟘 (omega arith) ∙ rw (e.high j b, bit_flips w 0 j wide (omega arith)) (negated (bit 0 j) (h j)));
    }
  where
    negated : (b : Bool) (x : Float) → cond (not b) (neg x) x ≡ neg (cond b (neg x) x)
    negated true x = sym (neg_neg x)
    negated false x = refl

-- ---- an entry of a forward step

alike_blend : (x y p : Float) {a b c d : Float} → Alike c a → Alike d b → Alike (blend x y p c d) (blend x y p a b)
alike_blend x y p f g = alike_mul binary64 (alike_add binary64 (alike_mul binary64 same f) (alike_mul binary64 same g)) same

-- the sign of b may stand in its coefficient
pub blend-sign : (x y p a b : Float) → blend x y p a (neg b) ≡ blend x (neg y) p a b
blend-sign x y p a b = rw (← neg_second binary64 y b, neg_first binary64 y b)

-- with the terms in the other order and a negated for b: the negative, but for the sign of a zero
blend_neg : (x y p a b : Float) → Alike (blend y x p b (neg a)) (neg (blend x (neg y) p a b))
blend_neg x y p a b =
    let m : Float → Float → Float = mul binary64 in
    let e : add binary64 (neg (m x a)) (neg (m (neg y) b)) ≡ add binary64 (m y b) (m x (neg a)) =
    rw (neg_second binary64 x a, neg_first binary64 (neg y) b, neg_neg y) (sum_commutes binary64 (m x (neg a)) (m y b)) in
    rw (neg_first binary64 (add binary64 (m x a) (m (neg y) b)) p, ← e) (alike_mul binary64 (alike_sym (add_negated binary64 (m x a) (m (neg y) b))) same)

-- ---- the forward step, in the window w with the scale sc, from the vector v of the antisymmetric half h

module _ (w : ℕ) (s : Step Float) (sc : Float) (h : ℕ → Float) (v : List Float) (wide : 1 ≤ w) (low : Below (w - 1) s.others) (antisymmetric : AntisymmetricHalf w h v) where
  abbrev half : ℕ
  half = 2 ^ (w - 1)

  whole : 2 ^ w ≡ 2 * half
  whole = pow_double w wide

  upper-entry : (i j : ℕ) → j < half → i + j + 1 ≡ 2 ^ w → Alike (S.at ieee v i) (neg (h j))
  upper-entry i j b e = let g : 2 ^ w - 1 - j ≡ i = omega arith in rw g at (antisymmetric.high j b)

  module _ (x y p : Float) (k : ℕ) (b : k < half) where
    low-blend : Alike (blend x y p (S.at ieee v k) (S.at ieee v (half + k))) (blend x (neg y) p (h k) (h (half - 1 - k)))
    low-blend =
        rw (← blend-sign x y p (h k) (h (half - 1 - k)))
        (alike_blend x y p (antisymmetric.low k b) (upper-entry (half + k) (half - 1 - k) (omega arith) (omega (arith, whole))))

    high-blend : Alike (blend y x p (S.at ieee v (half - 1 - k)) (S.at ieee v (half + (half - 1 - k)))) (neg (blend x (neg y) p (h k) (h (half - 1 - k))))
    high-blend =
        alike_trans (alike_blend y x p (antisymmetric.low (half - 1 - k) (omega arith)) (upper-entry (half + (half - 1 - k)) k b (omega (arith, whole))))
        (blend_neg x y p (h k) (h (half - 1 - k)))

  low-entry : (j : ℕ) → j < half → Alike (S.forward_at ieee w s sc (S.at ieee v) j) (forward_half w s sc neg h j)
  low-entry j b =
      let k = j / 2 in
      dite (dec_lt (j % 2) 1)
      (λ l.
      rw (ELaws.forward_even w s sc (S.at ieee v) j k (omega arith), forward_half_even w s sc neg h j k (omega arith))
      (low-blend (S.ep ieee s.left) (S.em ieee s.left) (E.ups s sc k) k (omega arith)))
      (λ l.
      rw (ELaws.forward-odd w s sc (S.at ieee v) j k (omega arith), forward_half-odd w s sc neg h j k (omega arith))
      (low-blend (S.em ieee s.left) (S.ep ieee s.left) (E.downs s sc k) k (omega arith)))

  high-entry : (j : ℕ) → j < half → Alike (S.forward_at ieee w s sc (S.at ieee v) (2 ^ w - 1 - j)) (neg (forward_half w s sc neg h j))
  high-entry j b =
      let k = j / 2 in
      let z = whole in
      dite (dec_lt (j % 2) 1)
      (λ l.
      rw (
        ELaws.forward-odd w s sc (S.at ieee v) (2 ^ w - 1 - j) (half - 1 - k) (omega arith),
        down_flips s.others sc (w - 1) k low (omega arith),
        forward_half_even w s sc neg h j k (omega arith),
      )
      (high-blend (S.ep ieee s.left) (S.em ieee s.left) (E.ups s sc k) k (omega arith)))
      (λ l.
      rw (
        ELaws.forward_even w s sc (S.at ieee v) (2 ^ w - 1 - j) (half - 1 - k) (omega arith),
        up_flips s.others sc (w - 1) k low (omega arith),
        forward_half-odd w s sc neg h j k (omega arith),
      )
      (high-blend (S.em ieee s.left) (S.ep ieee s.left) (E.downs s sc k) k (omega arith)))

  -- it goes from half to half, with the signs in the coefficients
  pub forward_antisymmetric : AntisymmetricHalf w (forward_half w s sc neg h) (S.forward_step ieee w s sc v)
  unfolding S.forward_step
  forward_antisymmetric =
      let entry = tabulate-at (S.forward_at ieee w s sc (S.at ieee v)) (2 ^ w) in
      record {
        low = λ j b. rw (entry j ieee.𝟘 (omega (arith, whole))) (low-entry j b);
        high = λ j b. rw (entry (2 ^ w - 1 - j) ieee.𝟘 (omega (arith, whole))) (high-entry j b);
      }
