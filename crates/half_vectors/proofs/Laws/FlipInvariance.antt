-- A vector in which every entry is that of the index with every spin flipped, and the steps that keep it so.
use Rattle.std.specs.Prelude.{◌≡◌, refl, List, ℕ, ◌+◌, ◌*◌, ◌-◌, ◌/◌, ◌%◌, ◌^◌, ◌≤◌, ◌<◌, Float}
use Rattle.std.proofs.Math.Path.{sym}
use Rattle.std.proofs.Common.{◌∙◌}
use Rattle.std.proofs.Math.Logic.{dite}
use Rattle.std.proofs.Math.Decide.{dec_lt}
use native.Mathlib.Omega.{arith}
use Rattle.std.specs.Float.{binary64}
use Rattle.std.specs.Float.Ieee.{mul}
use Rattle.list_laws.proofs.Laws.Power.{pow_double}
use Rattle.list_laws.specs.Tabulate.{tabulate}
use Rattle.list_laws.proofs.Laws.Tabulate.{tabulate-at}
use Rattle.transfer_matrix.specs.Job.{Step}
use Rattle.transfer_matrix.specs.Rounded.{ieee}
use Rattle.transfer_matrix.specs.Sweep as S
use Rattle.rounding.proofs.Laws.Commute.{sum_commutes}
use Rattle.half_vectors.proofs.Laws.Flip.{Below, up_flips, down_flips}
use Rattle.half_vectors.specs.Entries as E
use Rattle.half_vectors.proofs.Laws.Entries as ELaws

-- entry 2 ^ w - 1 - j is entry j
pub record Symmetric (w : ℕ) (v : List Float) : Type 0 where
  pub flipped : (j : ℕ) → j < 2 ^ w → S.at ieee v (2 ^ w - 1 - j) ≡ S.at ieee v j

-- a list made by a rule that does not change
pub symmetric_by : (w : ℕ) (f : ℕ → Float) → ((j : ℕ) → j < 2 ^ w → f (2 ^ w - 1 - j) ≡ f j) → Symmetric w (tabulate f (2 ^ w))
symmetric_by w f e =
    record {
      flipped = λ j b.
          tabulate-at f (2 ^ w) (2 ^ w - 1 - j) ieee.𝟘 (omega arith) ∙ e j b ∙ sym (tabulate-at f (2 ^ w) j ieee.𝟘 b);
    }

pub start_symmetric : (w : ℕ) → Symmetric w (S.start ieee w)
unfolding S.start
start_symmetric w = symmetric_by w (λ j. ieee.𝟙) (λ j b. refl)

-- ---- a step, in the window w with the scale sc, from the symmetric vector v

module _ (w : ℕ) (s : Step Float) (sc : Float) (v : List Float) (wide : 1 ≤ w) (low : Below (w - 1) s.others) (even : Symmetric w v) where
  abbrev half : ℕ
  half = 2 ^ (w - 1)

  whole : 2 ^ w ≡ 2 * half
  whole = pow_double w wide

  -- an entry whose flipped one is number j
  entry_flips : (i j : ℕ) → j < 2 ^ w → i + j + 1 ≡ 2 ^ w → S.at ieee v i ≡ S.at ieee v j
  entry_flips i j b e = let g : 2 ^ w - 1 - j ≡ i = omega arith in rw g at (even.flipped j b)

  abbrev evens : ℕ → Float
  evens = ELaws.evens w s sc (S.at ieee v)

  abbrev odds : ℕ → Float
  odds = ELaws.odds w s sc (S.at ieee v)

  odd_flips : (k : ℕ) → k < half → odds (half - 1 - k) ≡ evens k
  odd_flips k b =
      rw (
        down_flips s.others sc (w - 1) k low b,
        entry_flips (half - 1 - k) (half + k) (omega (arith, whole)) (omega (arith, whole)),
        entry_flips (half + (half - 1 - k)) k (omega (arith, whole)) (omega (arith, whole)),
        sum_commutes binary64 (mul binary64 (S.em ieee s.left) (S.at ieee v (half + k))) (mul binary64 (S.ep ieee s.left) (S.at ieee v k)),
      )

  even_flips : (k : ℕ) → k < half → evens (half - 1 - k) ≡ odds k
  even_flips k b = let e : half - 1 - (half - 1 - k) ≡ k = omega arith in rw e at (sym (odd_flips (half - 1 - k) (omega arith)))

  pub forward_symmetric : Symmetric w (S.forward_step ieee w s sc v)
  unfolding S.forward_step
  forward_symmetric =
      symmetric_by w (S.forward_at ieee w s sc (S.at ieee v))
      (λ j b.
      let m = whole in
      dite (dec_lt (j % 2) 1)
      (λ l. ELaws.forward-odd w s sc (S.at ieee v) (2 ^ w - 1 - j) (half - 1 - j / 2) (omega arith) ∙ odd_flips (j / 2) (omega arith) ∙ sym (ELaws.forward_even w s sc (S.at ieee v) j (j / 2) (omega arith)))
      (λ l. ELaws.forward_even w s sc (S.at ieee v) (2 ^ w - 1 - j) (half - 1 - j / 2) (omega arith) ∙ even_flips (j / 2) (omega arith) ∙ sym (ELaws.forward-odd w s sc (S.at ieee v) j (j / 2) (omega arith))))

  -- the entries 2 k and 2 k + 1 times the tables
  abbrev up-part : ℕ → Float
  up-part k = mul binary64 (S.at ieee v (2 * k)) (E.ups s sc k)

  abbrev down-part : ℕ → Float
  down-part k = mul binary64 (S.at ieee v (2 * k + 1)) (E.downs s sc k)

  abbrev lower : ℕ → Float
  lower = ELaws.lower w s sc (S.at ieee v)

  abbrev upper : ℕ → Float
  upper = ELaws.upper w s sc (S.at ieee v)

  up_part_flips : (k : ℕ) → k < half → up-part (half - 1 - k) ≡ down-part k
  up_part_flips k b =
      rw (up_flips s.others sc (w - 1) k low b, entry_flips (2 * (half - 1 - k)) (2 * k + 1) (omega (arith, whole)) (omega (arith, whole)))

  down_part_flips : (k : ℕ) → k < half → down-part (half - 1 - k) ≡ up-part k
  down_part_flips k b =
      rw (down_flips s.others sc (w - 1) k low b, entry_flips (2 * (half - 1 - k) + 1) (2 * k) (omega (arith, whole)) (omega (arith, whole)))

  upper_flips : (k : ℕ) → k < half → upper (half - 1 - k) ≡ lower k
  upper_flips k b =
      rw (
        up_part_flips k b,
        down_part_flips k b,
        sum_commutes binary64 (mul binary64 (S.em ieee s.left) (down-part k)) (mul binary64 (S.ep ieee s.left) (up-part k)),
      )

  -- so the lower half of the backward step reads the lower half of v alone
  pub lower_flips : (k : ℕ) → k < half → lower (half - 1 - k) ≡ upper k
  lower_flips k b = let e : half - 1 - (half - 1 - k) ≡ k = omega arith in rw e at (sym (upper_flips (half - 1 - k) (omega arith)))

  pub backward_symmetric : Symmetric w (S.backward_step ieee w s sc v)
  unfolding S.backward_step
  backward_symmetric =
      symmetric_by w (S.backward_at ieee w s sc (S.at ieee v))
      (λ j b.
      let m = whole in
      dite (dec_lt j half)
      (λ l. ELaws.backward-high w s sc (S.at ieee v) (2 ^ w - 1 - j) (half - 1 - j) (omega arith) (omega arith) ∙ upper_flips j l ∙ sym (ELaws.backward-low w s sc (S.at ieee v) j l))
      (λ l.
      ELaws.backward-low w s sc (S.at ieee v) (2 ^ w - 1 - j) (omega arith)
      ∙ (let e : 2 ^ w - 1 - j ≡ half - 1 - (j - half) = omega arith in rw e (lower_flips (j - half) (omega arith)))
      ∙ sym (ELaws.backward-high w s sc (S.at ieee v) j (j - half) (omega arith) (omega arith))))
