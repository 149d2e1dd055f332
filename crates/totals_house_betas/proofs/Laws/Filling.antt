-- Lists that are filled from their front, by factors or rows.
use Rattle.std.specs.Prelude.{◌≡◌, false, true, List, ◌++◌, ℕ, ◌+◌, ◌*◌, ◌/◌, ◌%◌, ◌≤◌, ◌<◌, Float, get_or, set}
use Rattle.std.proofs.Common.{sym, ◌∙◌, append-nil, arith, zero-add, drop_of_length-le}
use Rattle.std.proofs.Math.Path.{ap}
use Rattle.std.specs.Float.{nan, binary64}
use Rattle.std.specs.Float.Ieee.{mul}
use Rattle.std.proofs.Math.ListN.{length}
use Rattle.list_laws.specs.Part.{put}
use Rattle.list_laws.specs.Tabulate.{tabulate}
use Rattle.list_laws.proofs.Laws.Part.{fill_two, fill_length}
use Rattle.list_laws.proofs.Laws.Tabulate.{tabulate-length}
use Rattle.house_factors.specs.Factors.{factor_of, paired_factor, paired_factors}
use Rattle.totals_house_betas.specs.Betas.{couplings_of}
use Rattle.totals_house_betas.proofs.Laws.Factors.{of_length, of_at}

-- a list that is filled to its end
pub fill_all : (d : List Float) (f : ℕ → Float) (n : ℕ) → length d ≡ n → put d 0 (tabulate f n) ≡ tabulate f n
unfolding put
fill_all d f n e =
    let t = tabulate-length f n in
    ap (λ (y : List Float). tabulate f n ++ y) (drop_of_length-le d {i = 0 + length (tabulate f n)} (omega arith)) ∙ append-nil (tabulate f n)

-- the factors of the first e edges
abbrev pub laid : List Float → Float → List Float → ℕ → List Float
laid old beta mag e = put old 0 (tabulate (paired_factor (couplings_of beta mag)) (2 * e))

module _ (old : List Float) (beta : Float) (mag : List Float) (long : length old ≡ 2 * length mag) where
  pub laid-length : (e : ℕ) → e ≤ length mag → length (laid old beta mag e) ≡ length old
  laid-length e l = fill_length old 0 (paired_factor (couplings_of beta mag)) (2 * e) (omega arith)

  -- those of one edge more
  pub laid_more : (e : ℕ) (v : List Float) (plus minus : Float) → e < length mag → v ≡ laid old beta mag e
      → plus ≡ factor_of (mul binary64 beta (get_or mag e nan)) false → minus ≡ factor_of (mul binary64 beta (get_or mag e nan)) true
      → set (set v (2 * e) plus) (2 * e + 1) minus ≡ laid old beta mag (e + 1)
  laid_more e v plus minus l h p q =
      let x = of_at beta mag e l in
      let d : 2 * e / 2 ≡ e = omega arith in
      let m : 2 * e % 2 ≡ 0 = omega arith in
      let d' : (2 * e + 1) / 2 ≡ e = omega arith in
      let m' : (2 * e + 1) % 2 ≡ 1 = omega arith in
      let a : plus ≡ paired_factor (couplings_of beta mag) (2 * e) = p ∙ ap (λ (y : Float). factor_of y false) (sym x) ∙ rw (d, m) in
      let b : minus ≡ paired_factor (couplings_of beta mag) (2 * e + 1) = q ∙ ap (λ (y : Float). factor_of y true) (sym x) ∙ rw (d', m') in
      let n : 2 * (e + 1) ≡ 2 * e + 2 = omega arith in
      rw (h, n) (rw (zero-add (2 * e), zero-add (2 * e + 1)) at (fill_two old 0 (paired_factor (couplings_of beta mag)) (2 * e) plus minus (omega arith) a b))

  pub laid-all : (e : ℕ) → e ≡ length mag → laid old beta mag e ≡ paired_factors (couplings_of beta mag)
  unfolding paired_factors
  laid-all e h =
      let k : 2 * e ≡ 2 * length (couplings_of beta mag) = rw (h, of_length beta mag) in
      ap (λ (i : ℕ). put old 0 (tabulate (paired_factor (couplings_of beta mag)) i)) k
      ∙ fill_all old (paired_factor (couplings_of beta mag)) (2 * length (couplings_of beta mag)) (long ∙ ap (λ (i : ℕ). 2 * i) (sym (of_length beta mag)))
