-- The factors of one beta are those of its couplings among all.
use Rattle.std.specs.Prelude.{◌≡◌, Bool, cond, ℕ, ◌+◌, ◌*◌, ◌-◌, ◌<◌, Float, length}
use Rattle.std.proofs.Common.{sym, ◌∙◌, zero-mul, zero-add, arith}
use Rattle.std.proofs.Math.Path.{ap}
use mathlib.Core.List.{List}
use Rattle.std.specs.Float.{nan, binary64}
use Rattle.std.specs.Float.Ieee.{mul}
use Rattle.std.proofs.Math.ListN.{get_or}
use Rattle.list_laws.proofs.Laws.Tabulate.{tabulate-length, tabulate-at, tabulate_ext}
use Rattle.house_factors.specs.Factors.{factor_of, paired_factors}
use Rattle.house_factors.proofs.Laws.Factors.{paired_at}
use Rattle.refusals.specs.Couplings.{all_couplings}
use Rattle.refusals.proofs.Laws.Couplings.{coupling-inside, all-length, all-at}
use Rattle.transfer_matrix.specs.Job.{Edge, Manner}
use Rattle.transfer_matrix.specs.Configuration.{lent_at, edges_with, configured}
use Rattle.totals_call.specs.Jobs.{job_signed}
use Rattle.totals_house_betas.specs.Betas.{couplings_of}

pub of_length : (beta : Float) (mag : List Float) → length (couplings_of beta mag) ≡ length mag
unfolding couplings_of
of_length beta mag = tabulate-length (λ e. mul binary64 beta (get_or mag e nan)) (length mag)

pub of_at : (beta : Float) (mag : List Float) (e : ℕ) → e < length mag → get_or (couplings_of beta mag) e nan ≡ mul binary64 beta (get_or mag e nan)
unfolding couplings_of
of_at beta mag e l = tabulate-at (λ i. mul binary64 beta (get_or mag i nan)) (length mag) e nan l

module _ (mag betas : List Float) (b : ℕ) (h : b < length betas) where
  -- at each edge and sign
  factor-same : (m b' e : ℕ) (minus : Bool) → m ≡ length mag → b' < 1 → e < length mag
      → get_or (paired_factors (couplings_of (get_or betas b nan) mag)) (lent_at m b' e minus) nan ≡ get_or (paired_factors (all_couplings betas mag)) (lent_at m b e minus) nan
  factor-same m b' e minus q z l =
      let one : lent_at m b' e minus ≡ 2 * e + cond minus 1 0 = (let b0 : b' ≡ 0 = omega arith in rw (b0, zero-mul, zero-add)) in
      let all : lent_at m b e minus ≡ 2 * (b * length mag + e) + cond minus 1 0 = rw q in
      let i = coupling-inside betas mag b e h l in
      ap (λ (k : ℕ). get_or (paired_factors (couplings_of (get_or betas b nan) mag)) k nan) one
      ∙ paired_at (couplings_of (get_or betas b nan) mag) e minus (omega (arith, of_length (get_or betas b nan) mag))
      ∙ ap (λ (x : Float). factor_of x minus) (of_at (get_or betas b nan) mag e l ∙ sym (all-at betas mag b e h l))
      ∙ sym (paired_at (all_couplings betas mag) (b * length mag + e) minus (omega (arith, all-length betas mag)))
      ∙ ap (λ (k : ℕ). get_or (paired_factors (all_couplings betas mag)) k nan) (sym all)

  -- so a job at one beta is that of the beta among all
  pub job-same : (n w : ℕ) (early late : List ℕ) (manner : Manner) (minus : ℕ → Bool) (b' : ℕ) → length mag ≡ length early → b' < 1
      → job_signed n w early late (paired_factors (couplings_of (get_or betas b nan) mag)) manner minus b' ≡ job_signed n w early late (paired_factors (all_couplings betas mag)) manner minus b
  unfolding configured edges_with
  job-same n w early late manner minus b' q z =
      ap (λ (es : List (Edge Float)). record { last = n - 1; window = w; edges = es; manner = manner })
      (tabulate_ext _ _ (length early)
      (λ e l. ap (λ (x : Float). record { early = get_or early e 0; late = get_or late e 0; factor = x }) (factor-same (length early) b' e (minus e) (sym q) z (omega (arith, q)))))
