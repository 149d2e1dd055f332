-- How far the answers of accepted calls are from the exact ones, where `error_bound` or `totals_error_bound` answers a bound for the same graph,
-- floor and factors. The bound is a double; the difference is one of fractions, with no rounding.
use Rattle.std.specs.Prelude.{◌≡◌, refl, Bool, true, false, cond, List, Float, length}
use Rattle.std.proofs.Common.{sym, ap, le_trans, lit≤}
use Rattle.std.proofs.Math.Path.{subst}
use Rattle.std.specs.declared.result.Result.TheVariants.{Ok, Err}
use Rattle.std.specs.declared.option.Option.TheVariants.{Some, None}
use Prim.Native.Nat.{ℕ, zero, suc, ◌-◌, ◌^◌, ◌≤◌, ◌<◌, max}
use native.Mathlib.Omega.{arith}
use Rattle.std.proofs.Math.Dec.{T}
use Rattle.std.specs.Float.{nan}
use Rattle.std.specs.Float.Ieee.Positive.{positive}
use Rattle.std.proofs.Math.ListN.{get_or}
use Rattle.fraction.proofs.Fraction.{oneℚ}
use Rattle.fraction.proofs.Value.{value}
use Rattle.transfer_matrix.specs.Configuration.{edges_with, numbered}
use Rattle.transfer_matrix.specs.Job.{Job, Manner, back_edges}
use Rattle.transfer_matrix.specs.Rounded.{ieee}
use Rattle.transfer_matrix.specs.Sweep.{Z, answer}
use Rattle.exactness.specs.Exact.{rational, at_values}
use Rattle.exactness.specs.Textbook.{textbook}
use Rattle.refusals.specs.AcceptedJob.{AcceptedJob}
use Rattle.refusals.specs.Edges.{kept, window_from, kept_early, kept_late}
use Rattle.accuracy.proofs.Apart.{Apart}
use Rattle.accuracy.proofs.Close.{Close}
use Rattle.accuracy.specs.Stated.{within_powers, roundings_of, error_bound}
use Rattle.accuracy.proofs.Laws.Bound.{correlation-close, bounded, roundings-few}
use Rattle.refusals.specs.Refusal.{refusal}
use Rattle.error_bound.specs.Bound.{ErrorBound, most_near, most_bits, near_one, bound_of, of_error_bound, error_bound_request, factor_count, error_bound_of}
use Rattle.error_bound.proofs.Laws.Margin.{bits_deep}
use Rattle.error_bound.proofs.Laws.Near.{near-four, near-most, near_any}
use Rattle.demands.proofs.Laws.Lists.{all_made}
use Rattle.demands.proofs.Laws.Given.{job_made, checked-made}

-- Each answer of job J is within the double `bound` of the textbook ratio.
pub record Accurate (J : Job Float) (us vs : List ℕ) (bound : Float) : Type 0 where
  pub correlation : (i : ℕ) → i < length us
      → Apart (value (answer ieee J (get_or us i 0) (get_or vs i 0))) (textbook rational (at_values J) (get_or us i 0) (get_or vs i 0)) (value bound)

-- ---- what an answered bound says of the call

abbrev held_bound : ErrorBound → Float
held_bound (Ok (Some x)) = x
held_bound (Ok None) = nan
held_bound (Err k) = nan

abbrev is_within : ErrorBound → ℕ
is_within (Ok (Some x)) = 1
is_within (Ok None) = 0
is_within (Err k) = 0

known : (k n w near : ℕ) (factors : List Float) (x : Float) → bound_of k n w near factors ≡ Ok (Some x)
    → (near_one (most_bits w near) factors ≡ true) × (x ≡ error_bound n w near)
known zero n w near factors x e = go (near_one (most_bits w near) factors) e
  where
    go : (b : Bool) → ◌≡◌ {A = ErrorBound} (cond b (Ok (Some (error_bound n w near))) (Ok None)) (Ok (Some x)) → (b ≡ true) × (x ≡ error_bound n w near)
    go true e = (refl, sym (ap held_bound e))
    go false e = let apart = ap is_within e in absurd (omega arith)
known (suc k) n w near factors x e = let apart = ap is_within e in absurd (omega arith)

-- the most near edges of a vertex of a call's graph
abbrev pub near_of : (n floor : ℕ) → (a b : List ℕ) → List Float → ℕ
near_of n floor a b m = most_near n (window_from floor a b m) (numbered (kept_early a b m) (kept_late a b m))

-- the factors are near one, and the bound is the definition's
pub bound_known : (n floor : ℕ) (a b : List ℕ) (m betas factors : List Float) (signed : Bool) (x : Float) → error_bound_of n floor a b m betas factors signed ≡ Ok (Some x)
    → (near_one (most_bits (window_from floor a b m) (near_of n floor a b m)) factors ≡ true) × (x ≡ error_bound n (window_from floor a b m) (near_of n floor a b m))
bound_known n floor a b m betas factors signed x e =
    known (refusal of_error_bound (error_bound_request n floor a b m betas factors (factor_count signed (length betas) (length (kept a b m))))) n (window_from floor a b m)
    (near_of n floor a b m) factors x e

-- ---- a job of kept edges, whose factors are near one

module _ (n floor : ℕ) (a b : List ℕ) (m : List Float) (us vs : List ℕ) (manner : Manner) (ok : AcceptedJob n floor a b m us vs) (factor : ℕ → Float)
    (sound : (e : ℕ) → e < length (kept a b m) → T (positive (factor e))) where
  abbrev early : List ℕ
  early = kept_early a b m

  abbrev late : List ℕ
  late = kept_late a b m

  abbrev window : ℕ
  window = window_from floor a b m

  abbrev near : ℕ
  near = near_of n floor a b m

  abbrev job : Job Float
  job = job_made n floor a b m us vs manner ok factor sound

  few-near : (t : ℕ) → t ≤ n - 1 → length (back_edges job.edges t 1 (window - 1)) ≤ near
  few-near t l =
      subst (λ (k : ℕ). k ≤ near) (near_any (λ e. e) factor early late t (window - 1))
      (near-most n window (numbered early late) t (let z = ok.graph.some-vertex in omega arith))

  -- each correlation is the textbook's but for so many roundings
  pub made-close : ((e : ℕ) → e < length early → T (within_powers (most_bits window near) (factor e))) → (i : ℕ) → i < length us
      → T (positive (Z ieee job (max (get_or us i 0) (get_or vs i 0))))
      → Close (roundings_of n window near) (answer ieee job (get_or us i 0) (get_or vs i 0)) (textbook rational (at_values job) (get_or us i 0) (get_or vs i 0)) oneℚ
  unfolding edges_with
  made-close inside i l Z-sound =
      let e : suc (n - 1) ≡ n = let z = ok.graph.some-vertex in omega arith in
      let few : suc (n - 1) ≤ 1024 = let z = ok.graph.few-vertices in omega arith in
      subst (λ (k : ℕ). Close (roundings_of k window near) (answer ieee job (get_or us i 0) (get_or vs i 0)) (textbook rational (at_values job) (get_or us i 0) (get_or vs i 0)) oneℚ) e
      (correlation-close job (checked-made n floor a b m us vs manner ok factor sound) few ok.narrow near (near-four n window (numbered early late) ok.near)
      few-near (most_bits window near)
      (all_made (λ e. T (within_powers (most_bits window near) e.factor)) (λ e. record { early = get_or early e 0; late = get_or late e 0; factor = factor e }) (length early) inside)
      (bits_deep window near ok.narrow) (get_or us i 0) (get_or vs i 0) (ok.ends-apart i l)
      (omega (arith, ok.first-inside i l)) (omega (arith, ok.second-inside i l)) Z-sound)

  -- so few that they are within the bound
  pub close-within : {x : Float} {e : _} → Close (roundings_of n window near) x e oneℚ → Apart (value x) e (value (error_bound n window near))
  close-within = bounded n window near ok.graph.few-vertices ok.narrow (near-four n window (numbered early late) ok.near)

-- few enough for the laws of totals
pub roundings-short : (n floor : ℕ) (a b : List ℕ) (m : List Float) (us vs : List ℕ) → AcceptedJob n floor a b m us vs
    → roundings_of n (window_from floor a b m) (near_of n floor a b m) ≤ 2 ^ 26
roundings-short n floor a b m us vs ok =
    le_trans (roundings-few n (window_from floor a b m) (near_of n floor a b m) ok.graph.few-vertices ok.narrow
    (near-four n (window_from floor a b m) (numbered (kept_early a b m) (kept_late a b m)) ok.near)) (lit≤ tt)
