-- What the demands say of an accepted call of `exhaustive_c`, of the stored correlations and with no tolerance.
use Rattle.std.specs.Prelude.{◌≡◌, Bool, true, not, List, ℕ, ◌+◌, ◌*◌, ◌/◌, ◌%◌, ◌^◌, ◌≤◌, ◌<◌, eqb, Float, length, get_or}
use Rattle.std.specs.declared.result.Result.TheVariants.{Ok}
use Rattle.std.specs.declared.option.Option.TheVariants.{Some}
use Rattle.std.proofs.Common.{ap, ◌∙◌, mod-lt, div-lt_iff_lt-mul, add-zero, mod-eq_of_lt, mul-le-mul_right, arith, pow_pos}
use Rattle.std.proofs.Math.Nat.{mul-add-div_right, mul-add-mod_self_right, div-eq_of_lt}
use Rattle.std.specs.Float.{nan}
use Rattle.plan_layout.specs.Arrangements.{arrangement_of}
use Rattle.plan_layout.specs.declared.Arrangement.{Arrangement}
use Rattle.limits.specs.declared.Caller.{Caller}
use Rattle.fraction.proofs.Value.{value}
use Rattle.forest.specs.FreeEdges.{bit_of}
use Rattle.transfer_matrix.specs.Configuration.{enumerated_minus}
use Rattle.accuracy.proofs.Apart.{Apart}
use Rattle.transfer_matrix.specs.Job.{Job}
use Rattle.transfer_matrix.specs.Rounded.{ieee}
use Rattle.transfer_matrix.specs.Sweep as S
use Rattle.transfer_matrix.specs.Totals.{enumerated_count}
use Rattle.refusals.specs.AcceptedTotals.{AcceptedTotals}
use Rattle.refusals.specs.Accepted.{Rising}
use Rattle.refusals.proofs.Laws.Rising.{rising}
use Rattle.refusals.specs.Request.{most_stored}
use Rattle.totals_configuration.specs.Powers.{correlation_at}
use Rattle.totals_configuration.proofs.Laws.Powers.{pair-numbered}
use Rattle.entry_correlations.specs.declared.Manner.{Manner}
use Rattle.totals_call.specs.Jobs.{stored_count}
use Rattle.totals_call.specs.Calls.{EnumeratedEach, refused_storing}
use Rattle.error_bound.specs.Bound.{error_bound_of}
use Rattle.demands.proofs.Laws.Lists.{settled_at}
use Rattle.demands.proofs.Configurations as C
use Rattle.demands.proofs.Configurations.{accepted-number, pair_inside, beta-inside, enumeration_facts, configuration-sound}
use Rattle.demands.proofs.AccurateTotals.{exactly, signed-accurate}
use Rattle.demands.proofs.OneJob.{exact, bounded}
use Rattle.demands.specs.OneJob.{InUnit, Exact, Bounded, Sound}
use Rattle.demands.proofs.Mirror.{mirrored}
use Rattle.demands.specs.Mirror.{Mirrored}

module _ {n floor : ℕ} {a b : List ℕ} {m : List Float} {us vs : List ℕ} {betas factors : List Float} {manner : Manner} {arrangement : Arrangement} {caller : Caller}
    {stored stored' work work' : List Float} {count : ℕ}
    (call : EnumeratedEach n floor a b m us vs betas factors manner arrangement caller (Ok count) stored stored' work work') where
  abbrev free : ℕ
  free = C.free a b m

  abbrev configuration : ℕ → ℕ → Job Float
  configuration = C.configuration n floor a b m factors manner

  -- how many correlations are stored
  abbrev size : ℕ
  size = stored_count (C.early a b m) (C.late a b m) us (length betas)

  accepted : (refused_storing n floor a b m us vs betas factors manner arrangement caller (length stored) (length work) ≡ 0) × (count ≡ enumerated_count free)
  accepted = accepted-number _ _ count call.call.answer

  abbrev misfit : Bool
  misfit = not (eqb (length stored) size)

  facts : AcceptedTotals (arrangement_of arrangement) n floor a b m us vs betas factors misfit (length work)
  facts = (enumeration_facts n floor a b m us vs betas factors manner misfit (length work) caller (arrangement_of arrangement) most_stored accepted.0).0

  -- The betas rise strictly.
  pub storing-rising : Rising betas
  storing-rising = rising betas facts.betas_pass.rising

  -- Every configuration's job is sound at every beta.
  pub storing-sound : (x beta : ℕ) → x < 2 ^ free → beta < length betas → Sound (configuration x beta) us vs
  storing-sound = configuration-sound n floor a b m us vs betas factors manner misfit (length work) caller (arrangement_of arrangement) most_stored accepted.0

  -- Exact: each stored double is the definition's correlation,
  pub stored_are : (k : ℕ) → k < size → get_or stored' k nan ≡ correlation_at (configuration (k % 2 ^ free)) us vs (k / 2 ^ free)
  stored_are =
      settled_at _ (λ k. correlation_at (configuration (k % 2 ^ free)) us vs (k / 2 ^ free)) size stored stored' accepted.0 call.call.stored_are

  -- that of configuration x, a beta and pair p at (beta times pairs + p) times 2^free + x,
  settled-stored : (y beta p : ℕ) → y < 2 ^ free → beta < length betas → p < length us
      → get_or stored' ((beta * length us + p) * 2 ^ free + y) nan ≡ S.answer ieee (configuration y beta) (get_or us p 0) (get_or vs p 0)
  settled-stored x beta p h l k =
      let q = beta * length us + p in
      let below : q + 1 ≤ length betas * length us = omega (arith, mul-le-mul_right (length us) l) in
      let inside : q * 2 ^ free + x < size = omega (arith, mul-le-mul_right (2 ^ free) below) in
      let d : (q * 2 ^ free + x) / 2 ^ free ≡ q = mul-add-div_right (pow_pos free) q x ∙ ap (λ (j : ℕ). q + j) (div-eq_of_lt h) ∙ add-zero q in
      let r : (q * 2 ^ free + x) % 2 ^ free ≡ x = mul-add-mod_self_right q (2 ^ free) x ∙ mod-eq_of_lt h in
      rw (stored_are (q * 2 ^ free + x) inside, d, r, ← pair-numbered (configuration x) us vs beta p k)

  pub stored-at : (x beta p : ℕ) → x < 2 ^ free → beta < length betas → p < length us
      → get_or stored' ((beta * length us + p) * 2 ^ free + x) nan ≡ S.answer ieee (configuration x beta) (get_or us p 0) (get_or vs p 0)
  stored-at = settled-stored

  -- the count is 2^free,
  pub storing-counted : count ≡ 2 ^ free
  storing-counted = accepted.1

  -- and without rounding the definition is the textbook ratio: of every configuration, beta and pair.
  pub stored_exact : (x beta : ℕ) → x < 2 ^ free → beta < length betas → Exact (configuration x beta) us vs
  stored_exact x beta h l = exact (storing-sound x beta h l)

  -- Bounded: each stored double lies in [-1, 1],
  pub stored-bounded : (k : ℕ) → k < size → InUnit (get_or stored' k nan)
  stored-bounded k l =
      let q = k / 2 ^ free in
      let inside : q < length betas * length us = (div-lt_iff_lt-mul (pow_pos free)).1 l in
      rw (stored_are k l)
      ((bounded (storing-sound (k % 2 ^ free) (q / length us) (mod-lt k (pow_pos free)) (beta-inside (length betas) (length us) q inside))).correlation
      (q % length us) (pair_inside (length betas) (length us) q inside))

  -- and no entry of a propagated vector exceeds the forward vector's in size.
  pub stored-within : (x beta : ℕ) → x < 2 ^ free → beta < length betas → Bounded (configuration x beta) us vs
  stored-within x beta h l = bounded (storing-sound x beta h l)

  -- Mirrored: forward and backward vectors are the same with every spin flipped, propagated ones opposite.
  pub stored-mirrored : (x beta : ℕ) → x < 2 ^ free → beta < length betas → Mirrored (configuration x beta) us vs
  stored-mirrored x beta h l = mirrored (storing-sound x beta h l)

  -- Accurate: where `totals_error_bound` answers a bound for the same graph, floor, betas and factors, each stored double is within it of the
  -- textbook ratio.
  pub stored-accurate : (bound : Float) → error_bound_of n floor a b m betas factors true ≡ Ok (Some bound)
      → (x beta p : ℕ) → x < 2 ^ free → beta < length betas → p < length us
      → Apart (value (get_or stored' ((beta * length us + p) * 2 ^ free + x) nan)) (exactly (configuration x beta) us vs p) (value bound)
  stored-accurate bound answered x beta p h l k =
      rw (settled-stored x beta p h l k)
      ((signed-accurate n floor a b m us vs betas factors manner misfit (length work)
      facts bound answered
      (enumerated_minus (bit_of (C.early a b m) (C.late a b m)) x) beta l (storing-sound x beta h l)).correlation p k)
