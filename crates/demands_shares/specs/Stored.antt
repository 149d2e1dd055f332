-- What shares say of an accepted call of `exhaustive_c`.
use Rattle.std.specs.Prelude.{◌≡◌, not, List, [], ◌∷◌, ℕ, ◌+◌, ◌*◌, ◌^◌, ◌≤◌, ◌<◌, eqb, Float, length, get_or, replicate}
use Rattle.std.proofs.Common.{◌∙◌, mul-le-mul_right, arith, pow_pos, pow_mono}
use Rattle.std.specs.Float.{nan}
use Rattle.list_laws.specs.Part.{part}
use Rattle.list_laws.proofs.Laws.Part.{part_length, part_at}
use Rattle.plan_layout.specs.Arrangements.{arrangement_of}
use Rattle.plan_layout.specs.declared.Arrangement.{Arrangement}
use Rattle.limits.specs.declared.Caller.{Caller}
use Rattle.transfer_matrix.specs.Rounded.{ieee}
use Rattle.transfer_matrix.specs.Sweep as S
use Rattle.transfer_matrix.specs.Totals.{enumerated_count}
use Rattle.refusals.specs.Request.{most_stored}
use Rattle.entry_correlations.specs.declared.Manner.{Manner}
use Rattle.totals_call.specs.Jobs.{stored_count}
use Rattle.totals_call.specs.Calls.{EnumeratedEach, refused_storing}
use Rattle.demands.proofs.Configurations as C
use Rattle.demands.proofs.Configurations.{accepted-number, few-free}
use Rattle.demands.proofs.Storing.{stored-at, stored-bounded}
use Rattle.std.specs.declared.result.Result.TheVariants.{Ok}
use Rattle.shares.specs.Shares.{most_lists, pooled, shares_of}
use Rattle.shares.specs.Lists.{shares_by}
use Rattle.shares.proofs.Theorems.{equal_lists_answered, by_rule}
use Rattle.demands_shares.specs.Laws.{good_entry, settled-length}

module _ {n floor : ℕ} {a b : List ℕ} {m : List Float} {us vs : List ℕ} {betas factors : List Float} {manner : Manner} {arrangement : Arrangement} {caller : Caller}
    {stored stored' work work' : List Float} {count : ℕ}
    (call : EnumeratedEach n floor a b m us vs betas factors manner arrangement caller (Ok count) stored stored' work work') where
  abbrev free : ℕ
  free = C.free a b m

  -- the lists of a beta and pair each
  abbrev lists : ℕ
  lists = length betas * length us

  accepted : (refused_storing n floor a b m us vs betas factors manner arrangement caller (length stored) (length work) ≡ 0) × (count ≡ enumerated_count free)
  accepted = accepted-number _ _ count call.call.answer

  few : 2 ^ free ≤ 2 ^ 24
  few =
      pow_mono (few-free n floor a b m us vs betas factors manner (not (eqb (length stored) (stored_count (C.early a b m) (C.late a b m) us (length betas)))) (length work)
      caller (arrangement_of arrangement) most_stored accepted.0)

  many : length stored' ≡ lists * 2 ^ free
  many = settled-length _ _ _ stored stored' accepted.0 call.call.stored_are

  -- Up to 256 lists, one a beta and pair, are never refused.
  pub stored_not_25 : 0 < lists → lists ≤ most_lists → shares_of stored' (replicate lists (2 ^ free)) ≡ Ok (pooled stored')
  stored_not_25 l h =
      equal_lists_answered stored' lists (2 ^ free) l h (pow_pos free) few many (λ k i. good_entry (get_or stored' k nan) (stored-bounded call k i))

  -- The shares of a beta and pair are parts of all configurations: of those whose correlation, by the definition, is of each kind.
  pub stored_shares : (beta p : ℕ) → beta < length betas → p < length us
      → shares_of (part stored' ((beta * length us + p) * 2 ^ free) (2 ^ free)) (2 ^ free ∷ [])
      ≡ Ok (shares_by (λ x. S.answer ieee (C.configuration n floor a b m factors manner x beta) (get_or us p 0) (get_or vs p 0)) (2 ^ free))
  stored_shares beta p l k =
      let q = beta * length us + p in
      let below : q + 1 ≤ lists = omega (arith, mul-le-mul_right (length us) l) in
      let room : q * 2 ^ free + 2 ^ free ≤ lists * 2 ^ free = omega (arith, mul-le-mul_right (2 ^ free) below) in
      let fits : q * 2 ^ free + 2 ^ free ≤ length stored' = omega (arith, many) in
      by_rule (λ x. S.answer ieee (C.configuration n floor a b m factors manner x beta) (get_or us p 0) (get_or vs p 0)) (2 ^ free) (part stored' (q * 2 ^ free) (2 ^ free))
      (pow_pos free) few (part_length stored' (q * 2 ^ free) (2 ^ free) fits)
      (λ x i. part_at stored' (q * 2 ^ free) (2 ^ free) x nan i ∙ stored-at call x beta p i l k)
      (λ x i. rw (← stored-at call x beta p i l k) (good_entry _ (stored-bounded call (q * 2 ^ free + x) (omega arith))))
