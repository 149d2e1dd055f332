-- The same of an accepted call of `house_exhaustive_c`, whose factors are the table's.
use Rattle.std.specs.Prelude.{◌≡◌, List, [], ◌∷◌, ℕ, ◌+◌, ◌*◌, ◌^◌, ◌≤◌, ◌<◌, Float, length, get_or, replicate}
use Rattle.list_laws.specs.Part.{part}
use Rattle.plan_layout.specs.declared.Arrangement.{Arrangement}
use Rattle.limits.specs.declared.Caller.{Caller}
use Rattle.transfer_matrix.specs.Rounded.{ieee}
use Rattle.transfer_matrix.specs.Sweep as S
use Rattle.entry_correlations.specs.declared.Manner.{Manner}
use Rattle.totals_call.specs.Calls.{EnumeratedEach, HouseEnumeratedEach}
use Rattle.demands.proofs.Configurations.{free}
use Rattle.demands_house.specs.Factors.{table_factors, configuration_of}
use Rattle.demands_house.proofs.Lent.{house-storing-lent}
use Rattle.demands_house.proofs.Laws.Lent.{number_not}
use Rattle.std.specs.declared.result.Result.TheVariants.{Ok}
use Rattle.shares.specs.Shares.{most_lists, pooled, shares_of}
use Rattle.shares.specs.Lists.{shares_by}
use Rattle.demands_shares.specs.Stored as Stored

module _ {n floor : ℕ} {a b : List ℕ} {m : List Float} {us vs : List ℕ} {betas : List Float} {manner : Manner} {arrangement : Arrangement} {caller : Caller}
    {stored stored' work work' : List Float} {count : ℕ}
    (call : HouseEnumeratedEach n floor a b m us vs betas manner arrangement caller (Ok count) stored stored' work work') where
  lent : EnumeratedEach n floor a b m us vs betas (table_factors a b m betas) manner arrangement caller (Ok count) stored stored' work work'
  lent = house-storing-lent call number_not

  pub house_stored_not_25 : 0 < length betas * length us → length betas * length us ≤ most_lists
      → shares_of stored' (replicate (length betas * length us) (2 ^ free a b m)) ≡ Ok (pooled stored')
  house_stored_not_25 = Stored.stored_not_25 lent

  pub house_stored_shares : (beta p : ℕ) → beta < length betas → p < length us
      → shares_of (part stored' ((beta * length us + p) * 2 ^ free a b m) (2 ^ free a b m)) (2 ^ free a b m ∷ [])
      ≡ Ok (shares_by (λ x. S.answer ieee (configuration_of n floor a b m betas manner x beta) (get_or us p 0) (get_or vs p 0)) (2 ^ free a b m))
  house_stored_shares = Stored.stored_shares lent
