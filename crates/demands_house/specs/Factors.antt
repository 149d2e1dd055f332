-- The factors of house calls, and the jobs that they work out with them.
use Rattle.std.specs.Prelude.{◌≡◌, Bool, cond, not, List, ℕ, ◌≤◌, T, Float, length, get_or}
use Rattle.std.specs.Float.{nan, binary64}
use Rattle.std.specs.Float.Ieee.{mul, neg}
use Rattle.std.specs.Float.Ieee.Exact.{HasValue}
use Rattle.std.specs.Float.Ieee.Positive.{positive}
use Rattle.list_laws.specs.Tabulate.{tabulate}
use Rattle.transfer_matrix.specs.Job.{Job}
use Rattle.house_table.specs.House.{house}
use Rattle.refusals.specs.Couplings.{all_couplings}
use Rattle.refusals.specs.Edges.{kept, kept_magnitudes}
use Rattle.house_factors.specs.Factors.{paired_factors}
use Rattle.house_factors.specs.Theorems.{signed}
use Rattle.entry_correlations.specs.declared.Manner.{Manner}
use Rattle.demands.proofs.Configurations.{configuration, drawn_configuration}

-- The table's factors of a call for totals: for each beta and kept edge two, one a sign.
abbrev pub table_factors : (a b : List ℕ) → (m betas : List Float) → List Float
table_factors a b m betas = paired_factors (all_couplings betas (kept_magnitudes a b m))

-- The factor of coupling x for a sign is the table's: x is ±k/128 for some k up to 512, the factor is entry ±k for sign plus and entry ∓k for sign minus,
-- and so finite and above zero.
pub record TableEntry (x : Float) (minus : Bool) (factor : Float) : Type 0 where
  pub negative : Bool
  pub k : ℕ
  pub coupling : HasValue x negative k 128
  pub few : k ≤ 512
  pub entry : factor ≡ house (signed (cond minus (not negative) negative) k)
  pub above : T (positive factor)

-- The coupling of a beta and a kept edge with the edge's sign; and those of one beta, one for each kept edge: what `house_correlations` is lent for such a
-- configuration.
module _ (a b : List ℕ) (m betas : List Float) (minus : ℕ → Bool) (beta : ℕ) where
  abbrev pub signed_coupling : ℕ → Float
  signed_coupling e = let x = mul binary64 (get_or betas beta nan) (get_or (kept_magnitudes a b m) e nan) in cond (minus e) (neg x) x

  abbrev pub signed_couplings : List Float
  signed_couplings = tabulate signed_coupling (length (kept a b m))

-- The jobs of a house call for totals: of a configuration and beta, and of a sample and beta.
module _ (n floor : ℕ) (a b : List ℕ) (m betas : List Float) (manner : Manner) where
  abbrev pub configuration_of : ℕ → ℕ → Job Float
  configuration_of = configuration n floor a b m (table_factors a b m betas) manner

  abbrev pub drawn_of : (seed chunk sample : ℕ) → ℕ → Job Float
  drawn_of = drawn_configuration n floor a b m (table_factors a b m betas) manner
