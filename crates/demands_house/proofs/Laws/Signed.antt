-- The table's factors of a configuration are those of its couplings with their signs.
use Rattle.std.specs.Prelude.{◌≡◌, Bool, true, false, cond, not, List, ℕ, ◌<◌, Float, length, get_or}
use Rattle.std.proofs.Common.{sym, ap, ◌∙◌, arith}
use Rattle.std.specs.Float.{nan, inf, fin, binary64}
use Rattle.std.specs.Float.Ieee.{mul, neg}
use Rattle.std.specs.Float.Ieee.Exact.{HasValue}
use Rattle.std.proofs.lemmas.List.{length-map}
use Rattle.list_laws.proofs.Laws.Tabulate.{tabulate-length, tabulate-at, tabulated}
use Rattle.transfer_matrix.specs.Configuration.{lent_at}
use Rattle.refusals.specs.Edges.{kept, kept_magnitudes}
use Rattle.house_factors.specs.Factors.{factor_of, single_factors}
use Rattle.house_factors.specs.Theorems.{coupling-factors}
use Rattle.house_factors.proofs.Laws.Factors.{single-length, single-at}
use Rattle.entry_correlations.specs.Correlations.{job_given}
use Rattle.entry_correlations.specs.declared.Manner.{Manner}
use Rattle.demands.proofs.Configurations.{early, signed_job}
use Rattle.demands.proofs.Alone.{factors_in_use, job_in_use}
use Rattle.demands_house.specs.Factors.{table_factors, TableEntry, signed_coupling, signed_couplings}

neg_value : (x : Float) (s : Bool) (k c : ℕ) → HasValue x s k c → HasValue (neg x) (not s) k c
unfolding neg
neg_value nan s k c v = absurd v
neg_value (inf t) s k c v = absurd v
neg_value (fin t m e) s k c v = (ap not v.0, v.1)

-- a factor for sign minus is that of the coupling turned round
signed-entry : (x : Float) (minus : Bool) {factor : Float} → TableEntry x minus factor → factor_of (cond minus (neg x) x) false ≡ factor
signed-entry x false t = (coupling-factors x t.negative t.k t.coupling t.few).0 ∙ sym t.entry
signed-entry x true t =
    (coupling-factors (neg x) (not t.negative) t.k (neg_value x t.negative t.k 128 t.coupling) t.few).0 ∙ sym t.entry

module _ (n floor : ℕ) (a b : List ℕ) (m betas : List Float) (manner : Manner) (minus : ℕ → Bool) (beta : ℕ)
    (entries : (e : ℕ) → e < length (kept a b m)
    → TableEntry (mul binary64 (get_or betas beta nan) (get_or (kept_magnitudes a b m) e nan)) (minus e)
    (get_or (table_factors a b m betas) (lent_at (length (kept a b m)) beta e (minus e)) nan)) where
  abbrev couplings : List Float
  couplings = signed_couplings a b m betas minus beta

  signed-factors : single_factors couplings ≡ factors_in_use n floor a b m (table_factors a b m betas) manner minus beta
  signed-factors =
      let edges : length (early a b m) ≡ length (kept a b m) = length-map (kept a b m) (λ x. x.early) in
      let count : length couplings ≡ length (kept a b m) = tabulate-length (signed_coupling a b m betas minus beta) (length (kept a b m)) in
      tabulated nan (single_factors couplings) _ (length (early a b m)) (single-length couplings ∙ count ∙ sym edges)
      (λ e l.
      let k : e < length (kept a b m) = omega arith in
      single-at couplings e (omega (arith, count))
      ∙ ap (λ (y : Float). factor_of y false) (tabulate-at (signed_coupling a b m betas minus beta) (length (kept a b m)) e nan k)
      ∙ signed-entry (mul binary64 (get_or betas beta nan) (get_or (kept_magnitudes a b m) e nan)) (minus e) (entries e k)
      ∙ ap (λ (c : ℕ). get_or (table_factors a b m betas) (lent_at c beta e (minus e)) nan) (sym edges))

  pub signed-job : job_given n floor a b m (single_factors couplings) manner ≡ signed_job n floor a b m (table_factors a b m betas) manner minus beta
  signed-job = ap (λ (f : List Float). job_given n floor a b m f manner) signed-factors ∙ job_in_use n floor a b m (table_factors a b m betas) manner minus beta
