-- Couplings that 23 passes: 10 passes their factors, which are the table's entries. And what a call answers and leaves by a refusal that is the same unless it
-- is 23.
use Rattle.std.specs.Prelude.{◌≡◌, Bool, true, false, cond, not, List, ℕ, suc, ◌+◌, ◌*◌, ◌<◌, T, eqb, Float, length, get_or}
use Rattle.std.proofs.Common.{sym, ap, ◌∙◌, subst, true≢false, arith, eqb-true}
use Rattle.std.specs.Float.{nan, binary64}
use Rattle.std.specs.Float.Ieee.{mul}
use Rattle.std.specs.Float.Ieee.Positive.{positive}
use Rattle.std.proofs.lemmas.List.{length-map}
use Rattle.std.proofs.lemmas.Bool.{not-false}
use Rattle.list_laws.proofs.Laws.Search.{or-false, none-at}
use Rattle.transfer_matrix.specs.Configuration.{lent_at}
use Rattle.coupling_grid.specs.Grid.{off_grid, some_off_grid}
use Rattle.coupling_grid.proofs.Theorems.{place-only}
use Rattle.house_table.specs.House.{house}
use Rattle.std.specs.declared.result.Result.{Result}
use Rattle.refusals.specs.declared.Refusal.{Refusal}
use Rattle.std.specs.declared.result.Result.TheVariants.{Ok, Err}
use Rattle.refusals.specs.declared.Refusal.TheVariants.{Couplings}
use Rattle.refusals.specs.Couplings.{all_couplings}
use Rattle.refusals.specs.Edges.{kept, kept_magnitudes}
use Rattle.refusals.specs.Key.{Key}
use Rattle.refusals.specs.Request.{Request, bad_factor_list, bad_coupling_list, signed_factors}
use Rattle.refusals.specs.Refusal.{checks, refusal}
use Rattle.refusals.proofs.Laws.Couplings.{coupling-inside, all-length, all-at, products-on}
use Rattle.refusals.proofs.Laws.Answers.{number-not_zero, answered-only}
use Rattle.refusals.specs.Numbers.{refused}
use Rattle.refusals.proofs.Laws.Later.{answerable, is_among}
use Rattle.house_factors.specs.Factors.{factor_of, single_factors, paired_factors}
use Rattle.house_factors.specs.Theorems.{signed, coupling-factors}
use Rattle.house_factors.proofs.Laws.Entries.{factor-positive}
use Rattle.house_factors.proofs.Laws.Factors.{single-at, paired_at}
use Rattle.house_factors.proofs.Laws.Accepted.{single-accepted, paired-accepted}
use Rattle.totals_call.specs.Calls.{Totalled, Stored}
use Rattle.demands_house.specs.Factors.{table_factors, TableEntry}

-- ---- couplings that 23 passes

pub on_grid : (couplings : List Float) (count : ℕ) → bad_coupling_list couplings count ≡ false → (length couplings ≡ count) × (some_off_grid couplings ≡ false)
on_grid couplings count h =
    let p = or-false (not (eqb (length couplings) count)) (some_off_grid couplings) h in
    (eqb-true (length couplings) count (not-false _ p.0), p.1)

-- so 10 passes the table's factors: one for each coupling,
pub single_pass : (couplings : List Float) (count : ℕ) → bad_coupling_list couplings count ≡ false → bad_factor_list (single_factors couplings) count ≡ false
single_pass couplings count h =
    let p = on_grid couplings count h in
    subst (λ (k : ℕ). bad_factor_list (single_factors couplings) k ≡ false) p.0 (single-accepted couplings p.1)

-- or two for each coupling of a beta and a kept edge
pub paired_pass : (a b : List ℕ) (m betas : List Float)
    → bad_coupling_list (all_couplings betas (kept_magnitudes a b m)) (length betas * length (kept_magnitudes a b m)) ≡ false
    → bad_factor_list (paired_factors (all_couplings betas (kept_magnitudes a b m))) (signed_factors (length betas) (length (kept a b m))) ≡ false
paired_pass a b m betas h =
    let couplings = all_couplings betas (kept_magnitudes a b m) in
    let p = on_grid couplings (length betas * length (kept_magnitudes a b m)) h in
    let edges : length (kept_magnitudes a b m) ≡ length (kept a b m) = length-map (kept a b m) (λ e. e.magnitude) in
    subst (λ (k : ℕ). bad_factor_list (paired_factors couplings) (2 * k) ≡ false) (p.0 ∙ ap (λ (k : ℕ). length betas * k) edges) (paired-accepted couplings p.1)

-- ---- and each factor is its coupling's entry of the table

entry_at : (x : Float) (minus : Bool) {factor : Float} → off_grid x ≡ false → factor ≡ factor_of x minus → TableEntry x minus factor
entry_at x minus {factor} on e =
    let (s, k, v, few, _) = place-only x on in
    record {
      negative = s;
      k = k;
      coupling = v;
      few = few;
      entry = e ∙ by_sign s k (coupling-factors x s k v few) minus;
      above = subst (λ (f : Float). T (positive f)) (sym e) (factor-positive x minus on);
    }
  where
    by_sign : (s : Bool) (k : ℕ) → (factor_of x false ≡ house (signed s k)) × (factor_of x true ≡ house (signed (not s) k))
        → (t : Bool) → factor_of x t ≡ house (signed (cond t (not s) s) k)
    by_sign s k h false = h.0
    by_sign s k h true = h.1

pub single-entries : (couplings : List Float) (count : ℕ) → bad_coupling_list couplings count ≡ false → (e : ℕ) → e < count
    → TableEntry (get_or couplings e nan) false (get_or (single_factors couplings) e nan)
single-entries couplings count h e l =
    let p = on_grid couplings count h in
    let inside : e < length couplings = omega (arith, p.0) in
    entry_at (get_or couplings e nan) false (none-at (λ i. off_grid (get_or couplings i nan)) (length couplings) e inside p.1) (single-at couplings e inside)

pub paired-entries : (a b : List ℕ) (m betas : List Float)
    → bad_coupling_list (all_couplings betas (kept_magnitudes a b m)) (length betas * length (kept_magnitudes a b m)) ≡ false
    → (beta e : ℕ) (minus : Bool) → beta < length betas → e < length (kept a b m)
    → TableEntry (mul binary64 (get_or betas beta nan) (get_or (kept_magnitudes a b m) e nan)) minus
    (get_or (table_factors a b m betas) (lent_at (length (kept a b m)) beta e minus) nan)
paired-entries a b m betas h beta e minus in-betas l =
    let mag = kept_magnitudes a b m in
    let edges : length mag ≡ length (kept a b m) = length-map (kept a b m) (λ x. x.magnitude) in
    let k : e < length mag = omega (arith, edges) in
    let inside : beta * length mag + e < length (all_couplings betas mag) = omega (arith, all-length betas mag, coupling-inside betas mag beta e in-betas k) in
    entry_at (mul binary64 (get_or betas beta nan) (get_or mag e nan)) minus (products-on betas mag h beta e in-betas k)
    (ap (λ (c : ℕ). get_or (table_factors a b m betas) (lent_at c beta e minus) nan) (sym edges)
    ∙ paired_at (all_couplings betas mag) (beta * length mag + e) minus inside
    ∙ ap (λ (x : Float). factor_of x minus) (all-at betas mag beta e in-betas k))

-- ---- a number that no check of the call has is not answered

pub never : (j : ℕ) (concerned : List Key) (r : Request) → answerable checks concerned (suc j) ≡ false → refusal concerned r ≡ suc j → ⊥
never j concerned r none e =
    let some : answerable checks concerned (refusal concerned r) ≡ true = is_among concerned r checks (λ z. let q : suc j ≡ 0 = sym e ∙ z in omega arith) in
    true≢false (sym some ∙ ap (λ (k : ℕ). answerable checks concerned k) e ∙ none)

-- ---- what a call answers and leaves, by another refusal that is the same unless it is 23

module _ {k j count : ℕ} {squared fourthed : List Float} {end : ℕ} {r : Result ℕ Refusal} {squares squares' fourths fourths' work work' : List Float} where
  pub totalled_by : ((k ≡ 23 → ⊥) → k ≡ j) → Totalled k count squared fourthed end r squares squares' fourths fourths' work work' → (r ≡ Err Couplings → ⊥)
      → Totalled j count squared fourthed end r squares squares' fourths fourths' work work'
  totalled_by same t h =
      subst (λ (i : ℕ). Totalled i count squared fourthed end r squares squares' fourths fourths' work work')
      (same (λ p. h (answered-only k count r (Err Couplings) t.answer (sym p, tt)))) t

module _ {k j count : ℕ} {correlations : List Float} {end : ℕ} {r : Result ℕ Refusal} {stored stored' work work' : List Float} where
  pub stored_by : ((k ≡ 23 → ⊥) → k ≡ j) → Stored k count correlations end r stored stored' work work' → (r ≡ Err Couplings → ⊥)
      → Stored j count correlations end r stored stored' work work'
  stored_by same t h =
      subst (λ (i : ℕ). Stored i count correlations end r stored stored' work work') (same (λ p. h (answered-only k count r (Err Couplings) t.answer (sym p, tt)))) t

-- an accepted call is not refused
pub number_not : {c : ℕ} {e : Refusal} → ◌≡◌ {A = Result ℕ Refusal} (Ok c) (Err e) → ⊥
number_not {c} {e} p = number-not_zero e (sym (ap (λ (x : Result ℕ Refusal). refused x) p))
