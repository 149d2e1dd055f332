-- The factors of a coupling in the words of its value. That check 10 passes them is in Laws/Accepted.
use Rattle.std.specs.Prelude.{◌≡◌, refl, Bool, true, false, cond, not, ℕ, zero, suc, ◌+◌, ◌-◌, ◌≤◌, ℤ, pos, neg_ℤ, Float}
use Rattle.std.proofs.Common.{ap, ◌∙◌, arith, lt-ltb, le-ltb}
use Rattle.std.specs.Float.{nan, inf, fin}
use Rattle.std.specs.Float.Ieee.Exact.{HasValue}
use Rattle.std.proofs.lemmas.Bool.{not-true}
use Rattle.coupling_grid.specs.Grid.{Place, place_of, off_grid, multiple}
use Rattle.coupling_grid.proofs.Theorems.{place_at}
use Rattle.house_table.specs.House.{house, entry_at}
use Rattle.house_factors.specs.Factors.{factor_at, factor_of}

-- ±k
abbrev pub signed : Bool → ℕ → ℤ
signed false k = pos k
signed true k = neg_ℤ (pos k)

entry_of : (s : Bool) (k : ℕ) → k ≤ 512 → entry_at (cond s (512 - k) (512 + k)) ≡ signed s k
entry_of false k h = let e : 512 + k - 512 ≡ k = omega arith in rw (le-ltb (512 + k) 512 (omega arith), e)
entry_of true zero h = refl
entry_of true (suc k) h = let e : 512 - suc (512 - suc k) ≡ k = omega arith in rw (lt-ltb (512 - suc k) 512 (omega arith), e)

turned : (s : Bool) (k : ℕ) → neg_ℤ (signed s k) ≡ signed (not s) k
turned false k = refl
turned true zero = refl
turned true (suc k) = refl

-- a coupling ±k / 128 has entry ±k, and entry ∓k for sign minus
pub coupling-factors : (x : Float) (s : Bool) (k : ℕ) → HasValue x s k 128 → k ≤ 512
    → (factor_of x false ≡ house (signed s k)) × (factor_of x true ≡ house (signed (not s) k))
unfolding factor_of
coupling-factors x s k v h =
    let p = (place_at x s k v h).1 in
    let e = entry_of s k h in (
      ap (λ (a : Place). factor_at a false) p ∙ ap house e,
      ap (λ (a : Place). factor_at a true) p ∙ ap (λ (i : ℤ). house (neg_ℤ i)) e ∙ ap house (turned s k),
    )

-- a coupling off the grid has no factor; any other is ±k / 128 (`place-only` of `coupling_grid`)
pub off_has_none : (x : Float) (minus : Bool) → off_grid x ≡ true → factor_of x minus ≡ nan
unfolding factor_of place_of off_grid
off_has_none nan minus h = refl
off_has_none (inf s) minus h = refl
off_has_none (fin s m e) minus h = rw (not-true (multiple m e) h)
