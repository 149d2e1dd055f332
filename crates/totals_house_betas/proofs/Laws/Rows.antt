-- The totals of one beta are a row of those of all.
use Rattle.std.specs.Prelude.{◌≡◌, List, ℕ, ◌+◌, ◌*◌, ◌/◌, ◌%◌, ◌<◌, Float, length}
use Rattle.std.proofs.Common.{ap, ◌∙◌, add-zero, mod-eq_of_lt, div-lt_iff_lt-mul, arith}
use Rattle.std.proofs.Math.Nat.{mul-add-div_right, mul-add-mod_self_right, div-eq_of_lt}
use Rattle.transfer_matrix.specs.Job.{Job}
use Rattle.totals_configuration.specs.Powers.{correlation_at}
use Rattle.totals_house_betas.specs.Betas.{alone}

-- number i of row b of so many columns
pub row_of : (b i columns : ℕ) → i < columns → (b * columns + i) / columns ≡ b
row_of b i columns l = mul-add-div_right (omega arith) b i ∙ ap (λ (k : ℕ). b + k) (div-eq_of_lt l) ∙ add-zero b

pub column-of : (b i columns : ℕ) → i < columns → (b * columns + i) % columns ≡ i
column-of b i columns l = mul-add-mod_self_right b columns i ∙ mod-eq_of_lt l

-- the correlation of pair p at beta b
pub correlation-row : (J : ℕ → Job Float) (us vs : List ℕ) (b p : ℕ) → p < length us → correlation_at (alone J b) us vs p ≡ correlation_at J us vs (b * length us + p)
correlation-row J us vs b p l = rw (mod-eq_of_lt l, row_of b p (length us) l, column-of b p (length us) l)

-- the same of a configuration that is stored, of so many
pub stored_row : (J : ℕ → ℕ → Job Float) (us vs : List ℕ) (all b i : ℕ) → 0 < all → i < length us * all
    → correlation_at (alone (J (i % all)) b) us vs (i / all) ≡ correlation_at (J ((b * (length us * all) + i) % all)) us vs ((b * (length us * all) + i) / all)
stored_row J us vs all b i some l =
    let p : i / all < length us = (div-lt_iff_lt-mul some).1 l in
    let e : b * (length us * all) + i ≡ b * length us * all + i = omega arith in
    let q : (b * (length us * all) + i) % all ≡ i % all = rw e (mul-add-mod_self_right (b * length us) all i) in
    let r : (b * (length us * all) + i) / all ≡ b * length us + i / all = rw e (mul-add-div_right some (b * length us) i) in
    correlation-row (J (i % all)) us vs b (i / all) p ∙ rw (q, r)
