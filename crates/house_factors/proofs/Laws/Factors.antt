-- Laws of the factor lists: their lengths and entries.
use Rattle.std.specs.Prelude.{◌≡◌, Bool, true, false, cond, List, ℕ, ◌+◌, ◌*◌, ◌/◌, ◌%◌, ◌<◌, length, get_or, Float}
use Rattle.std.proofs.Common.{◌∙◌, arith}
use Rattle.std.specs.Float.{nan}
use Rattle.list_laws.proofs.Laws.Tabulate.{tabulate-length, tabulate-at}
use Rattle.house_factors.specs.Factors.{factor_of, single_factors, paired_factor, paired_factors}

pub single-length : (l : List Float) → length (single_factors l) ≡ length l
unfolding single_factors
single-length l = tabulate-length (λ e. factor_of (get_or l e nan) false) (length l)

pub single-at : (l : List Float) (i : ℕ) → i < length l → get_or (single_factors l) i nan ≡ factor_of (get_or l i nan) false
unfolding single_factors
single-at l i h = tabulate-at (λ e. factor_of (get_or l e nan) false) (length l) i nan h

pub paired-length : (l : List Float) → length (paired_factors l) ≡ 2 * length l
unfolding paired_factors
paired-length l = tabulate-length (paired_factor l) (2 * length l)

-- by the place in the list
pub paired_in : (l : List Float) (k : ℕ) → k < 2 * length l → get_or (paired_factors l) k nan ≡ paired_factor l k
unfolding paired_factors
paired_in l k h = tabulate-at (paired_factor l) (2 * length l) k nan h

-- by the coupling and its sign
pub paired_at : (l : List Float) (i : ℕ) (minus : Bool) → i < length l → get_or (paired_factors l) (2 * i + cond minus 1 0) nan ≡ factor_of (get_or l i nan) minus
paired_at l i true h =
    let q : (2 * i + 1) / 2 ≡ i = omega arith in
    let r : (2 * i + 1) % 2 ≡ 1 = omega arith in
    paired_in l (2 * i + 1) (omega arith) ∙ rw (q, r)
paired_at l i false h =
    let q : (2 * i + 0) / 2 ≡ i = omega arith in
    let r : (2 * i + 0) % 2 ≡ 0 = omega arith in
    paired_in l (2 * i + 0) (omega arith) ∙ rw (q, r)
