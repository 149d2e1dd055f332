-- Rows one after another, and rows of two rules that agree.
use Rattle.std.specs.Prelude.{◌≡◌, refl, List, ◌++◌, ℕ, zero, suc, ◌+◌, ◌<◌}
use Rattle.std.proofs.Common.{sym, append_assoc, append-nil, add-zero, add-suc, arith}
use Rattle.little_endian.specs.Rows.{rows}

pub rows_same : (f g : ℕ → List ℕ) (n : ℕ) → ((i : ℕ) → i < n → f i ≡ g i) → rows f n ≡ rows g n
unfolding rows
rows_same f g zero h = refl
rows_same f g (suc n) h = rw (rows_same f g n (λ i l. h i (omega arith)), h n (omega arith))

pub rows_both : (f : ℕ → List ℕ) (m n : ℕ) → rows f (m + n) ≡ rows f m ++ rows (λ i. f (m + i)) n
unfolding rows
rows_both f m zero = rw (add-zero m) (sym (append-nil (rows f m)))
rows_both f m (suc n) = rw (add-suc m n, rows_both f m n) (append_assoc (rows f m) (rows (λ i. f (m + i)) n) (f (m + n)))
