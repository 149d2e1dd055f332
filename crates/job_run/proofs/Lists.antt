-- A list at +0.0 throughout, and a list laid into another.
use mathlib.Core.Path.{◌≡◌, refl, sym, ap, ◌∙◌}
use mathlib.Core.List.{List}
use Prim.Native.Nat.{ℕ, ◌+◌, ◌≤◌, ◌<◌}
use native.Mathlib.Nat.{zero-add}
use native.Mathlib.Omega.{arith}
use lib.Ieee.{Float, nan}
use lib.ListN.{length, get_or, length-replicate, get_or-replicate}
use lib.Seq.{ext_get_or}
use Rattle.list_laws.specs.Tabulate.{tabulate}
use Rattle.list_laws.proofs.Laws.Tabulate.{tabulate-length, tabulate-at, tabulated}
use Rattle.list_laws.specs.Part.{put}
use Rattle.list_laws.proofs.Laws.Part.{part_at, part-put, put-length}
use Rattle.transfer_matrix.specs.Rounded.{ieee}
use Rattle.job_run.specs.Zeros.{zeros}

-- a whole list filled with +0.0
pub all-zeros : (l r : List Float) (z : Float) (n : ℕ) → z ≡ ieee.𝟘 → n ≡ length l → r ≡ put l 0 (tabulate (λ _. z) n) → r ≡ zeros (length l)
all-zeros l r z n e s q =
    let t = tabulate-length (λ _. z) n in
    let fits : 0 + length (tabulate (λ _. z) n) ≤ length l = omega arith in
    let k : length r ≡ length l = ap length q ∙ put-length l 0 (tabulate (λ _. z) n) fits in
    ext_get_or nan r (zeros (length l)) (k ∙ sym (length-replicate (length l) ieee.𝟘))
    (λ i b.
    let b' : i < n = omega arith in
    let b'' : i < length (tabulate (λ _. z) n) = omega arith in
    ap (λ (x : List Float). get_or x i nan) q
    ∙ ap (λ (j : ℕ). get_or (put l 0 (tabulate (λ _. z) n)) j nan) (sym (zero-add i))
    ∙ sym (part_at (put l 0 (tabulate (λ _. z) n)) 0 (length (tabulate (λ _. z) n)) i nan b'')
    ∙ ap (λ (x : List Float). get_or x i nan) (part-put l 0 (tabulate (λ _. z) n) fits)
    ∙ tabulate-at (λ _. z) n i nan b' ∙ e ∙ sym (get_or-replicate (length l) i ieee.𝟘 nan (omega arith)))

-- the entries of a list, one by one, are the list
pub entries_are : (d : List Float) (at : ℕ) (x : List Float) (n : ℕ) → n ≡ length x → put d at (tabulate (λ e. get_or x e nan) n) ≡ put d at x
entries_are d at x n e = ap (put d at) (sym (tabulated nan x (λ e. get_or x e nan) n (sym e) (λ i b. refl)))
