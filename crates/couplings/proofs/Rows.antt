-- The couplings on their way into the results, one beta after another.
use mathlib.Core.Path.{◌≡◌, sym, ap, ◌∙◌}
use mathlib.Core.List.{List, ◌++◌, append-nil}
use Prim.Native.Nat.{ℕ, ◌+◌, ◌*◌, ◌≤◌, ◌<◌}
use native.Mathlib.Nat.{zero-add, zero-mul, mul-le-mul_right}
use native.Mathlib.Omega.{arith}
use lib.Ieee.{Float, nan, binary64, mul}
use lib.ListN.{length, get_or, drop_of_length-le}
use Rattle.list_laws.specs.Part.{put}
use Rattle.list_laws.proofs.Laws.Part.{fill_none, fill_run, fill_length}
use Rattle.list_laws.specs.Tabulate.{tabulate}
use Rattle.list_laws.proofs.Laws.Tabulate.{tabulate-length}
use Rattle.refusals.proofs.Laws.Couplings.{coupling-is}
use Rattle.couplings.specs.Couplings.{coupling_at, all_couplings}

module _ (l betas mag : List Float) where
  -- the results with the couplings of the first b betas
  abbrev pub rows : ℕ → List Float
  rows b = put l 0 (tabulate (coupling_at betas mag) (b * length mag))

  pub no_rows : l ≡ rows 0
  no_rows = rw (zero-mul (length mag)) (fill_none l 0 (coupling_at betas mag))

  module _ (long : length l ≡ length betas * length mag) where
    pub row_fits : (b : ℕ) → b < length betas → b * length mag + length mag ≤ length l
    row_fits b h = let p : (b + 1) * length mag ≤ length betas * length mag = mul-le-mul_right (length mag) (omega arith) in omega arith

    pub rows-length : (b : ℕ) → b ≤ length betas → length (rows b) ≡ length l
    rows-length b h =
        let p : b * length mag ≤ length betas * length mag = mul-le-mul_right (length mag) h in
        fill_length l 0 (coupling_at betas mag) (b * length mag) (omega arith)

    pub row_more : (b : ℕ) (v v' : List Float) → b < length betas → v ≡ rows b
        → v' ≡ put v (b * length mag) (tabulate (λ e. mul binary64 (get_or betas b nan) (get_or mag e nan)) (length mag)) → v' ≡ rows (b + 1)
    row_more b v v' h p q =
        let k : b * length mag + length mag ≡ (b + 1) * length mag = omega arith in
        let fits = row_fits b h in
        let row : ℕ → Float = λ e. mul binary64 (get_or betas b nan) (get_or mag e nan) in
        q ∙ ap (λ (y : List Float). put y (b * length mag) (tabulate row (length mag))) p
        ∙ ap (λ (j : ℕ). put (rows b) j (tabulate row (length mag))) (sym (zero-add (b * length mag)))
        ∙ fill_run l 0 (coupling_at betas mag) row (b * length mag) (length mag) (omega arith) (λ e c. coupling-is betas mag b e c)
        ∙ ap (λ (j : ℕ). put l 0 (tabulate (coupling_at betas mag) j)) k

    pub all-rows : (b : ℕ) → b ≡ length betas → rows b ≡ all_couplings betas mag
    unfolding put
    all-rows b e =
        let k : b * length mag ≡ length betas * length mag = ap (λ (j : ℕ). j * length mag) e in
        let t = tabulate-length (coupling_at betas mag) (b * length mag) in
        ap (λ y. tabulate (coupling_at betas mag) (b * length mag) ++ y)
        (drop_of_length-le l {i = 0 + length (tabulate (coupling_at betas mag) (b * length mag))} (omega arith))
        ∙ append-nil (tabulate (coupling_at betas mag) (b * length mag)) ∙ ap (tabulate (coupling_at betas mag)) k
