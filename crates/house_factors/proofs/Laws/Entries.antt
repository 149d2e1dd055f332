-- A coupling's factor as an entry of the table: at its place, or as far from the other end. So it is finite and above zero.
use Rattle.std.specs.Prelude.{◌≡◌, refl, Bool, true, false, cond, ℕ, suc, ◌+◌, ◌-◌, ◌≤◌, ◌<◌, T, pos, neg_ℤ, get_or, Float}
use Rattle.std.proofs.Common.{sym, ap, ◌∙◌, subst, arith, lt-ltb, le-ltb}
use Rattle.std.proofs.Math.Decide.{dec_lt}
use Rattle.std.specs.Float.{nan}
use Rattle.std.specs.Float.Ieee.Positive.{positive}
use Rattle.coupling_grid.specs.Grid.{Place, At, place_of, off_grid}
use Rattle.coupling_grid.proofs.Theorems.{place-only}
use Rattle.house_table.specs.House.{house, entry_at, house_table}
use Rattle.house_table.proofs.Theorems.{house-positive}
use Rattle.house_table.proofs.Laws.Table.{table_at}
use Rattle.house_factors.specs.Factors.{factor_at, factor_of}

-- as far from the other end is the entry with the other sign
mirrored : (p : ℕ) → p ≤ 1024 → entry_at (1024 - p) ≡ neg_ℤ (entry_at p)
mirrored p h = go (dec_lt p 512) (dec_lt 512 p)
  where
    go : Dec (p < 512) → Dec (512 < p) → entry_at (1024 - p) ≡ neg_ℤ (entry_at p)
    go (yes l) d =
        let e : 1024 - p - 512 ≡ suc (512 - suc p) = omega arith in
        rw (lt-ltb p 512 l, le-ltb (1024 - p) 512 (omega arith)) (ap pos e)
    go (no n) (yes l) =
        let e : p - 512 ≡ suc (512 - suc (1024 - p)) = omega (arith, n) in
        rw (le-ltb p 512 (omega (arith, n)), lt-ltb (1024 - p) 512 (omega arith), e)
    go (no n) (no m) = let e : p ≡ 512 = omega (arith, n, m) in rw e

-- where the factor of the coupling at place p stands, by the sign
abbrev pub stands_at : ℕ → Bool → ℕ
stands_at p minus = cond minus (1024 - p) p

stands_in : (p : ℕ) (minus : Bool) → p ≤ 1024 → stands_at p minus ≤ 1024
stands_in p true h = omega arith
stands_in p false h = h

stands-is : (p : ℕ) (minus : Bool) → p ≤ 1024 → house (entry_at (stands_at p minus)) ≡ factor_at (At p) minus
stands-is p true h = ap house (mirrored p h)
stands-is p false h = refl

pub entry-is : (x : Float) (p : ℕ) (minus : Bool) → At p ≡ place_of x → p ≤ 1024 → get_or house_table (stands_at p minus) nan ≡ factor_of x minus
unfolding factor_of
entry-is x p minus e h =
    let l = stands_in p minus h in
    table_at house_table (stands_at p minus) refl (omega arith) ∙ stands-is p minus h ∙ ap (λ (a : Place). factor_at a minus) e

pub factor-positive : (x : Float) (minus : Bool) → off_grid x ≡ false → T (positive (factor_of x minus))
unfolding factor_of
factor-positive x minus on =
    let (s, k, _, few, at) = place-only x on in
    let p = cond s (512 - k) (512 + k) in
    let h : p ≤ 1024 = inside s k few in
    let l = stands_in p minus h in
    subst (λ (y : Float). T (positive y)) (stands-is p minus h ∙ ap (λ (a : Place). factor_at a minus) (sym at))
    (house-positive (stands_at p minus) (omega arith))
  where
    inside : (s : Bool) (k : ℕ) → k ≤ 512 → cond s (512 - k) (512 + k) ≤ 1024
    inside true k few = omega arith
    inside false k few = omega arith
