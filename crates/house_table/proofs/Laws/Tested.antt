-- The test of the whole table, which is computed at once, and what it says of an entry.
use Rattle.std.specs.Prelude.{◌≡◌, refl, Bool, true, false, not, ◌&&◌, ℕ, ◌+◌, ◌*◌, ◌%◌, ◌^◌, ◌≤◌, ◌<◌, T, leb, ltb, eqb, ℤ}
use Rattle.std.proofs.Common.{ap, sym, subst, true≢false, leb-true, ltb-true}
use Rattle.std.specs.Float.{binary64}
use Rattle.std.specs.Float.Ieee.{lt, size}
use Rattle.std.specs.Float.Ieee.Order.{drop}
use Rattle.std.specs.Float.Ieee.Scale.{grid, overflow}
use Rattle.std.proofs.lemmas.Bool.{eqb-false, not-true}
use Rattle.list_laws.specs.Search.{some}
use Rattle.list_laws.proofs.Laws.Search.{none-at}
use Rattle.house_table.specs.House.{series_top, series_bottom, house, entry_at}

-- at entry i the series is in the normal range, does not overflow, and is in no middle of two doubles
unfoldable pub clear : ℤ → Bool
unfolding series_top series_bottom size
clear i =
    let n = series_top i * 2 ^ 1074 in
    let u = series_bottom * 2 ^ drop 53 n series_bottom in
    leb (2 ^ 52 * series_bottom) n && ltb (grid binary64 (series_top i) series_bottom) (overflow binary64) && not (eqb (n % u * 2) u)

-- the entry at place p is below the next, and so is the last one, below what entry 513 would be
unfoldable pub rises : ℕ → Bool
unfolding house lt
rises p = lt (house (entry_at p)) (house (entry_at (p + 1)))

unfoldable pub ruled : ℕ → Bool
unfolding clear rises
ruled p = clear (entry_at p) && rises p

-- ---- the test of all entries
all-ruled : some (λ p. not (ruled p)) 1025 ≡ false
unfolding some ruled
all-ruled = refl

-- ---- carried to the entry at a place
pub record Ruled (p : ℕ) : Type 0 where
  pub normal : 2 ^ 52 * series_bottom ≤ series_top (entry_at p) * 2 ^ 1074
  pub bounded : grid binary64 (series_top (entry_at p)) series_bottom < overflow binary64
  pub no_tie :
      let n = series_top (entry_at p) * 2 ^ 1074 in let u = series_bottom * 2 ^ drop 53 n series_bottom in n % u * 2 ≡ u → ⊥
  pub next : T (lt (house (entry_at p)) (house (entry_at (p + 1))))

both_of : (a b : Bool) → not (a && b) ≡ false → (a ≡ true) × (b ≡ true)
both_of true true h = (refl, refl)
both_of true false h = absurd (true≢false h)
both_of false b h = absurd (true≢false h)

ruled-is : (p : ℕ) → not (ruled p) ≡ false → Ruled p
unfolding ruled clear rises
ruled-is p h =
    let i = entry_at p in
    let n = series_top i * 2 ^ 1074 in
    let u = series_bottom * 2 ^ drop 53 n series_bottom in
    let (abc, d) = both_of (clear i) (rises p) h in
    let (ab, c) = both_of (leb (2 ^ 52 * series_bottom) n && ltb (grid binary64 (series_top i) series_bottom) (overflow binary64)) (not (eqb (n % u * 2) u)) (ap not abc) in
    let (a, b) = both_of (leb (2 ^ 52 * series_bottom) n) (ltb (grid binary64 (series_top i) series_bottom) (overflow binary64)) (ap not ab) in
    record {
      normal = leb-true (2 ^ 52 * series_bottom) n a;
      bounded = ltb-true (grid binary64 (series_top i) series_bottom) (overflow binary64) b;
      no_tie = eqb-false (n % u * 2) u (not-true (eqb (n % u * 2) u) c);
      next = subst T (sym d) tt;
    }

pub ruled-at : (p : ℕ) → p < 1025 → Ruled p
ruled-at p h = ruled-is p (none-at (λ q. not (ruled q)) 1025 p h all-ruled)
