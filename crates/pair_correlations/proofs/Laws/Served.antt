-- Laws of what specs/Served defines.
use Rattle.std.specs.Prelude.{◌≡◌, refl, Bool, true, false, List, ℕ, ◌<◌, length, get_or}
use Rattle.transfer_matrix.specs.Room.{arranged, waits, is_propagated}
use Rattle.pair_places.specs.Places.{Pairs, Places}
use Rattle.pair_places.proofs.Laws.Places.{later-forward, later-backward, earlier-forward}
use Rattle.pair_correlations.specs.Served.{Served}

-- a pair for which a backward vector is kept in either arrangement waits in both
waits_if : (less : Bool) (w : ℕ) (us vs : List ℕ) (i : ℕ) → (less ≡ true → is_propagated w us vs i ≡ true) → waits (arranged less) w us vs i ≡ true
waits_if true w us vs i h = h refl
waits_if false w us vs i h = refl

-- a plan with the places of an arrangement serves its pairs
pub served : (less : Bool) (plan us vs : List ℕ) (n w : ℕ) → Places (arranged less) plan us vs n w → Pairs us vs n
    → ((i : ℕ) → i < length us → get_or us i 0 ≡ get_or vs i 0 → ⊥) → Served plan us vs n w less
served less plan us vs n w g pairs distinct =
    record {
      pairs = pairs;
      distinct = distinct;
      forward = λ i b. later-forward (arranged less) plan us vs n w g i pairs b;
      backward = λ i b h. later-backward (arranged less) plan us vs n w g i pairs b (waits_if less w us vs i h);
      propagated = λ i b. earlier-forward (arranged less) plan us vs n w g i pairs b;
    }
