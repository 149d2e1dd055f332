-- What the plan has for the pairs.
use Rattle.std.specs.Prelude.{◌≡◌, Bool, true, List, ℕ, ◌<◌, length, get_or}
use Rattle.transfer_matrix.specs.Room.{earlier, later, is_propagated}
use Rattle.plan_steps.specs.Layout.{forward_place, backward_place}
use Rattle.pair_places.specs.Places.{Pairs}

-- Pairs of two vertices each, whose later vertex has a forward place and a backward one; the earlier one of a propagated pair has a forward
-- place. With less room only the later vertices of propagated pairs have a backward place.
pub record Served (plan us vs : List ℕ) (n w : ℕ) (less : Bool) : Type 0 where
  pub pairs : Pairs us vs n
  pub distinct : (i : ℕ) → i < length us → get_or us i 0 ≡ get_or vs i 0 → ⊥
  pub forward : (i : ℕ) → i < length us → 0 < forward_place plan (later us vs i)
  pub backward : (i : ℕ) → i < length us → (less ≡ true → is_propagated w us vs i ≡ true) → 0 < backward_place plan (later us vs i)
  pub propagated : (i : ℕ) → i < length us → is_propagated w us vs i ≡ true → 0 < forward_place plan (earlier us vs i)
