-- Direct pairs that are answered as the backward sweep passes their later vertex: the first ones of the order.
use Rattle.std.specs.Prelude.{◌≡◌, Bool, true, false, List, ℕ, ◌-◌, ◌≤◌, ◌<◌, length, get_or, Float}
use Rattle.transfer_matrix.specs.Job.{Job}
use Rattle.transfer_matrix.specs.Room.{earlier, later}
use Rattle.plan_steps.specs.Layout.{forward_place}
use Rattle.pair_order.specs.Order.{Ordered}
use Rattle.pair_correlations.specs.Sound.{unsound}
use Rattle.pair_correlations.specs.Two.{Answered}

-- The first `passing` pairs of the order are direct ones of vertices below n, by rising later vertex, which has a forward place.
pub record Passing (plan us vs order : List ℕ) (n w passing : ℕ) : Type 0 where
  pub matched : length us ≡ length vs
  pub ordered : Ordered order (length us)
  pub inside : passing ≤ length order
  pub below : (k : ℕ) → k < passing → later us vs (get_or order k 0) < n
  pub apart : (k : ℕ) → k < passing → earlier us vs (get_or order k 0) < later us vs (get_or order k 0)
  pub near : (k : ℕ) → k < passing → later us vs (get_or order k 0) - earlier us vs (get_or order k 0) < w
  pub rising : (j k : ℕ) → j ≤ k → k < passing → later us vs (get_or order j 0) ≤ later us vs (get_or order k 0)
  pub placed : (k : ℕ) → k < passing → 0 < forward_place plan (later us vs (get_or order k 0))

-- Of the first `left` pairs those from `from` on, and no more before them, have the later vertex v.
pub record VertexPairs (us vs order : List ℕ) (left v from : ℕ) : Type 0 where
  pub inside : from ≤ left
  pub end : (k : ℕ) → from ≤ k → k < left → later us vs (get_or order k 0) ≡ v
  pub first : 0 < from → later us vs (get_or order (from - 1) 0) ≡ v → ⊥

-- In job J those from `left` on are answered where all their Z are sound; else some Z is not.
pub record AnsweredFrom (J : Job Float) (us vs order : List ℕ) (left passing : ℕ) (results : List Float) (sound : Bool) : Type 0 where
  pub answered : sound ≡ true → (k : ℕ) → left ≤ k → k < passing → Answered J us vs results (get_or order k 0)
  pub unanswered : sound ≡ false → unsound J us vs ≡ true
