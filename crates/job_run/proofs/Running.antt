-- What a run says of its pairs, from what they were told.
use mathlib.Core.Path.{◌≡◌, ◌∙◌}
use mathlib.Core.Bool.{Bool, true, false, cond, not}
use mathlib.Core.List.{List}
use Prim.Native.Nat.{ℕ, ◌+◌}
use native.Mathlib.Omega.{arith}
use lib.Ieee.{Float}
use lib.ListN.{drop}
use Rattle.transfer_matrix.specs.Job.{Job}
use Rattle.transfer_matrix.specs.Rounded.{ieee}
use Rattle.transfer_matrix.specs.Sweep as S
use Rattle.vertex_step.specs.Ready.{PlanOf, Backward}
use Rattle.sweep_places.specs.Begun.{Stands}
use Rattle.pair_correlations.specs.Sound.{unsound, Outcome}

-- no kept vector stands before the run
module _ (plan us vs : List ℕ) (e r results : List Float) (n w scales : ℕ) (elementwise sound : Bool)
    (told : (J : Job Float) → PlanOf J plan (drop (scales + n) e) n w elementwise → Stands J plan e n w n
    → Outcome J us vs results sound × Backward J plan r n w 0) where
  outcome : (J : Job Float) → PlanOf J plan (drop (scales + n) e) n w elementwise → Outcome J us vs results sound
  outcome J of = (told J of (λ b. absurd (omega arith))).0

  -- every Z is sound: the results are the answers
  pub all_sound : (z : List Float) → sound ≡ true → (J : Job Float) → PlanOf J plan (drop (scales + n) e) n w elementwise
      → (sound ≡ not (unsound J us vs)) × (results ≡ cond sound (S.answers ieee J us vs) z)
  all_sound z t J of = let o = outcome J of in (o.told, o.values t ∙ rw t)

  -- one is not: the results are what they were set to
  pub one-unsound : (results' z : List Float) → sound ≡ false → results' ≡ z → (J : Job Float) → PlanOf J plan (drop (scales + n) e) n w elementwise
      → (sound ≡ not (unsound J us vs)) × (results' ≡ cond sound (S.answers ieee J us vs) z)
  one-unsound results' z f q J of = ((outcome J of).told, rw f q)
