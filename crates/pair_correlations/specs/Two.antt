-- Two pairs answered in one pass.
use Rattle.std.specs.Prelude.{◌≡◌, Bool, true, false, List, ◌⊎◌, ℕ, ◌<◌, length, get_or, set, Float}
use Rattle.std.specs.Float.{nan, binary64}
use Rattle.std.specs.Float.Ieee.{div}
use Rattle.transfer_matrix.specs.Job.{Job}
use Rattle.transfer_matrix.specs.Room.{later}
use Rattle.transfer_matrix.specs.Rounded.{ieee}
use Rattle.transfer_matrix.specs.Sweep as S
use Rattle.pair_sums.specs.declared.sums.Source.{Source}
use Rattle.pair_sums.specs.declared.sums.Sums.{Sums}
use Rattle.pair_sums.specs.Pair.{SumsOf}
use Rattle.vertex_step.specs.Ready.{Still}
use Rattle.propagation.specs.declared.current.CurrentVector.{CurrentVector}
use Rattle.pair_correlations.specs.declared.pairs.AfterTwo.{AfterTwo}
use Rattle.propagation.specs.Current.{PlanSwept, CurrentKnown}
use Rattle.pair_correlations.specs.Sound.{soundly, unsound}

-- x is the answer of pair p, and its Z is sound.
pub record AnswerOf (J : Job Float) (us vs : List ℕ) (p : ℕ) (x : Float) : Type 0 where
  pub value : x ≡ S.answer ieee J (get_or us p 0) (get_or vs p 0)
  pub sound : soundly (S.Z ieee J (later us vs p)) ≡ true

-- Pair p has its answer in the results.
abbrev pub Answered : (J : Job Float) (us vs : List ℕ) (results : List Float) (p : ℕ) → Type 0
Answered J us vs results p = AnswerOf J us vs p (get_or results p nan)

-- N over Z, of sums that were read
abbrev pub quotient : Sums → Float
quotient s = div binary64 s.n s.z

-- The sums of a pair were read at x; their quotient is result p where Z is sound.
pub record WroteOne (r : List Float) (w : ℕ) (x : Source) (p : ℕ) (results₀ results : List Float) (sound : Bool) : Type 0 where
  pub sums : Sums
  pub sums-of : SumsOf r w x sums
  pub long : length results ≡ length results₀
  pub written : sound ≡ true → (soundly sums.z ≡ true) × (results ≡ set results₀ p (quotient sums))
  pub refused : sound ≡ false → soundly sums.z ≡ false

-- The sums of two pairs were read at x and y; their quotients are the results p and q where both Z are sound.
pub record WroteTwo (r : List Float) (w : ℕ) (x y : Source) (p q : ℕ) (results₀ results : List Float) (sound : Bool) : Type 0 where
  pub first : Sums
  pub second : Sums
  pub first_of : SumsOf r w x first
  pub second-of : SumsOf r w y second
  pub long : length results ≡ length results₀
  pub written : sound ≡ true → (soundly first.z ≡ true) × (soundly second.z ≡ true) × (results ≡ set (set results₀ p (quotient first)) q (quotient second))
  pub refused : sound ≡ false → (soundly first.z ≡ false) ⊎ (soundly second.z ≡ false)

-- The results x and y of pairs p and q are written.
pub record Written (J : Job Float) (us vs : List ℕ) (results₀ results : List Float) (p q : ℕ) : Type 0 where
  pub x : Float
  pub y : Float
  pub set_both : results ≡ set (set results₀ p x) q y
  pub first : AnswerOf J us vs p x
  pub second : AnswerOf J us vs q y

-- The pairs p and q are answered where both Z are sound; else some Z is not.
pub record AnsweredTwo (plan us vs : List ℕ) (r₀ r results₀ results : List Float) (n w scales p q : ℕ) (current : CurrentVector) (s : AfterTwo) : Type 0 where
  pub moving : s.current.place < 2
  pub long : length results ≡ length results₀
  pub still : Still r₀ r w scales
  pub answered : (J : Job Float) (elementwise : Bool) → PlanSwept J plan r₀ n w scales elementwise → CurrentKnown J r₀ n w current → s.sound ≡ true
      → CurrentKnown J r n w s.current × Written J us vs results₀ results p q
  pub unanswered : (J : Job Float) (elementwise : Bool) → PlanSwept J plan r₀ n w scales elementwise → CurrentKnown J r₀ n w current → s.sound ≡ false → unsound J us vs ≡ true
