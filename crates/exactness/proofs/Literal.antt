-- The literal reading of "the forward vector at vertex 0 is the start": steps run from vertex 1 on. Its exact answer is the same.
use Rattle.std.specs.Prelude.{◌≡◌, refl, List}
use Prim.Native.Nat.{ℕ, zero, suc, ◌≤◌}
use Rattle.transfer_matrix.specs.Arithmetic.{Ops}
use Rattle.transfer_matrix.specs.Job.{Job}
use Rattle.transfer_matrix.specs.Checked.{Checked}
use Rattle.transfer_matrix.specs.Sweep.{Swept, start, sweep_forward, backward}
use Rattle.exactness.specs.Textbook.{textbook}
use Rattle.exactness.proofs.Laws.Positive as Positive
use Rattle.exactness.proofs.Laws.Own as Own
use Rattle.exactness.proofs.Laws.Start as Start
use Rattle.exactness.proofs.Laws.Algebra.{Laws, Pos}
use Rattle.exactness.proofs.AnyScales.{Scaled, propagated_of, ZOf, answer_of}
use Rattle.exactness.proofs.Exactness.{exactly-scaled}

module _ (O : Ops) (J : Job O.K) where
  open O use {K, 𝟙, ◌⊘◌}

  infixl 70 ◌⊘◌
  -- The forward vector at t, with the stored largest entry after the step at t.
  unfoldable pub literally : ℕ → Swept O J
  literally zero = (start O J.window, 𝟙)
  literally (suc t) = sweep_forward O J (suc t) (literally t)

  unfoldable pub literal_forward : ℕ → List K
  literal_forward t = (literally t).0

  -- The scale of the step at t, 1.0 at first. No step takes the one at 0: with one half a step there would leave the start as it is.
  unfoldable pub literal_scale : ℕ → K
  literal_scale zero = Start.one_half O
  literal_scale (suc t) = 𝟙 ⊘ (literally t).1

  -- What is read off these vectors: propagated vectors, Z and the answer.
  abbrev pub literal_propagated : ℕ → ℕ → List K
  literal_propagated = propagated_of O J literal_forward literal_scale (backward O J)

  abbrev pub literal_z : ℕ → K
  literal_z = ZOf O J literal_forward literal_scale (backward O J)

  abbrev pub literal_answer : ℕ → ℕ → K
  literal_answer = answer_of O J literal_forward literal_scale (backward O J)

  module _ (L : Laws O) (ok : Checked (Pos O) J) where
    open L use {pos_inv}

    literally-positive : (t : ℕ) → Positive.PositiveSwept O L J ok (literally t)
    unfolding literally
    literally-positive zero = Positive.start_pos O L J ok
    literally-positive (suc t) = Positive.forward_pos O L J ok (suc t) _ (literally-positive t)

    literal_sweeps : Scaled O J literal_forward literal_scale (backward O J) (Own.backward_scale O J)
    unfolding literally literal_forward literal_scale sweep_forward
    literal_sweeps = record {
      first = Start.start_stays O L J ok;
      later = λ t. refl;
      final = Own.final O J;
      earlier = Own.earlier O J;
      forward-positive = scale-positive;
      backward-positive = Own.backward-positive O J L ok;
    }
      where
        scale-positive : (t : ℕ) → Pos O (literal_scale t)
        scale-positive zero = Start.half-positive O L J ok
        scale-positive (suc t) = pos_inv _ (literally-positive t).kept

    pub exactly-literal : (u v : ℕ) → (u ≡ v → ⊥) → u ≤ J.last → v ≤ J.last → literal_answer u v ≡ textbook O J u v
    exactly-literal u v differ k l = exactly-scaled O L J ok literal_sweeps u v differ k l
