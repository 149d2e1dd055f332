-- The phase of a sweep, in either manner: the steps since its last rescaling, at most three.
use Rattle.std.specs.Prelude.{◌≡◌, refl, ◌⊎◌, Bool, true, false, cond, List, ℕ, suc, ◌%◌, ◌≤◌, eqb, Float}
use Rattle.std.proofs.Common.{inl, inr, arith}
use Rattle.std.proofs.lemmas.Bool.{eqb-false}
use Rattle.rounding.specs.Under.{unit, nought}
use Rattle.transfer_matrix.specs.Job.{Manner, block, per_element}
use Rattle.transfer_matrix.specs.Rounded.{ieee}
use Rattle.transfer_matrix.specs.Sweep.{stored, largest}

-- In blocks of four steps the phase is r; in the other manner each step rescales.
abbrev pub phase : Manner → ℕ → ℕ
phase block r = r
phase per_element r = 0

pub phase-most : (m : Manner) (r : ℕ) → r ≤ 3 → phase m r ≤ 3
phase-most block r l = l
phase-most per_element r l = omega arith

-- After the step at t, which ends a block where t mod 4 is e: 1.0 is stored and the phase goes up by one, or the largest entry is stored.
pub phase-next : (m : Manner) (e t r r' : ℕ) (x : List Float) → ((t % 4 ≡ e → ⊥) → r' ≡ suc r)
    → ((stored ieee m e t x ≡ unit) × (phase m r' ≡ suc (phase m r))) ⊎ (stored ieee m e t x ≡ largest ieee nought x)
unfolding stored
phase-next block e t r r' x h = go (eqb (t % 4) e) refl
  where
    go : (b : Bool) → eqb (t % 4) e ≡ b
        → ((cond b (largest ieee nought x) unit ≡ unit) × (r' ≡ suc r)) ⊎ (cond b (largest ieee nought x) unit ≡ largest ieee nought x)
    go true q = inr refl
    go false q = inl (refl, h (eqb-false (t % 4) e q))
phase-next per_element e t r r' x h = inr refl
