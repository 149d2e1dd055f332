-- The entries of a step's vector. No law of arithmetic is used, so this holds of rounded sweeps too.
use Rattle.std.specs.Prelude.{◌≡◌, true, false, cond, List, ℕ, ◌+◌, ◌*◌, ◌-◌, ◌%◌, ◌^◌, ◌<◌, ltb}
use Rattle.transfer_matrix.specs.Arithmetic.{Ops}
use Rattle.list_laws.specs.Bits.{bit}
use Rattle.list_laws.proofs.Laws.Tabulate.{tabulate-at}
use Rattle.transfer_matrix.specs.Job.{Step}
use Rattle.transfer_matrix.specs.Sweep.{pattern, up, down, ep, em, at, forward_at, forward_step, backward_at, backward_step, start, alternate}
use Rattle.exactness.proofs.Laws.Digits.{halve_even, halve_odd, bit_even, bit-odd}

module _ (O : Ops) where
  open O use {K, 𝟘, 𝟙, ◌⊕◌, ◌⊗◌, ⊝◌}

  infixl 60 ◌⊕◌
  infixl 70 ◌⊗◌
  infixl 80 ⊝◌
  pub start-at : (w j : ℕ) → j < 2 ^ w → at O (start O w) j ≡ 𝟙
  unfolding start
  start-at w j l = tabulate-at (λ k. 𝟙) (2 ^ w) j 𝟘 l

  pub alternate-at : (w : ℕ) (v : List K) (j : ℕ) → j < 2 ^ w → at O (alternate O w v) j ≡ cond (bit 0 j) (⊝ (at O v j)) (at O v j)
  unfolding alternate
  alternate-at w v j l = tabulate-at _ (2 ^ w) j 𝟘 l

  module _ (s : Step K) (sc : K) where
    -- The tables of a step at the pattern of k.
    abbrev pub up_at : ℕ → K
    up_at k = up O s.others sc (pattern s.others k)

    abbrev pub down_at : ℕ → K
    down_at k = down O s.others sc (pattern s.others k)

    module _ (w : ℕ) where
      pub forward-at : (v : List K) (j : ℕ) → j < 2 ^ w → at O (forward_step O w s sc v) j ≡ forward_at O w s sc (at O v) j
      unfolding forward_step
      forward-at v j l = tabulate-at _ (2 ^ w) j 𝟘 l

      pub backward-at : (v : List K) (j : ℕ) → j < 2 ^ w → at O (backward_step O w s sc v) j ≡ backward_at O w s sc (at O v) j
      unfolding backward_step
      backward-at v j l = tabulate-at _ (2 ^ w) j 𝟘 l

      module _ (f : ℕ → K) (k : ℕ) where
        pub forward_even : forward_at O w s sc f (2 * k) ≡ (ep O s.left ⊗ f k ⊕ em O s.left ⊗ f (2 ^ (w - 1) + k)) ⊗ up_at k
        unfolding forward_at
        forward_even = rw (bit_even k, halve_even k)

        pub forward-odd : forward_at O w s sc f (2 * k + 1) ≡ (em O s.left ⊗ f k ⊕ ep O s.left ⊗ f (2 ^ (w - 1) + k)) ⊗ down_at k
        unfolding forward_at
        forward-odd = rw (bit-odd k, halve_odd k)

        pub backward-low : (j : ℕ) → j % 2 ^ (w - 1) ≡ k → ltb j (2 ^ (w - 1)) ≡ true
            → backward_at O w s sc f j ≡ ep O s.left ⊗ (f (2 * k) ⊗ up_at k) ⊕ em O s.left ⊗ (f (2 * k + 1) ⊗ down_at k)
        unfolding backward_at
        backward-low j e h = rw (← e, h)

        pub backward-high : (j : ℕ) → j % 2 ^ (w - 1) ≡ k → ltb j (2 ^ (w - 1)) ≡ false
            → backward_at O w s sc f j ≡ em O s.left ⊗ (f (2 * k) ⊗ up_at k) ⊕ ep O s.left ⊗ (f (2 * k + 1) ⊗ down_at k)
        unfolding backward_at
        backward-high j e h = rw (← e, h)
