-- Every Z is sound where it is at each beta alone.
use Rattle.std.specs.Prelude.{◌≡◌, refl, Bool, true, false, List, ℕ, ◌+◌, ◌-◌, ◌<◌, Float}
use Rattle.std.proofs.Common.{sym, ◌∙◌, true≢false, arith}
use Rattle.list_laws.specs.Search.{some}
use Rattle.list_laws.proofs.Laws.Search.{none-at, none_of}
use Rattle.transfer_matrix.specs.Job.{Job}
use Rattle.pair_correlations.specs.Sound.{unsound}
use Rattle.totals_configuration.specs.Powers.{unsound_betas}
use Rattle.totals_chunks.specs.declared.Chunks.{Chunks}
use Rattle.totals_chunks.specs.Totals.{unsound_chunks}
use Rattle.totals_house_betas.specs.Betas.{alone}

-- where the whole is not sound if a part is not
contrary : (part whole : Bool) → (whole ≡ false → part ≡ false) → part ≡ true → whole ≡ true
contrary part true f h = refl
contrary part false f h = absurd (true≢false (sym h ∙ f refl))

-- ---- of configurations by number
module _ (J : ℕ → ℕ → Job Float) (us vs : List ℕ) (betas n : ℕ) where
  abbrev at : ℕ → Bool
  at b = some (λ x. unsound_betas (alone (J x) b) us vs 1) n

  abbrev all : Bool
  all = some (λ x. unsound_betas (J x) us vs betas) n

  one_of : (b : ℕ) → b < betas → all ≡ false → at b ≡ false
  one_of b h e =
      none_of _ n (λ x l. none_of _ 1 (λ z _. none-at (λ i. unsound (J x i) us vs) betas b h (none-at (λ y. unsound_betas (J y) us vs betas) n x l e)))

  pub numbers-sound : ((b : ℕ) → b < betas → at b ≡ false) → all ≡ false
  numbers-sound g =
      none_of _ n
      (λ x l. none_of _ betas (λ b h. none-at (λ z. unsound (alone (J x) b z) us vs) 1 0 (omega arith) (none-at (λ y. unsound_betas (alone (J y) b) us vs 1) n x l (g b h))))

  pub numbers-unsound : (b : ℕ) → b < betas → at b ≡ true → all ≡ true
  numbers-unsound b h = contrary (at b) all (one_of b h)

-- ---- of chunks
module _ (J : ℕ → ℕ → ℕ → Job Float) (us vs : List ℕ) (betas : ℕ) (k : Chunks) where
  abbrev at_chunks : ℕ → Bool
  at_chunks b = unsound_chunks (λ i j. alone (J i j) b) us vs 1 k

  abbrev within : ℕ → ℕ → ℕ → Job Float
  within i = J (k.first + i)

  chunk_of : (b : ℕ) → b < betas → unsound_chunks J us vs betas k ≡ false → at_chunks b ≡ false
  chunk_of b h e =
      none_of _ (k.end - k.first)
      (λ i l. one_of (within i) us vs betas k.size b h (none-at (λ y. some (λ j. unsound_betas (within y j) us vs betas) k.size) (k.end - k.first) i l e))

  pub chunks-sound : ((b : ℕ) → b < betas → at_chunks b ≡ false) → unsound_chunks J us vs betas k ≡ false
  chunks-sound g =
      none_of _ (k.end - k.first)
      (λ i l. numbers-sound (within i) us vs betas k.size
      (λ b h. none-at (λ y. some (λ j. unsound_betas (alone (within y j) b) us vs 1) k.size) (k.end - k.first) i l (g b h)))

  pub chunks-unsound : (b : ℕ) → b < betas → at_chunks b ≡ true → unsound_chunks J us vs betas k ≡ true
  chunks-unsound b h = contrary (at_chunks b) (unsound_chunks J us vs betas k) (chunk_of b h)
