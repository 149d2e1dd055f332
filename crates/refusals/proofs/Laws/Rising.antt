-- Betas that 21 passes rise strictly: each is less than every later one, not the next alone.
use Rattle.std.specs.Prelude.{◌≡◌, refl, Bool, true, false, not, List, ℕ, zero, suc, ◌+◌, ◌-◌, ◌<◌, Float, length, get_or}
use Rattle.std.proofs.Common.{sym, arith}
use Rattle.std.specs.Float.{nan}
use Rattle.std.specs.Float.Ieee.{lt}
use Rattle.std.proofs.lemmas.Bool.{not-false}
use Rattle.list_laws.specs.Search.{some}
use Rattle.list_laws.proofs.Laws.Search.{none-at, none_of}
use Rattle.rounding.proofs.Laws.Order.{lt_trans}
use Rattle.refusals.specs.Request.{unordered}
use Rattle.refusals.specs.Accepted.{Rising}

-- some beta is not less than some later one
abbrev pub unordered_anywhere : List Float → Bool
unordered_anywhere xs = some (λ j. some (λ i. not (lt (get_or xs i nan) (get_or xs j nan))) j) (length xs)

module _ (xs : List Float) where
  abbrev not_less : ℕ → ℕ → Bool
  not_less i j = not (lt (get_or xs i nan) (get_or xs j nan))

  rises : unordered xs ≡ false → (i d : ℕ) → i + suc d < length xs → lt (get_or xs i nan) (get_or xs (i + suc d) nan) ≡ true
  rises h i zero l = not-false _ (none-at (λ k. not_less k (k + 1)) (length xs - 1) i (omega arith) h)
  rises h i (suc d) l =
      let e : i + suc (suc d) ≡ i + suc d + 1 = omega arith in
      rw e
      (lt_trans _ _ _ (rises h i d (omega arith))
      (not-false _ (none-at (λ k. not_less k (k + 1)) (length xs - 1) (i + suc d) (omega arith) h)))

  pub rising : unordered xs ≡ false → Rising xs
  rising h i j m l =
      let e : i + suc (j - suc i) ≡ j = omega arith in
      rw e at (rises h i (j - suc i) (omega arith))

  -- a list that does not rise strictly somewhere does not rise at some neighbour
  pub unordered-is : unordered xs ≡ unordered_anywhere xs
  unordered-is = same (unordered xs) (unordered_anywhere xs) everywhere neighbours
    where
      same : (a b : Bool) → (a ≡ false → b ≡ false) → (b ≡ false → a ≡ false) → a ≡ b
      same true true p q = refl
      same true false p q = q refl
      same false b p q = sym (p refl)

      everywhere : unordered xs ≡ false → unordered_anywhere xs ≡ false
      everywhere h = none_of _ (length xs) (λ j l. none_of (λ i. not_less i j) j (λ i m. rw (rising h i j m l)))

      neighbours : unordered_anywhere xs ≡ false → unordered xs ≡ false
      neighbours h =
          none_of (λ k. not_less k (k + 1)) (length xs - 1)
          (λ i l. none-at (λ k. not_less k (i + 1)) (i + 1) i (omega arith) (none-at (λ j. some (λ k. not_less k j) j) (length xs) (i + 1) (omega arith) h))
