-- Laws of what specs/Most defines.
use Rattle.std.specs.Prelude.{◌≡◌, refl, ℕ, zero, suc, ◌+◌, ◌≤◌, ◌<◌, max}
use Rattle.std.proofs.Common.{ap, ◌∙◌, add-one, le_trans, arith}
use Rattle.std.proofs.Math.Logic.{dite}
use Rattle.std.proofs.Math.Decide.{dec_lt}
use Rattle.std.proofs.Math.Nat.{le-max_left, le-max_right, max-le}
use Rattle.list_laws.specs.Most.{most}

-- none is larger
pub most-above : (f : ℕ → ℕ) (n i : ℕ) → i < n → f i ≤ most f n
unfolding most
most-above f zero i h = absurd (omega arith)
most-above f (suc n) i h =
    dite (dec_lt i n) (λ l. le_trans (most-above f n i l) (le-max_left (most f n) (f n)))
    (λ g. let e : i ≡ n = omega arith in rw e (le-max_right (most f n) (f n)))

-- and it is no larger than what they all are below
pub most-least : (f : ℕ → ℕ) (n k : ℕ) → ((i : ℕ) → i < n → f i ≤ k) → most f n ≤ k
unfolding most
most-least f zero k h = omega arith
most-least f (suc n) k h = max-le (most-least f n k (λ i l. h i (omega arith))) (h n (omega arith))

-- rules that agree below n
pub most_ext : (f g : ℕ → ℕ) (n : ℕ) → ((i : ℕ) → i < n → f i ≡ g i) → most f n ≡ most g n
unfolding most
most_ext f g zero h = refl
most_ext f g (suc n) h = rw (most_ext f g n (λ i l. h i (omega arith)), h n (omega arith))

-- one more, as a loop takes it
pub most-more : (f : ℕ → ℕ) (i x y : ℕ) → x ≡ most f i → y ≡ max x (f i) → y ≡ most f (i + 1)
unfolding most
most-more f i x y p q = rw add-one (q ∙ ap (λ z. max z (f i)) p)

pub most_zero : (f : ℕ → ℕ) → most f 0 ≡ 0
unfolding most
most_zero f = refl
