-- Laws of what specs/Words defines.
use Rattle.std.specs.Prelude.{◌≡◌, ℕ, ◌+◌, Bool, true, ◌&&◌, refl}
use Rattle.std.proofs.Common.{add-one}
use Rattle.replay_format.specs.Words.{mixed, mixed_all, every}

-- ---- word after word

pub mixed-none : (hash : ℕ) (word : ℕ → ℕ) → hash ≡ mixed_all hash word 0
unfolding mixed_all
mixed-none hash word = refl

pub mixed-more : (hash : ℕ) (word : ℕ → ℕ) (n : ℕ) {h w r : ℕ} → h ≡ mixed_all hash word n → w ≡ word n → r ≡ mixed h w → r ≡ mixed_all hash word (n + 1)
unfolding mixed_all
mixed-more hash word n p q e = rw add-one (rw (p, q) at e)

pub every-none : (test : ℕ → Bool) → true ≡ every test 0
unfolding every
every-none test = refl

pub every_more : (test : ℕ → Bool) (n : ℕ) {s t : Bool} → s ≡ every test n → t ≡ test n → (s && t) ≡ every test (n + 1)
unfolding every
every_more test n p q = rw (add-one, p, q)
