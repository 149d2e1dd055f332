-- Where every spin is flipped, every bit of an index is, and so every bit of its pattern: the tables change places.
use Rattle.std.specs.Prelude.{◌≡◌, refl, not, List, [], ◌∷◌, ℕ, zero, suc, ◌+◌, ◌*◌, ◌-◌, ◌/◌, ◌%◌, ◌^◌, ◌<◌, eqb, length, Float}
use Rattle.std.proofs.Common.{sym, ap, mod-lt, pow-suc, arith, pow-add, pow_pos, shr_lt}
use Rattle.std.proofs.Math.Pow.{split, high}
use Rattle.list_laws.specs.Bits.{bit}
use Rattle.list_laws.proofs.Laws.Power.{pow_double}
use Rattle.transfer_matrix.specs.Checked.{All}
use Rattle.transfer_matrix.specs.Job.{Back}
use Rattle.transfer_matrix.specs.Rounded.{ieee}
use Rattle.transfer_matrix.specs.Sweep.{pattern, up, down}

-- the bits that a step's near edges read are below h
abbrev pub Below : ℕ → List (Back Float) → Type 0
Below h others = All (λ b. b.distance - 1 < h) others

-- what is left of h - 1 - k, k having the quotient q and the rest r by p
parts : (m n q p r k h : ℕ) → m ≡ n * p → n ≡ h + q + 1 → q * p + r ≡ k → r < p → m - 1 - k ≡ h * p + (p - 1 - r)
parts m n q p r k h e g s b = let z : m ≡ (h + q + 1) * p = rw g at e in omega arith

flip_bit : (h c k : ℕ) → c < h → k < 2 ^ h → (2 ^ h - 1 - k) / 2 ^ c % 2 ≡ 1 - k / 2 ^ c % 2
flip_bit h c k l b =
    let t : h - c + c ≡ h = omega arith in
    let e : 2 ^ h ≡ 2 ^ (h - c) * 2 ^ c = rw t at (pow-add 2 (h - c) c) in
    let q : k / 2 ^ c < 2 ^ (h - c) = shr_lt (h - c) c (rw t b) in
    let r : k % 2 ^ c < 2 ^ c = mod-lt k (pow_pos c) in
    let d = pow_double (h - c) (omega arith) in
    rw (
      parts (2 ^ h) (2 ^ (h - c)) (k / 2 ^ c) (2 ^ c) (k % 2 ^ c) k (2 ^ (h - c) - 1 - k / 2 ^ c) e (omega arith) (split k c) r,
      high (2 ^ (h - c) - 1 - k / 2 ^ c) c {lo = 2 ^ c - 1 - k % 2 ^ c} (omega arith),
    )
    (omega arith)

bit_negated : (x : ℕ) → x < 2 → eqb (1 - x) 1 ≡ not (eqb x 1)
bit_negated zero b = refl
bit_negated (suc zero) b = refl
bit_negated (suc (suc x)) b = absurd (omega arith)

-- a bit of the index
pub bit_flips : (h c k : ℕ) → c < h → k < 2 ^ h → bit c (2 ^ h - 1 - k) ≡ not (bit c k)
bit_flips h c k l b = rw (flip_bit h c k l b) (bit_negated (k / 2 ^ c % 2) (mod-lt (k / 2 ^ c) (omega arith)))

pattern-below : (bs : List (Back Float)) (k : ℕ) → pattern bs k < 2 ^ length bs
unfolding pattern
pattern-below [] k = omega arith
pattern-below (b ∷ bs) k = rw pow-suc (omega (arith, pattern-below bs k))

-- every bit of the pattern
pub pattern_flip : (bs : List (Back Float)) (h k : ℕ) → Below h bs → k < 2 ^ h → pattern bs (2 ^ h - 1 - k) ≡ 2 ^ length bs - 1 - pattern bs k
unfolding pattern
pattern_flip [] h k a b = refl
pattern_flip (x ∷ bs) h k a b =
    rw (pow-suc, pattern_flip bs h k a.1 b, flip_bit h (x.distance - 1) k a.0 b) (omega (arith, pattern-below bs k))

-- the spin-up table gives what the spin-down table gave
pub up_flips : (others : List (Back Float)) (sc : Float) (h k : ℕ) → Below h others → k < 2 ^ h
    → up ieee others sc (pattern others (2 ^ h - 1 - k)) ≡ down ieee others sc (pattern others k)
unfolding down
up_flips others sc h k low b = ap (up ieee others sc) (pattern_flip others h k low b)

-- and the other way round
pub down_flips : (others : List (Back Float)) (sc : Float) (h k : ℕ) → Below h others → k < 2 ^ h
    → down ieee others sc (pattern others (2 ^ h - 1 - k)) ≡ up ieee others sc (pattern others k)
down_flips others sc h k low b =
    let e : 2 ^ h - 1 - (2 ^ h - 1 - k) ≡ k = omega arith in
    rw e at (sym (up_flips others sc h (2 ^ h - 1 - k) low (omega arith)))
