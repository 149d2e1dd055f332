-- A number has its own bytes, and bytes are those of their number: one proof each, for every width.
use Rattle.std.specs.Prelude.{◌≡◌, refl, List, [], ◌∷◌, ◌++◌, ℕ, zero, suc, ◌+◌, ◌*◌, ◌/◌, ◌%◌, ◌^◌, ◌≤◌, ◌<◌, length, get_or}
use Rattle.std.proofs.Common.{sym, ap, ◌∙◌, mod-eq_of_lt, add-one, arith, drop-cons}
use Rattle.std.proofs.Math.Nat.{pow-succ', div-div-eq-div-mul}
use Rattle.std.proofs.Math.Arith.{mod-mul}
use Rattle.list_laws.specs.Tabulate.{tabulate}
use Rattle.list_laws.proofs.Laws.Tabulate.{tabulate-length, tabulated}
use Rattle.list_laws.specs.Part.{part}
use Rattle.little_endian.specs.Words.{Bytes, word, word_at, bytes_of}

pub bytes_of-length : (width x : ℕ) → length (bytes_of width x) ≡ width
unfolding bytes_of
bytes_of-length width x = tabulate-length _ width

-- a byte behind the others
word_more : (bytes : List ℕ) (b : ℕ) → word (bytes ++ (b ∷ [])) ≡ word bytes + 256 ^ length bytes * b
word_more [] b = omega arith
word_more (a ∷ bytes) b = rw (word_more bytes b, pow-succ') (omega arith)

positive : (k : ℕ) → 0 < 256 ^ k
positive zero = omega arith
positive (suc k) = let h = positive k in rw pow-succ' (omega arith)

-- the bytes of a number are those of its remainder
word_bytes : (width x : ℕ) → word (bytes_of width x) ≡ x % 256 ^ width
unfolding bytes_of tabulate
word_bytes zero x = omega arith
word_bytes (suc width) x =
    word_more (tabulate (λ i. x / 256 ^ i % 256) width) (x / 256 ^ width % 256)
    ∙ rw (word_bytes width x, tabulate-length (λ i. x / 256 ^ i % 256) width, pow-succ', mod-mul x {m = 256} {c = 256 ^ width} (omega arith) (positive width)) (omega arith)

-- reading what was written
pub read_written : (width x : ℕ) → x < 256 ^ width → word (bytes_of width x) ≡ x
read_written width x h = word_bytes width x ∙ mod-eq_of_lt h

-- byte i of a number is the i-th of its bytes
digit : (bytes : List ℕ) (i : ℕ) → Bytes bytes → i < length bytes → get_or bytes i 0 ≡ word bytes / 256 ^ i % 256
digit [] i h l = absurd (omega arith)
digit (b ∷ bytes) zero h l = let p = h 0 in omega arith
digit (b ∷ bytes) (suc i) h l =
    let p = h 0 in
    let q : (b + 256 * word bytes) / 256 ≡ word bytes = omega arith in
    rw (pow-succ', ← div-div-eq-div-mul, q) (digit bytes i (λ j. h (suc j)) (omega arith))

-- writing what was read
pub written_read : (bytes : List ℕ) → Bytes bytes → bytes_of (length bytes) (word bytes) ≡ bytes
unfolding bytes_of
written_read bytes h = sym (tabulated 0 bytes _ (length bytes) refl (λ i l. digit bytes i h l))

-- a number of so many bytes
pub word_below : (bytes : List ℕ) → Bytes bytes → word bytes < 256 ^ length bytes
word_below [] h = omega arith
word_below (b ∷ bytes) h = let p = h 0 in let q = word_below bytes (λ j. h (suc j)) in rw pow-succ' (omega arith)

-- ---- at a place

pub word-at-none : (bytes : List ℕ) (place : ℕ) → word_at bytes place 0 ≡ 0
unfolding word_at part
word-at-none bytes place = refl

-- a byte before the others
pub word-at-more : (bytes : List ℕ) (place width : ℕ) → place < length bytes
    → word_at bytes place (width + 1) ≡ 256 * word_at bytes (place + 1) width + get_or bytes place 0
unfolding word_at part
word-at-more bytes place width h = rw (add-one width, add-one place, drop-cons bytes place 0 h) (omega arith)

pub word-at-below : (bytes : List ℕ) (place width : ℕ) → Bytes bytes → place + width ≤ length bytes → word_at bytes place width < 256 ^ width
word-at-below bytes place zero b h = rw word-at-none (omega arith)
word-at-below bytes place (suc width) b h =
    let p = b place in
    let q = word-at-below bytes (place + 1) width b (omega arith) in
    let m = word-at-more bytes place width (omega arith) in
    let s : word_at bytes place (suc width) ≡ word_at bytes place (width + 1) = ap (word_at bytes place) (sym (add-one width)) in
    rw (s, m, pow-succ') (omega arith)
