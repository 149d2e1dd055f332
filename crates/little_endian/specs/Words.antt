-- Numbers as bytes, the least byte first.
use Rattle.std.specs.Prelude.{List, [], ◌∷◌, ℕ, ◌+◌, ◌*◌, ◌/◌, ◌%◌, ◌^◌, ◌<◌, get_or}
use Rattle.list_laws.specs.Tabulate.{tabulate}
use Rattle.list_laws.specs.Part.{part}

-- every one of them is a byte
abbrev pub Bytes : List ℕ → Type 0
Bytes bytes = (i : ℕ) → get_or bytes i 0 < 256

-- the number of some bytes
abbrev pub word : List ℕ → ℕ
word [] = 0
word (b ∷ bytes) = b + 256 * word bytes

-- the number of the bytes that begin at a place, so many as its width is
unfoldable pub word_at : List ℕ → (place width : ℕ) → ℕ
word_at bytes place width = word (part bytes place width)

-- the bytes of a number: byte i is its digit i to base 256
unfoldable pub bytes_of : (width x : ℕ) → List ℕ
bytes_of width x = tabulate (λ i. x / 256 ^ i % 256) width
