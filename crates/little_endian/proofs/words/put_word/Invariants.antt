-- The first i bytes are written, and what is left of the number is its digits from i on.
use mathlib.Core.Path.{◌≡◌}
use Prim.Native.Nat.{ℕ, ◌/◌, ◌^◌, ◌≤◌}
use mathlib.Core.List.{List}
use lib.ListN.{length}
use Rattle.list_laws.specs.Part.{put}
use Rattle.little_endian.specs.Words.{bytes_of}
use Rattle.little_endian.proofs.words.put_word.Given as goal

-- where i bytes are written

pub record Written (bytes₀ : List ℕ) (place x : ℕ) (bytes' : List ℕ) (rest i : ℕ) : Type 0 where
  pub left : rest ≡ x / 256 ^ i
  pub bytes : bytes' ≡ put bytes₀ place (bytes_of i x)
  pub size : length bytes' ≡ length bytes₀

abbrev pub invariant-loop-i : goal.invariant-loop-i
invariant-loop-i l = (l.i ≤ l.width) × Written l.initial.bytes l.place l.x l.bytes l.rest l.i
