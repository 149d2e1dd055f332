-- A record of each kind, its kind first and then its fields.
use Rattle.std.specs.Prelude.{◌≡◌, refl, List, [], ◌∷◌, ◌++◌, ℕ, ◌+◌, ◌≤◌, length, set}
use Rattle.std.proofs.Common.{arith, length-set}
use Rattle.list_laws.specs.Part.{put}
use Rattle.little_endian.specs.Words.{bytes_of}
use Rattle.little_endian.proofs.Laws.Words.{bytes_of-length}
use Rattle.job_sheet_bytes.specs.Jobs.{edge_record}
use Rattle.job_sheet_bytes.proofs.Laws.Bytes.{two-lengths}
use Rattle.job_sheet_put.specs.Behind.{Appended}
use Rattle.job_sheet_put.proofs.Laws.Behind.{appended_byte, appended_word, appended_then}

-- a kind and a field
module _ {l l₁ : List ℕ} (place kind k x : ℕ) (h : place + 1 + k ≤ length l) (p : l₁ ≡ put (set l place kind) (place + 1) (bytes_of k x)) where
  pub one_field : Appended place (kind ∷ bytes_of k x) l l₁
  one_field =
      appended_then {s = kind ∷ []} (place + 1) refl (appended_byte place kind l (omega arith))
      (appended_word (place + 1) k x (omega (arith, length-set l place kind)) p)

-- a field behind a record so far
pub more_field : {l l₁ l₂ : List ℕ} {place : ℕ} {s : List ℕ} (next k x : ℕ) → next ≡ place + length s → next + k ≤ length l → Appended place s l l₁
    → l₂ ≡ put l₁ next (bytes_of k x) → Appended place (s ++ bytes_of k x) l l₂
more_field next k x e h a p = appended_then next e a (appended_word next k x (omega (arith, a.size)) p)

module _ {l l₁ l₂ : List ℕ} (place kind x k y : ℕ) (h : place + 3 + k ≤ length l) (p : l₁ ≡ put (set l place kind) (place + 1) (bytes_of 2 x)) where
  -- a kind, a field of two bytes and one more
  pub two_fields : l₂ ≡ put l₁ (place + 3) (bytes_of k y) → Appended place (kind ∷ (bytes_of 2 x ++ bytes_of k y)) l l₂
  two_fields q =
      more_field {s = kind ∷ bytes_of 2 x} (place + 3) k y (omega (arith, bytes_of-length 2 x)) h (one_field place kind 2 x (omega arith) p) q

pub edge_fields : {l l₁ l₂ l₃ : List ℕ} (place a b bits : ℕ) → place + 13 ≤ length l → l₁ ≡ put (set l place 2) (place + 1) (bytes_of 2 a)
    → l₂ ≡ put l₁ (place + 3) (bytes_of 2 b) → l₃ ≡ put l₂ (place + 5) (bytes_of 8 bits) → Appended place (edge_record a b bits) l l₃
edge_fields {l = l} place a b bits h p q r =
    more_field {s = 2 ∷ (bytes_of 2 a ++ bytes_of 2 b)} (place + 5) 8 bits (omega (arith, two-lengths 2 2 a b)) (omega arith) (two_fields place 2 a 2 b (omega arith) p q) r
