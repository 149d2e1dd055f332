-- A kind and its fields, one behind another.
use Rattle.std.specs.Prelude.{◌≡◌, refl, List, [], ◌∷◌, ◌++◌, ℕ, ◌+◌, ◌≤◌, Float, length, set}
use Rattle.std.proofs.Common.{sym, ap, subst, ◌∙◌, arith, length-append}
use Rattle.std.specs.Float.{binary64}
use Rattle.std.specs.Float.Ieee.{to_bits}
use Rattle.list_laws.specs.Part.{put}
use Rattle.little_endian.specs.Words.{bytes_of}
use Rattle.little_endian.proofs.Laws.Words.{bytes_of-length}
use Rattle.job_sheet_put.specs.Behind.{Appended}
use Rattle.job_sheet_put.proofs.Laws.Records.{one_field, more_field}
use Rattle.run_record.specs.Records.{row_bytes}

-- n bytes that are written at a place
pub record Fields (place n : ℕ) (s before after : List ℕ) : Type 0 where
  pub long : length s ≡ n
  pub written : Appended place s before after

pub field_first : {l l₁ : List ℕ} (place n kind k x : ℕ) → n ≡ 1 + k → place + n ≤ length l → l₁ ≡ put (set l place kind) (place + 1) (bytes_of k x)
    → Fields place n (kind ∷ bytes_of k x) l l₁
field_first place n kind k x e h p = record { long = omega (arith, bytes_of-length k x); written = one_field place kind k x (omega arith) p }

pub field_more : {l l₁ l₂ : List ℕ} {place m : ℕ} {s : List ℕ} (next n k x : ℕ) → next ≡ place + m → n ≡ m + k → place + n ≤ length l → Fields place m s l l₁
    → l₂ ≡ put l₁ next (bytes_of k x) → Fields place n (s ++ bytes_of k x) l l₂
field_more {s = s} next n k x e f h a p = record {
  long = length-append s (bytes_of k x) ∙ omega (arith, a.long, bytes_of-length k x);
  written = more_field next k x (omega (arith, a.long)) (omega arith) a.written p;
}

-- the sums of a row by their bits
pub row-sums : {l l' : List ℕ} (place chunk beta pair x y : ℕ) (squares fourths : Float) → x ≡ to_bits binary64 squares → y ≡ to_bits binary64 fourths
    → Fields place 28 (18 ∷ (bytes_of 8 chunk ++ bytes_of 1 beta ++ bytes_of 2 pair ++ bytes_of 8 x ++ bytes_of 8 y)) l l'
    → Appended place (row_bytes chunk beta pair squares fourths) l l'
row-sums {l} {l'} place chunk beta pair x y squares fourths e f p =
    subst (λ (z : ℕ). Appended place (18 ∷ (bytes_of 8 chunk ++ bytes_of 1 beta ++ bytes_of 2 pair ++ bytes_of 8 z ++ bytes_of 8 (to_bits binary64 fourths))) l l') e
    (subst (λ (z : ℕ). Appended place (18 ∷ (bytes_of 8 chunk ++ bytes_of 1 beta ++ bytes_of 2 pair ++ bytes_of 8 x ++ bytes_of 8 z)) l l') f p.written)

-- how long fields are together
pub two-long : (i j x y : ℕ) → length (bytes_of i x ++ bytes_of j y) ≡ i + j
two-long i j x y = length-append (bytes_of i x) (bytes_of j y) ∙ omega (arith, bytes_of-length i x, bytes_of-length j y)

pub more-long : (s : List ℕ) (n j y : ℕ) → length s ≡ n → length (s ++ bytes_of j y) ≡ n + j
more-long s n j y e = length-append s (bytes_of j y) ∙ omega (arith, e, bytes_of-length j y)
