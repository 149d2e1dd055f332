-- Bytes that stand at a place: one behind another, rows of them, a number and its field.
use Rattle.std.specs.Prelude.{◌≡◌, Bool, length, drop, get_or}
use Rattle.std.proofs.Math.Path.{refl, sym, ap}
use Rattle.std.proofs.Common.{subst, ◌∙◌, add-zero, take-take, drop_at, drop-drop, drop-cons}
use Rattle.std.proofs.Math.Bool.{true, false}
use mathlib.Core.List.{List, [], ◌∷◌, ◌++◌}
use Prim.Native.Nat.{ℕ, zero, suc, ◌+◌, ◌*◌, ◌^◌, ◌≤◌, ◌<◌}
use native.Mathlib.Omega.{arith}
use Rattle.std.proofs.Math.Dec.{ltb}
use Rattle.std.proofs.Math.ListN.{take, length-append, get_or-eq_default}
use Rattle.std.proofs.Math.Seq.{take-add, take_at, take-length}
use borrow.Author.Tests.{ltb-true, ltb-false}
use Rattle.list_laws.specs.Part.{part}
use Rattle.list_laws.proofs.Laws.Part.{part_at, part_length}
use Rattle.little_endian.specs.Words.{Bytes, word, word_at, bytes_of}
use Rattle.little_endian.specs.Rows.{rows, Stand}
use Rattle.little_endian.proofs.Laws.Words.{bytes_of-length, read_written, written_read}

module _ (bytes : List ℕ) where
  part_add : (at m n : ℕ) → part bytes at (m + n) ≡ part bytes at m ++ part bytes (at + m) n
  unfolding part
  part_add at m n = take-add m n (drop at bytes) ∙ ap (λ (l : List ℕ). take m (drop at bytes) ++ take n l) (drop-drop m at bytes)

  -- ---- one behind another

  module _ (at : ℕ) (s t : List ℕ) where
    pub stand_both : Stand bytes at s → Stand bytes (at + length s) t → Stand bytes at (s ++ t)
    stand_both p q = record { there = rw (length-append s t, part_add at (length s) (length t), p.there, q.there) }

    pub stand_left : Stand bytes at (s ++ t) → Stand bytes at s
    unfolding part
    stand_left p = record {
      there =
          sym (take-take (length s) (length (s ++ t)) (drop at bytes) (omega (arith, length-append s t)))
          ∙ ap (take (length s)) p.there ∙ take_at s t (length s) refl;
    }

    pub stand_right : Stand bytes at (s ++ t) → Stand bytes (at + length s) t
    stand_right p =
        let e : s ++ part bytes (at + length s) (length t) ≡ s ++ t =
        ap (λ (l : List ℕ). l ++ part bytes (at + length s) (length t)) (sym (stand_left p).there) ∙ sym (part_add at (length s) (length t))
        ∙ ap (part bytes at) (sym (length-append s t)) ∙ p.there in
        record { there = sym (drop_at s _ (length s) refl) ∙ ap (drop (length s)) e ∙ drop_at s t (length s) refl }

  pub stand_none : (at : ℕ) → Stand bytes at []
  unfolding part
  stand_none at = record { there = refl }

  -- all of the bytes
  pub stand_all : (these : List ℕ) → length these ≡ length bytes → Stand bytes 0 these → bytes ≡ these
  unfolding part
  stand_all these e p = sym (take-length bytes) ∙ ap (λ (n : ℕ). take n bytes) (sym e) ∙ p.there

  pub stand_whole : Stand bytes 0 bytes
  unfolding part
  stand_whole = record { there = take-length bytes }

  -- ---- one byte, and the bytes behind it

  pub stand_first : (at b : ℕ) (t : List ℕ) → Stand bytes at (b ∷ t) → get_or bytes at 0 ≡ b
  stand_first at b t p =
      let z : at + 0 ≡ at = add-zero at in
      ap (λ (k : ℕ). get_or bytes k 0) (sym z) ∙ sym (part_at bytes at (length (b ∷ t)) 0 0 (omega arith)) ∙ ap (λ (l : List ℕ). get_or l 0 0) p.there

  pub stand_rest : (at b : ℕ) (t : List ℕ) → Stand bytes at (b ∷ t) → Stand bytes (at + 1) t
  stand_rest at b t p = stand_right at (b ∷ []) t p

  pub stand_byte : (at b : ℕ) (t : List ℕ) → at < length bytes → get_or bytes at 0 ≡ b → Stand bytes (at + 1) t → Stand bytes at (b ∷ t)
  unfolding part
  stand_byte at b t h e p = stand_both at (b ∷ []) t (record { there = rw (drop-cons bytes at 0 h, e) }) p

  -- ---- a number in its field

  pub field_read : (at width x : ℕ) → x < 256 ^ width → Stand bytes at (bytes_of width x) → word_at bytes at width ≡ x
  unfolding word_at
  field_read at width x h p =
      ap (λ (n : ℕ). word (part bytes at n)) (sym (bytes_of-length width x)) ∙ ap word p.there ∙ read_written width x h

  part_bytes : (at width : ℕ) → Bytes bytes → at + width ≤ length bytes → Bytes (part bytes at width)
  part_bytes at width b h i = go (ltb i width) refl
    where
      go : (t : Bool) → ltb i width ≡ t → get_or (part bytes at width) i 0 < 256
      go true e = let q = b (at + i) in omega (arith, part_at bytes at width i 0 (ltb-true i width e))
      go false e =
          let q = ltb-false i width e in
          omega (arith, get_or-eq_default (part bytes at width) 0 {n = i} (omega (arith, part_length bytes at width h)))

  pub field_stands : (at width : ℕ) → Bytes bytes → at + width ≤ length bytes → Stand bytes at (bytes_of width (word_at bytes at width))
  unfolding word_at
  field_stands at width b h =
      let P : List ℕ = part bytes at width in
      let e : bytes_of width (word P) ≡ P =
      ap (λ (n : ℕ). bytes_of n (word P)) (sym (part_length bytes at width h)) ∙ written_read P (part_bytes at width b h) in
      record { there = ap (part bytes at) (bytes_of-length width (word P)) ∙ sym e }

  -- ---- rows

  module _ (f : ℕ → List ℕ) (size : ℕ) (long : (i : ℕ) → length (f i) ≡ size) where
    pub rows-length : (n : ℕ) → length (rows f n) ≡ size * n
    unfolding rows
    rows-length zero = omega arith
    rows-length (suc n) = length-append (rows f n) (f n) ∙ omega (arith, rows-length n, long n)

    pub rows_stand : (at n : ℕ) → ((i : ℕ) → i < n → Stand bytes (at + size * i) (f i)) → Stand bytes at (rows f n)
    unfolding rows
    rows_stand at zero h = stand_none at
    rows_stand at (suc n) h =
        stand_both at (rows f n) (f n) (rows_stand at n (λ i l. h i (omega arith)))
        (subst (λ (k : ℕ). Stand bytes (at + k) (f n)) (sym (rows-length n)) (h n (omega arith)))

    pub row-stands : (at n i : ℕ) → i < n → Stand bytes at (rows f n) → Stand bytes (at + size * i) (f i)
    unfolding rows
    row-stands at zero i l p = absurd (omega arith)
    row-stands at (suc n) i l p = go (ltb i n) refl (row-stands at n i)
      where
        go : (t : Bool) → ltb i n ≡ t → (i < n → Stand bytes at (rows f n) → Stand bytes (at + size * i) (f i)) → Stand bytes (at + size * i) (f i)
        go true e ih = ih (ltb-true i n e) (stand_left at (rows f n) (f n) p)
        go false e ih =
            let q : i ≡ n = omega (arith, ltb-false i n e) in
            rw q (subst (λ (k : ℕ). Stand bytes (at + k) (f n)) (rows-length n) (stand_right at (rows f n) (f n) p))
