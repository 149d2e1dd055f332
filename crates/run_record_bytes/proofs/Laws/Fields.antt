-- A head and a row, field by field.
use Rattle.std.specs.Prelude.{◌≡◌, List, ◌∷◌, ◌++◌, ℕ, ◌+◌, ◌^◌, ◌≤◌, ◌<◌, Float, length, get_or}
use Rattle.std.proofs.Math.Path.{refl}
use Rattle.std.proofs.Common.{sym, ap, subst, ◌∙◌, arith, length-append}
use Rattle.std.specs.Float.{binary64}
use Rattle.std.specs.Float.Ieee.{to_bits}
use Rattle.little_endian.specs.Words.{Bytes, word_at, bytes_of}
use Rattle.little_endian.specs.Rows.{Stand}
use Rattle.little_endian.proofs.Laws.Words.{bytes_of-length, word-at-none, word-at-more}
use Rattle.little_endian.proofs.Laws.Rows.{stand_both, stand_left, stand_right, stand_first, stand_rest, stand_byte, field_read, field_stands}
use Rattle.run_record.specs.declared.Head.{Head}
use Rattle.run_record.specs.Records.{head_bytes, row_bytes}
use Rattle.run_record.specs.Reading.{head_of}

-- ---- lengths

behind : (t : List ℕ) (size k x : ℕ) → length t ≡ size → length (t ++ bytes_of k x) ≡ size + k
behind t size k x e = length-append t (bytes_of k x) ∙ omega (arith, bytes_of-length k x)

module _ (h : Head) where
  abbrev pub h₁ : List ℕ
  h₁ = 17 ∷ bytes_of 8 h.seed

  abbrev pub h₂ : List ℕ
  h₂ = h₁ ++ bytes_of 8 h.start

  abbrev pub h₃ : List ℕ
  h₃ = h₂ ++ bytes_of 8 h.end

  abbrev pub h₄ : List ℕ
  h₄ = h₃ ++ bytes_of 4 h.samples

  abbrev pub h₅ : List ℕ
  h₅ = h₄ ++ bytes_of 1 h.betas

  pub l₁ : length h₁ ≡ 9
  l₁ = omega (arith, bytes_of-length 8 h.seed)

  pub l₂ : length h₂ ≡ 17
  l₂ = behind h₁ 9 8 h.start l₁

  pub l₃ : length h₃ ≡ 25
  l₃ = behind h₂ 17 8 h.end l₂

  pub l₄ : length h₄ ≡ 29
  l₄ = behind h₃ 25 4 h.samples l₃

  pub l₅ : length h₅ ≡ 30
  l₅ = behind h₄ 29 1 h.betas l₄

  pub head-length : length (head_bytes h) ≡ 32
  head-length = behind h₅ 30 2 h.pairs l₅

module _ (chunk beta pair x y : ℕ) where
  abbrev pub r₁ : List ℕ
  r₁ = 18 ∷ bytes_of 8 chunk

  abbrev pub r₂ : List ℕ
  r₂ = r₁ ++ bytes_of 1 beta

  abbrev pub r₃ : List ℕ
  r₃ = r₂ ++ bytes_of 2 pair

  abbrev pub r₄ : List ℕ
  r₄ = r₃ ++ bytes_of 8 x

  pub m₁ : length r₁ ≡ 9
  m₁ = omega (arith, bytes_of-length 8 chunk)

  pub m₂ : length r₂ ≡ 10
  m₂ = behind r₁ 9 1 beta m₁

  pub m₃ : length r₃ ≡ 12
  m₃ = behind r₂ 10 2 pair m₂

  pub m₄ : length r₄ ≡ 20
  m₄ = behind r₃ 12 8 x m₃

  pub m₅ : length (r₄ ++ bytes_of 8 y) ≡ 28
  m₅ = behind r₄ 20 8 y m₄

pub row-length : (chunk beta pair : ℕ) (s f : Float) → length (row_bytes chunk beta pair s f) ≡ 28
row-length chunk beta pair s f = m₅ chunk beta pair (to_bits binary64 s) (to_bits binary64 f)

module _ (bytes : List ℕ) where
  at_place : {m n : ℕ} (t : List ℕ) → m ≡ n → Stand bytes m t → Stand bytes n t
  at_place t e = subst (λ (k : ℕ). Stand bytes k t) e

  -- a kind is its byte
  pub kind_byte : (at : ℕ) → at < length bytes → word_at bytes at 1 ≡ get_or bytes at 0
  kind_byte at l = word-at-more bytes at 0 l ∙ omega (arith, word-at-none bytes (at + 1))

  -- the first field behind a kind, and the last behind so many bytes
  pub first_read : (at kind k x : ℕ) → x < 256 ^ k → Stand bytes at (kind ∷ bytes_of k x) → word_at bytes (at + 1) k ≡ x
  first_read at kind k x p s = field_read bytes (at + 1) k x p (stand_rest bytes at kind _ s)

  pub last_read : (at size : ℕ) (t : List ℕ) (k x : ℕ) → length t ≡ size → x < 256 ^ k → Stand bytes at (t ++ bytes_of k x) → word_at bytes (at + size) k ≡ x
  last_read at size t k x e p s = field_read bytes (at + size) k x p (at_place _ (ap (λ (n : ℕ). at + n) e) (stand_right bytes at t (bytes_of k x) s))

  module _ (b : Bytes bytes) where
    pub first-stands : (at kind k : ℕ) → at + 1 + k ≤ length bytes → word_at bytes at 1 ≡ kind → Stand bytes at (kind ∷ bytes_of k (word_at bytes (at + 1) k))
    first-stands at kind k h e = stand_byte bytes at kind _ (omega arith) (sym (kind_byte at (omega arith)) ∙ e) (field_stands bytes (at + 1) k b h)

    pub last-stands : (at size : ℕ) (t : List ℕ) (k x : ℕ) → length t ≡ size → at + size + k ≤ length bytes → word_at bytes (at + size) k ≡ x → Stand bytes at t
        → Stand bytes at (t ++ bytes_of k x)
    last-stands at size t k x e h q s =
        stand_both bytes at t _ s (at_place _ (ap (λ (n : ℕ). at + n) (sym e)) (subst (λ (z : ℕ). Stand bytes (at + size) (bytes_of k z)) q (field_stands bytes (at + size) k b h)))

    -- ---- a head that is there

    pub head-stands : 32 ≤ length bytes → word_at bytes 0 1 ≡ 17 → Stand bytes 0 (head_bytes (head_of bytes))
    unfolding head_of
    head-stands l e =
        let h = head_of bytes in
        last-stands 0 30 (h₅ h) 2 h.pairs (l₅ h) (omega arith) refl
        (last-stands 0 29 (h₄ h) 1 h.betas (l₄ h) (omega arith) refl
        (last-stands 0 25 (h₃ h) 4 h.samples (l₃ h) (omega arith) refl
        (last-stands 0 17 (h₂ h) 8 h.end (l₂ h) (omega arith) refl
        (last-stands 0 9 (h₁ h) 8 h.start (l₁ h) (omega arith) refl
        (first-stands 0 17 8 (omega arith) e)))))

    -- ---- a row that is there

    pub row-stands-at : (at chunk beta pair x y : ℕ) → at + 28 ≤ length bytes → word_at bytes at 1 ≡ 18 → word_at bytes (at + 1) 8 ≡ chunk
        → word_at bytes (at + 9) 1 ≡ beta → word_at bytes (at + 10) 2 ≡ pair → word_at bytes (at + 12) 8 ≡ x → word_at bytes (at + 20) 8 ≡ y
        → Stand bytes at (r₄ chunk beta pair x y ++ bytes_of 8 y)
    row-stands-at at chunk beta pair x y l k e₁ e₂ e₃ e₄ e₅ =
        last-stands at 20 (r₄ chunk beta pair x y) 8 y (m₄ chunk beta pair x y) (omega arith) e₅
        (last-stands at 12 (r₃ chunk beta pair x y) 8 x (m₃ chunk beta pair x y) (omega arith) e₄
        (last-stands at 10 (r₂ chunk beta pair x y) 2 pair (m₂ chunk beta pair x y) (omega arith) e₃
        (last-stands at 9 (r₁ chunk beta pair x y) 1 beta (m₁ chunk beta pair x y) (omega arith) e₂
        (subst (λ (z : ℕ). Stand bytes at (18 ∷ bytes_of 8 z)) e₁ (first-stands at 18 8 (omega arith) k)))))

  -- ---- read from where they stand

  pub record HeadRead (h : Head) : Type 0 where
    pub kind : get_or bytes 0 0 ≡ 17
    pub is : head_of bytes ≡ h

  pub head_read : (h : Head) → h.seed < 2 ^ 64 → h.start < 2 ^ 64 → h.end < 2 ^ 64 → h.samples < 2 ^ 32 → h.betas < 256 → h.pairs < 65536
      → Stand bytes 0 (head_bytes h) → HeadRead h
  unfolding head_of
  head_read h p₁ p₂ p₃ p₄ p₅ p₆ s =
      let s₅ = stand_left bytes 0 (h₅ h) (bytes_of 2 h.pairs) s in
      let s₄ = stand_left bytes 0 (h₄ h) (bytes_of 1 h.betas) s₅ in
      let s₃ = stand_left bytes 0 (h₃ h) (bytes_of 4 h.samples) s₄ in
      let s₂ = stand_left bytes 0 (h₂ h) (bytes_of 8 h.end) s₃ in
      let s₁ = stand_left bytes 0 (h₁ h) (bytes_of 8 h.start) s₂ in
      record {
        kind = stand_first bytes 0 17 _ s₁;
        is =
            rw (
              first_read 0 17 8 h.seed p₁ s₁,
              last_read 0 9 (h₁ h) 8 h.start (l₁ h) p₂ s₂,
              last_read 0 17 (h₂ h) 8 h.end (l₂ h) p₃ s₃,
              last_read 0 25 (h₃ h) 4 h.samples (l₃ h) p₄ s₄,
              last_read 0 29 (h₄ h) 1 h.betas (l₄ h) p₅ s₅,
              last_read 0 30 (h₅ h) 2 h.pairs (l₅ h) p₆ s,
            );
      }

  pub record RowRead (at chunk beta pair x y : ℕ) : Type 0 where
    pub kind : get_or bytes at 0 ≡ 18
    pub chunk_is : word_at bytes (at + 1) 8 ≡ chunk
    pub beta-is : word_at bytes (at + 9) 1 ≡ beta
    pub pair_is : word_at bytes (at + 10) 2 ≡ pair
    pub squares_are : word_at bytes (at + 12) 8 ≡ x
    pub fourths_are : word_at bytes (at + 20) 8 ≡ y

  pub row_read : (at chunk beta pair x y : ℕ) → chunk < 2 ^ 64 → beta < 256 → pair < 65536 → x < 2 ^ 64 → y < 2 ^ 64
      → Stand bytes at (r₄ chunk beta pair x y ++ bytes_of 8 y) → RowRead at chunk beta pair x y
  row_read at chunk beta pair x y p₁ p₂ p₃ p₄ p₅ s =
      let s₄ = stand_left bytes at (r₄ chunk beta pair x y) (bytes_of 8 y) s in
      let s₃ = stand_left bytes at (r₃ chunk beta pair x y) (bytes_of 8 x) s₄ in
      let s₂ = stand_left bytes at (r₂ chunk beta pair x y) (bytes_of 2 pair) s₃ in
      let s₁ = stand_left bytes at (r₁ chunk beta pair x y) (bytes_of 1 beta) s₂ in
      record {
        kind = stand_first bytes at 18 _ s₁;
        chunk_is = first_read at 18 8 chunk p₁ s₁;
        beta-is = last_read at 9 (r₁ chunk beta pair x y) 1 beta (m₁ chunk beta pair x y) p₂ s₂;
        pair_is = last_read at 10 (r₂ chunk beta pair x y) 2 pair (m₂ chunk beta pair x y) p₃ s₃;
        squares_are = last_read at 12 (r₃ chunk beta pair x y) 8 x (m₃ chunk beta pair x y) p₄ s₄;
        fourths_are = last_read at 20 (r₄ chunk beta pair x y) 8 y (m₄ chunk beta pair x y) p₅ s;
      }
