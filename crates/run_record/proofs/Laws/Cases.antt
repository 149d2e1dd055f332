-- The tests of a row, a head, a length and a record, in their order.
use Rattle.std.specs.Prelude.{◌≡◌, refl, Bool, true, false, not, List, ℕ, ◌+◌, ◌*◌, ◌-◌, ◌/◌, ◌^◌, ◌≤◌, ◌<◌, eqb, ltb, length}
use Rattle.std.proofs.Common.{sym, ap, ◌∙◌, zero-mul, div-lt_iff_lt-mul, mul-le-mul, arith}
use Rattle.std.proofs.Math.Decide.{dec_lt}
use borrow.Author.Tests.{lt-ltb, le-ltb, eq-eqb, ne_eqb, eqb-true, eqb-false, ltb-false, not-false}
use Rattle.limits.specs.Limits.{most_betas, most_pairs, most_samples, most_named}
use Rattle.list_laws.proofs.Laws.Search.{or-false}
use Rattle.little_endian.specs.Words.{Bytes, word_at}
use Rattle.little_endian.proofs.Laws.Words.{word-at-below}
use Rattle.refusals.specs.Request.{too_many_chunks}
use Rattle.run_record.specs.declared.Head.{Head}
use Rattle.run_record.specs.Records.{per_chunk, chunks_of, record_length}
use Rattle.run_record.specs.Reading.{head_of, double_at, bad_sums, bad_head, bad_row_at, bad_rows, bad_record}

pub eqb_iff : (a b c d : ℕ) → (a ≡ b → c ≡ d) → (c ≡ d → a ≡ b) → eqb a b ≡ eqb c d
eqb_iff a b c d f g = go (eqb a b) refl
  where
    go : (t : Bool) → eqb a b ≡ t → eqb a b ≡ eqb c d
    go true e = e ∙ sym (eq-eqb c d (f (eqb-true a b e)))
    go false e = e ∙ sym (ne_eqb c d (λ q. eqb-false a b e (g q)))

-- ---- a row, by the words that were read

module _ (bytes : List ℕ) (place chunk beta pair samples : ℕ) (kind at-chunk at-beta at_pair : ℕ) where
  pub other-kind : kind ≡ word_at bytes place 1 → (kind ≡ 18 → ⊥) → true ≡ bad_row_at bytes place chunk beta pair samples
  unfolding bad_row_at
  other-kind e n = rw (← e, ne_eqb kind 18 n)

  module _ (e : kind ≡ word_at bytes place 1) (s : kind ≡ 18) (e₁ : at-chunk ≡ word_at bytes (place + 1) 8) where
    pub other_chunk : (at-chunk ≡ chunk → ⊥) → true ≡ bad_row_at bytes place chunk beta pair samples
    unfolding bad_row_at
    other_chunk n = rw (← e, eq-eqb kind 18 s, ← e₁, ne_eqb at-chunk chunk n)

    module _ (s₁ : at-chunk ≡ chunk) (e₂ : at-beta ≡ word_at bytes (place + 9) 1) where
      pub other-beta : (at-beta ≡ beta → ⊥) → true ≡ bad_row_at bytes place chunk beta pair samples
      unfolding bad_row_at
      other-beta n = rw (← e, eq-eqb kind 18 s, ← e₁, eq-eqb at-chunk chunk s₁, ← e₂, ne_eqb at-beta beta n)

      module _ (s₂ : at-beta ≡ beta) (e₃ : at_pair ≡ word_at bytes (place + 10) 2) where
        pub other-pair : (at_pair ≡ pair → ⊥) → true ≡ bad_row_at bytes place chunk beta pair samples
        unfolding bad_row_at
        other-pair n = rw (← e, eq-eqb kind 18 s, ← e₁, eq-eqb at-chunk chunk s₁, ← e₂, eq-eqb at-beta beta s₂, ← e₃, ne_eqb at_pair pair n)

        pub by_sums : at_pair ≡ pair → bad_sums samples (double_at bytes (place + 12)) (double_at bytes (place + 20)) ≡ bad_row_at bytes place chunk beta pair samples
        unfolding bad_row_at
        by_sums s₃ = rw (← e, eq-eqb kind 18 s, ← e₁, eq-eqb at-chunk chunk s₁, ← e₂, eq-eqb at-beta beta s₂, ← e₃, eq-eqb at_pair pair s₃)

-- ---- a head

chunks_alike : (start end samples : ℕ) → start ≤ end → too_many_chunks start end samples ≡ ltb most_samples ((end - start) * samples)
chunks_alike start end samples l = go (dec_lt start end)
  where
    go : Dec (start < end) → too_many_chunks start end samples ≡ ltb most_samples ((end - start) * samples)
    go (yes h) = rw (lt-ltb start end h)
    go (no h) =
        let z : end - start ≡ 0 = omega arith in
        rw (le-ltb start end (omega arith), z, zero-mul samples)

module _ (h : Head) where
  pub many-betas : most_betas < h.betas → true ≡ bad_head h
  unfolding bad_head
  many-betas l = rw (lt-ltb most_betas h.betas l)

  module _ (b : h.betas ≤ most_betas) where
    pub many-pairs : most_pairs < h.pairs → true ≡ bad_head h
    unfolding bad_head
    many-pairs l = rw (le-ltb most_betas h.betas b, lt-ltb most_pairs h.pairs l)

    module _ (p : h.pairs ≤ most_pairs) where
      pub backwards : h.end < h.start → true ≡ bad_head h
      unfolding bad_head
      backwards l = rw (le-ltb most_betas h.betas b, le-ltb most_pairs h.pairs p, lt-ltb h.end h.start l)

      pub by_samples : h.start ≤ h.end → too_many_chunks h.start h.end h.samples ≡ bad_head h
      unfolding bad_head
      by_samples l =
          chunks_alike h.start h.end h.samples l
          ∙ rw (le-ltb most_betas h.betas b, le-ltb most_pairs h.pairs p, le-ltb h.end h.start l)

-- what a good head has
pub record Good (h : Head) : Type 0 where
  pub betas : h.betas ≤ most_betas
  pub pairs : h.pairs ≤ most_pairs
  pub range : h.start ≤ h.end
  pub samples : chunks_of h * h.samples ≤ most_samples

pub good_head : (h : Head) → bad_head h ≡ false → Good h
unfolding bad_head
good_head h e =
    let x = or-false _ (ltb most_samples (chunks_of h * h.samples)) e in
    let y = or-false _ (ltb h.end h.start) x.0 in
    let z = or-false (ltb most_betas h.betas) (ltb most_pairs h.pairs) y.0 in
    record { betas = ltb-false _ _ z.0; pairs = ltb-false _ _ z.1; range = ltb-false _ _ y.1; samples = ltb-false _ _ x.1 }

pub head_good : (h : Head) → Good h → bad_head h ≡ false
unfolding bad_head
head_good h g =
    rw (
      le-ltb most_betas h.betas g.betas,
      le-ltb most_pairs h.pairs g.pairs,
      le-ltb h.end h.start g.range,
      le-ltb most_samples (chunks_of h * h.samples) g.samples,
    )

pub few-rows : (h : Head) → Good h → per_chunk h ≤ 16384
few-rows h g = mul-le-mul g.betas g.pairs

-- samples have four bytes
pub few-named : (bytes : List ℕ) (h : Head) → h ≡ head_of bytes → Bytes bytes → 32 ≤ length bytes → h.samples ≤ most_named
unfolding head_of
few-named bytes h e b l = let q = word-at-below bytes 25 4 b (omega arith) in let z : h.samples ≡ word_at bytes 25 4 = ap (λ (x : Head). x.samples) e in omega arith

-- so have chunk numbers eight
pub end_fits : (bytes : List ℕ) (h : Head) → h ≡ head_of bytes → Bytes bytes → 32 ≤ length bytes → h.end < 2 ^ 64
unfolding head_of
end_fits bytes h e b l = let q = word-at-below bytes 17 8 b (omega arith) in let z : h.end ≡ word_at bytes 17 8 = ap (λ (x : Head). x.end) e in omega arith

-- ---- a length

module _ (bytes chunks per : ℕ) (l : 32 ≤ bytes) where
  pub no_row : per ≡ 0 → not (eqb (bytes - 32) 0) ≡ not (eqb bytes (32 + 28 * (chunks * per)))
  no_row z =
      let m : chunks * per ≡ 0 = rw z (omega arith) in
      ap not (eqb_iff (bytes - 32) 0 bytes (32 + 28 * (chunks * per)) (λ e. omega arith) (λ e. omega arith))

  -- a product that is past the bytes is not their number
  pub past : 0 < per → (bytes - 32) / (28 * per) < chunks → true ≡ not (eqb bytes (32 + 28 * (chunks * per)))
  past p h =
      let q : bytes - 32 < chunks * (28 * per) = (div-lt_iff_lt-mul {k = 28 * per} (omega arith)).0 h in
      rw (ne_eqb bytes (32 + 28 * (chunks * per)) (λ e. omega arith))

  pub by_product : not (eqb (bytes - 32) (28 * (chunks * per))) ≡ not (eqb bytes (32 + 28 * (chunks * per)))
  by_product = ap not (eqb_iff (bytes - 32) (28 * (chunks * per)) bytes (32 + 28 * (chunks * per)) (λ e. omega arith) (λ e. omega arith))

-- ---- a record

module _ (bytes : List ℕ) where
  pub too_short : length bytes < 32 → false ≡ not (bad_record bytes)
  unfolding bad_record
  too_short l = rw (lt-ltb (length bytes) 32 l)

  module _ (l : 32 ≤ length bytes) (kind : ℕ) (e : kind ≡ word_at bytes 0 1) where
    pub no_head : (kind ≡ 17 → ⊥) → false ≡ not (bad_record bytes)
    unfolding bad_record
    no_head n = rw (le-ltb (length bytes) 32 l, ← e, ne_eqb kind 17 n)

    module _ (s : kind ≡ 17) where
      pub head-bad : bad_head (head_of bytes) ≡ true → false ≡ not (bad_record bytes)
      unfolding bad_record
      head-bad b = rw (le-ltb (length bytes) 32 l, ← e, eq-eqb kind 17 s, b)

      module _ (b : bad_head (head_of bytes) ≡ false) where
        pub length-bad : not (eqb (length bytes) (record_length (head_of bytes))) ≡ true → false ≡ not (bad_record bytes)
        unfolding bad_record
        length-bad m = rw (le-ltb (length bytes) 32 l, ← e, eq-eqb kind 17 s, b, m)

        pub by_rows : not (eqb (length bytes) (record_length (head_of bytes))) ≡ false → not (bad_rows bytes (head_of bytes)) ≡ not (bad_record bytes)
        unfolding bad_record
        by_rows m = rw (le-ltb (length bytes) 32 l, ← e, eq-eqb kind 17 s, b, m)

-- what each test says where the record passes
pub record Passed (bytes : List ℕ) : Type 0 where
  pub long : 32 ≤ length bytes
  pub kind : word_at bytes 0 1 ≡ 17
  pub good : Good (head_of bytes)
  pub exact : length bytes ≡ record_length (head_of bytes)
  pub rows : bad_rows bytes (head_of bytes) ≡ false

pub passed : (bytes : List ℕ) → bad_record bytes ≡ false → Passed bytes
unfolding bad_record
passed bytes e =
    let x₄ = or-false _ (bad_rows bytes (head_of bytes)) e in
    let x₃ = or-false _ (not (eqb (length bytes) (record_length (head_of bytes)))) x₄.0 in
    let x₂ = or-false _ (bad_head (head_of bytes)) x₃.0 in
    let x₁ = or-false (ltb (length bytes) 32) (not (eqb (word_at bytes 0 1) 17)) x₂.0 in
    record {
      long = ltb-false _ _ x₁.0;
      kind = eqb-true _ _ (not-false _ x₁.1);
      good = good_head _ x₂.1;
      exact = eqb-true _ _ (not-false _ x₃.1);
      rows = x₄.1;
    }
