-- A record's length, without the product that it is.
use Rattle.std.specs.Prelude.{◌≡◌, true, not, ℕ, ◌+◌, ◌-◌, ◌*◌, ◌/◌, ◌%◌, ◌≤◌, ◌<◌, eqb}
use Rattle.std.proofs.Common.{sym, ap, ◌∙◌, mul-le-mul, mul-zero, add-zero, arith, eq-eqb, ne_eqb}
use Rattle.std.proofs.Math.Nat.{div-add-mod}
use Rattle.std.proofs.Math.Decide.{ℕ_discrete}
use Rattle.std.proofs.Math.Arith.{digits_div, digits_mod}
use Rattle.run_record.specs.declared.Head.{Head}
use Rattle.run_record.specs.Records.{per_chunk, chunks_of, record_length}
use Rattle.record_checks.specs.Recording.{other_length}

-- the bytes of a chunk's rows
abbrev pub chunk_bytes : Head → ℕ
chunk_bytes h = 28 * per_chunk h

pub few_bytes : (betas pairs : ℕ) → betas ≤ 64 → pairs ≤ 256 → 28 * (betas * pairs) ≤ 458752
few_bytes betas pairs p q = let m : betas * pairs ≤ 64 * 256 = mul-le-mul p q in omega arith

length-is : (h : Head) → record_length h ≡ 32 + chunks_of h * chunk_bytes h
length-is h = omega arith

-- a size that is not the record's
other : (h : Head) (size : ℕ) → (size ≡ record_length h → ⊥) → true ≡ other_length h size
other h size n = rw (ne_eqb size (record_length h) n)

pub too_short : (h : Head) (size : ℕ) → size < 32 → true ≡ other_length h size
too_short h size l = other h size (λ e. omega (arith, e))

pub no_rows_other : (h : Head) (size : ℕ) → 32 ≤ size → chunk_bytes h ≡ 0 → not (eqb (size - 32) 0) ≡ other_length h size
no_rows_other h size l z =
    let e : record_length h ≡ 32 = length-is h ∙ ap (λ (k : ℕ). 32 + chunks_of h * k) z ∙ ap (λ (k : ℕ). 32 + k) (mul-zero (chunks_of h)) in
    go (ℕ_discrete size 32) e
  where
    go : Dec (size ≡ 32) → record_length h ≡ 32 → not (eqb (size - 32) 0) ≡ other_length h size
    go (yes q) e = rw (eq-eqb (size - 32) 0 (omega arith), eq-eqb size (record_length h) (q ∙ sym e))
    go (no n) e = rw (ne_eqb (size - 32) 0 (λ q. n (omega arith)), ne_eqb size (record_length h) (λ q. n (q ∙ e)))

module _ (h : Head) (size : ℕ) (l : 32 ≤ size) (p : 0 < chunk_bytes h) where
  rest_of : size ≡ record_length h → size - 32 ≡ chunks_of h * chunk_bytes h + 0
  rest_of e = let q = length-is h in omega (arith, e, q)

  pub cut_row : ((size - 32) % chunk_bytes h ≡ 0 → ⊥) → true ≡ other_length h size
  cut_row n = other h size (λ e. n (ap (λ (k : ℕ). k % chunk_bytes h) (rest_of e) ∙ digits_mod (chunks_of h) p))

  whole : (size - 32) % chunk_bytes h ≡ 0 → (size - 32) / chunk_bytes h ≡ chunks_of h → size ≡ record_length h
  whole r q =
      let d : chunk_bytes h * ((size - 32) / chunk_bytes h) + (size - 32) % chunk_bytes h ≡ size - 32 = div-add-mod (size - 32) (chunk_bytes h) in
      let e : size - 32 ≡ chunk_bytes h * chunks_of h = sym (rw (r, q) at d) ∙ add-zero _ in
      omega (arith, e, length-is h)

  pub other-count : (size - 32) % chunk_bytes h ≡ 0 → not (eqb ((size - 32) / chunk_bytes h) (chunks_of h)) ≡ other_length h size
  other-count r = go (ℕ_discrete ((size - 32) / chunk_bytes h) (chunks_of h))
    where
      go : Dec ((size - 32) / chunk_bytes h ≡ chunks_of h) → not (eqb ((size - 32) / chunk_bytes h) (chunks_of h)) ≡ other_length h size
      go (yes q) = rw (eq-eqb ((size - 32) / chunk_bytes h) (chunks_of h) q, eq-eqb size (record_length h) (whole r q))
      go (no n) =
          rw (
            ne_eqb ((size - 32) / chunk_bytes h) (chunks_of h) n,
            ne_eqb size (record_length h) (λ e. n (ap (λ (k : ℕ). k / chunk_bytes h) (rest_of e) ∙ digits_div (chunks_of h) p)),
          )
