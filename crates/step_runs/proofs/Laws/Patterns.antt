-- Patterns over runs of 2 ^ e indexes: the pattern of a sum of a multiple of 2 ^ e and what is below it, and bits that a run does not see.
use Rattle.std.specs.Prelude.{◌≡◌, refl, List, ◌⊎◌, ℕ, zero, suc, ◌+◌, ◌*◌, ◌-◌, ◌/◌, ◌%◌, ◌^◌, ◌≤◌, ◌<◌, get_or}
use Rattle.std.proofs.Common.{◌∙◌, inl, inr, add_comm, mul-div_cancel, mul_assoc, arith, pow_pos, pow_mono, pow-add}
use Rattle.std.proofs.Math.Logic.{dite}
use Rattle.std.proofs.Math.Nat.{add-mul-div_right, div-eq_of_lt}
use Rattle.std.proofs.Math.Decide.{dec_lt}
use Rattle.step_tables.specs.Step.{pattern_from, pattern_by}
use Rattle.step_tables.proofs.Laws.Pattern.{high_bit}
use Rattle.step_runs.specs.Rule.{Sparse}

pub sparse_less : {l : List ℕ} {n b e : ℕ} (e' : ℕ) → e' ≤ e → Sparse l n b e → Sparse l n b e'
sparse_less {l} {n} {b} {e} e' h s = record { off = λ t c. go t (s.off t c) }
  where
    go : (t : ℕ) → ((get_or l t 0 < b) ⊎ (e ≤ get_or l t 0)) → (get_or l t 0 < b) ⊎ (e' ≤ get_or l t 0)
    go t (inl p) = inl p
    go t (inr p) = inr (omega arith)

pub sparse-none : (l : List ℕ) (b e : ℕ) → Sparse l 0 b e
sparse-none l b e = record { off = λ t c. absurd (omega arith) }

-- one bit more, and e no larger
pub sparse-more : {l : List ℕ} {n b e : ℕ} (e' : ℕ) → e' ≤ e → Sparse l n b e → ((get_or l n 0 < b) ⊎ (e' ≤ get_or l n 0)) → Sparse l (n + 1) b e'
sparse-more {l} {n} {b} {e} e' h s last =
    record {
      off = λ t c. dite (dec_lt t n)
          (λ x. (sparse_less e' h s).off t x)
          (λ x. let g : t ≡ n = omega arith in rw g last);
    }

-- ---- bit by bit

-- a multiple of 2 ^ e and what is below it have no bit in common
bit_add : (q e j c : ℕ) → j < 2 ^ e → (q * 2 ^ e + j) / 2 ^ c % 2 ≡ q * 2 ^ e / 2 ^ c % 2 + j / 2 ^ c % 2
bit_add q e j c h =
    dite (dec_lt c e)
    (λ l.
    let t : e - c - 1 + 1 + c ≡ e = omega arith in
    let p : 2 ^ e ≡ 2 ^ (e - c - 1) * 2 * 2 ^ c = rw t at (pow-add 2 (e - c - 1 + 1) c) ∙ rw (pow-add 2 (e - c - 1) 1) in
    let x = q * 2 ^ (e - c - 1) * 2 in
    let m : q * 2 ^ e ≡ x * 2 ^ c = rw p (simp mul_assoc) in
    let s : (x * 2 ^ c + j) / 2 ^ c ≡ j / 2 ^ c + x = rw (add_comm (x * 2 ^ c) j) (add-mul-div_right j x (pow_pos c)) in
    let z : x * 2 ^ c / 2 ^ c ≡ x = mul-div_cancel x (pow_pos c) in
    rw (m, s, z) (omega arith))
    (λ l.
    let g : j / 2 ^ c ≡ 0 = div-eq_of_lt (omega (arith, pow_mono {i = e} {j = c} (omega arith))) in
    rw (high_bit q e j c h (omega arith), g) (omega arith))

pattern-sum : (l : List ℕ) (i n q e j : ℕ) → j < 2 ^ e → pattern_from l i n (q * 2 ^ e + j) ≡ pattern_from l i n (q * 2 ^ e) + pattern_from l i n j
unfolding pattern_from
pattern-sum l i zero q e j h = refl
pattern-sum l i (suc n) q e j h = rw (pattern-sum l (suc i) n q e j h, bit_add q e j (get_or l i 0) h) (omega arith)

pattern-same : (l : List ℕ) (i n j k : ℕ) → ((t : ℕ) → i ≤ t → t < i + n → j / 2 ^ get_or l t 0 % 2 ≡ k / 2 ^ get_or l t 0 % 2)
    → pattern_from l i n j ≡ pattern_from l i n k
unfolding pattern_from
pattern-same l i zero j k a = refl
pattern-same l i (suc n) j k a =
    rw (pattern-same l (suc i) n j k (λ t x y. a t (omega arith) (omega arith)), a i (omega arith) (omega arith))

-- ---- the pattern of an index

pub pattern_add : (l : List ℕ) (n q e j : ℕ) → j < 2 ^ e → pattern_by l n (q * 2 ^ e + j) ≡ pattern_by l n (q * 2 ^ e) + pattern_by l n j
pattern_add l n q e j h = pattern-sum l 0 n q e j h

pub pattern_zero : (l : List ℕ) (n : ℕ) → pattern_by l n 0 ≡ 0
pattern_zero l n = omega (arith, pattern-sum l 0 n 0 0 0 (omega arith))

-- below 2 ^ e the pattern sees the lowest bit alone
pub pattern-one : {l : List ℕ} {n e : ℕ} (j : ℕ) → Sparse l n 1 e → 1 ≤ e → j < 2 ^ e → pattern_by l n j ≡ pattern_by l n (j % 2)
pattern-one {l} {n} {e} j s h b = pattern-same l 0 n j (j % 2) (λ t x y. go (get_or l t 0) (s.off t (omega arith)))
  where
    two : 2 ^ 1 ≤ 2 ^ e
    two = pow_mono h

    go : (c : ℕ) → ((c < 1) ⊎ (e ≤ c)) → j / 2 ^ c % 2 ≡ j % 2 / 2 ^ c % 2
    go zero (inl p) = omega arith
    go (suc c) (inl p) = absurd (omega arith)
    go c (inr p) =
        let m : 2 ^ e ≤ 2 ^ c = pow_mono p in
        let f : j / 2 ^ c ≡ 0 = div-eq_of_lt (omega arith) in
        let g : j % 2 / 2 ^ c ≡ 0 = div-eq_of_lt (omega (arith, two)) in
        rw (f, g)

-- and here the lowest two
pub pattern-two : {l : List ℕ} {n e : ℕ} (j : ℕ) → Sparse l n 2 e → 2 ≤ e → j < 2 ^ e → pattern_by l n j ≡ pattern_by l n (j % 4)
pattern-two {l} {n} {e} j s h b = pattern-same l 0 n j (j % 4) (λ t x y. go (get_or l t 0) (s.off t (omega arith)))
  where
    four : 2 ^ 2 ≤ 2 ^ e
    four = pow_mono h

    go : (c : ℕ) → ((c < 2) ⊎ (e ≤ c)) → j / 2 ^ c % 2 ≡ j % 4 / 2 ^ c % 2
    go zero (inl p) = omega arith
    go (suc zero) (inl p) = omega arith
    go (suc (suc c)) (inl p) = absurd (omega arith)
    go c (inr p) =
        let m : 2 ^ e ≤ 2 ^ c = pow_mono p in
        let f : j / 2 ^ c ≡ 0 = div-eq_of_lt (omega arith) in
        let g : j % 4 / 2 ^ c ≡ 0 = div-eq_of_lt (omega (arith, four)) in
        rw (f, g)
