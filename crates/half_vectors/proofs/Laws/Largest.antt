-- The largest entry of a vector stands in its symmetric half.
use Rattle.std.specs.Prelude.{◌≡◌, refl, Bool, true, false, cond, List, ℕ, zero, suc, ◌+◌, ◌*◌, ◌-◌, ◌%◌, ◌^◌, ◌≤◌, ◌<◌, T, eqb, length, Float}
use Rattle.std.proofs.Common.{sym, ap, ◌∙◌, add-zero, add-suc, arith}
use Rattle.std.proofs.Math.Logic.{dite}
use Rattle.std.proofs.Math.Decide.{dec_lt}
use Rattle.std.specs.Float.Ieee.{lt}
use Rattle.list_laws.proofs.Laws.Power.{pow_double}
use Rattle.list_laws.specs.Tabulate.{tabulate}
use Rattle.list_laws.proofs.Laws.Tabulate.{tabulated, tabulate_ext}
use Rattle.transfer_matrix.specs.Job.{Manner, block, per_element}
use Rattle.transfer_matrix.specs.Rounded.{ieee}
use Rattle.transfer_matrix.specs.Sweep as S
use Rattle.largest_entry.specs.Larger.{larger}
use Rattle.largest_entry.proofs.Laws.Order.{plus, above-plus, not_above_itself, still_not}
use Rattle.largest_entry.specs.Top.{top}
use Rattle.largest_entry.proofs.Laws.Top.{top-none, top_suc}
use Rattle.half_vectors.specs.Half.{there_and_back}
use Rattle.half_vectors.proofs.Laws.Half.{there, back}
use Rattle.half_vectors.specs.Symmetric.{SymmetricHalf}
use Rattle.half_vectors.proofs.Laws.Symmetric.{symmetric_entry}

-- none of the first n numbers of f is above m
record Bound (f : ℕ → Float) (n : ℕ) (m : Float) : Type 0 where
  sign : T (plus m)
  bound : (j : ℕ) → j < n → lt m (f j) ≡ false

bound_next : (f : ℕ → Float) (n : ℕ) (m : Float) → Bound f n m → Bound f (suc n) (larger m (f n))
unfolding larger
bound_next f n m t = go (lt m (f n)) refl
  where
    go : (b : Bool) → lt m (f n) ≡ b → Bound f (suc n) (cond b (f n) m)
    go true e =
        let p = above-plus m (f n) t.sign e in
        record {
          sign = p;
          bound = λ j l.
              dite (dec_lt j n) (λ k. still_not m (f n) (f j) t.sign p e (t.bound j k))
              (λ k. let i : j ≡ n = omega arith in rw i (not_above_itself (f n) p));
        }
    go false e =
        record { sign = t.sign; bound = λ j l. dite (dec_lt j n) (λ k. t.bound j k) (λ k. let i : j ≡ n = omega arith in rw i e) }

top_bound : (f : ℕ → Float) (n : ℕ) → Bound f n (top f n)
unfolding plus
top_bound f zero = rw (← top-none f) (record { sign = tt; bound = λ j l. absurd (omega arith) })
top_bound f (suc n) = rw (top_suc f n) (bound_next f n (top f n) (top_bound f n))

-- entries that stand among the first n do not change it
top-more : (f : ℕ → Float) (n i : ℕ) → ((k : ℕ) → k < i → (j : ℕ) × (j < n) × (f (n + k) ≡ f j)) → top f (n + i) ≡ top f n
unfolding larger
top-more f n zero h = rw add-zero
top-more f n (suc i) h =
    let w = h i (omega arith) in
    rw (add-suc n i, top_suc f (n + i), top-more f n i (λ k l. h k (omega arith)), w.2, (top_bound f n).bound w.0 w.1)

-- the largest entry of the whole is that of the half
pub largest_symmetric : {w : ℕ} {h : ℕ → Float} {v : List Float} → 1 ≤ w → length v ≡ 2 ^ w → SymmetricHalf w h v
    → S.largest ieee ieee.𝟘 v ≡ S.largest ieee ieee.𝟘 (tabulate h (2 ^ (w - 1)))
largest_symmetric {w} {h} {v} wide e symmetric =
    let n = 2 ^ (w - 1) in
    let f = there_and_back w h in
    let z : 2 ^ w ≡ n + n = omega (arith, pow_double w wide) in
    ap (S.largest ieee ieee.𝟘) (tabulated ieee.𝟘 v f (2 ^ w) e (symmetric_entry wide symmetric))
    ∙ ap (top f) z
    ∙ top-more f n n (λ k l. (n - 1 - k, omega arith, again k l))
    ∙ ap (S.largest ieee ieee.𝟘) (tabulate_ext f h n (there w wide h))
  where
    again : (k : ℕ) → k < 2 ^ (w - 1) → there_and_back w h (2 ^ (w - 1) + k) ≡ there_and_back w h (2 ^ (w - 1) - 1 - k)
    again k l =
        let i : 2 ^ w - 1 - (2 ^ (w - 1) - 1 - k) ≡ 2 ^ (w - 1) + k = omega (arith, pow_double w wide) in
        rw i at (back w wide h (2 ^ (w - 1) - 1 - k) (omega arith)) ∙ sym (there w wide h (2 ^ (w - 1) - 1 - k) (omega arith))

-- so the largest entry that a step stores is
pub stored_symmetric : {w : ℕ} {h : ℕ → Float} {v : List Float} → 1 ≤ w → length v ≡ 2 ^ w → SymmetricHalf w h v → (a : Manner) (r t : ℕ)
    → S.stored ieee a r t v ≡ S.stored ieee a r t (tabulate h (2 ^ (w - 1)))
unfolding S.stored
stored_symmetric wide e symmetric per_element r t = largest_symmetric wide e symmetric
stored_symmetric wide e symmetric block r t = ap (λ x. cond (eqb (t % 4) r) x ieee.𝟙) (largest_symmetric wide e symmetric)
