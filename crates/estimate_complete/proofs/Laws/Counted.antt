-- Which counts are complete: the powers of two up to 2 ^ 34, and no others.
use Rattle.std.specs.Prelude.{◌≡◌, Bool, true, false, ◌||◌, ℕ, zero, suc, ◌^◌, ◌≤◌, ◌<◌, eqb}
use Rattle.std.proofs.Common.{arith, pow_pos, pow_mono, eq-eqb, ne_eqb, le-ltb, eqb-true}
use Rattle.limits.specs.Limits.{most_counted}
use Rattle.list_laws.specs.Search.{some}
use Rattle.list_laws.proofs.Laws.Search.{some_at}
use Rattle.estimate.specs.Estimates.{bad_count}
use Rattle.estimate_complete.specs.Complete.{is_complete, Power}

pub power_complete : {count : ℕ} → Power count → is_complete count ≡ true
power_complete {count} p =
    let h = p.few in
    some_at (λ k. eqb count (2 ^ k)) (suc most_counted) p.free (omega arith) (eq-eqb count (2 ^ p.free) p.is)

found : (count n : ℕ) → n ≤ suc most_counted → some (λ k. eqb count (2 ^ k)) n ≡ true → Power count
unfolding some
found count zero l h = absurd (let z : ◌≡◌ {A = ℕ} 0 1 = cc in omega arith)
found count (suc n) l h = go (some (λ k. eqb count (2 ^ k)) n) (found count n (omega arith)) h
  where
    go : (b : Bool) → (b ≡ true → Power count) → (b || eqb count (2 ^ n)) ≡ true → Power count
    go true ih e = ih e
    go false ih e = record { free = n; few = omega arith; is = eqb-true count (2 ^ n) e }

pub complete_power : (count : ℕ) → is_complete count ≡ true → Power count
complete_power count h = found count (suc most_counted) (omega arith) h

-- such a count is a double
pub few-enough : {count : ℕ} → Power count → count ≤ 2 ^ 53
few-enough p = let h = p.few in let m : p.free ≤ 53 = omega arith in rw p.is (pow_mono m)

pub some-counted : {count : ℕ} → Power count → 0 < count
some-counted p = rw p.is (pow_pos p.free)

-- nor does `estimate` refuse it
pub good_count : {count : ℕ} → Power count → bad_count count ≡ false
good_count {count} p =
    let l = some-counted p in
    rw (ne_eqb count 0 (λ (q : count ≡ 0). omega arith), le-ltb (2 ^ 53) count (few-enough p))
