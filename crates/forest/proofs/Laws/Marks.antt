-- The bits of the sixteen words: each is its vertex's test, and they are as many as the components.
use Rattle.std.specs.Prelude.{◌≡◌, Bool, true, false, cond, ◌&&◌, List, ℕ, zero, suc, ◌+◌, ◌*◌, ◌-◌, ◌/◌, ◌%◌, ◌^◌, ◌≤◌, ◌<◌, eqb, ltb, length, get_or}
use Rattle.std.proofs.Math.Path.{refl}
use Rattle.std.proofs.Common.{sym, ap, ◌∙◌, pow-suc, arith, eqb-true, lt-ltb, le-ltb}
use Rattle.std.proofs.Math.Decide.{dec_lt}
use Rattle.std.proofs.Math.Nat.{pow-succ', div-div-eq-div-mul}
use Rattle.std.proofs.lemmas.Bool.{eqb-false}
use Rattle.list_laws.specs.Tabulate.{tabulate}
use Rattle.list_laws.proofs.Laws.Tabulate.{tabulate-length, tabulate-at}
use Rattle.list_laws.specs.Count.{count}
use Rattle.list_laws.proofs.Laws.Count.{count_ext, count_past}
use Rattle.limits.specs.Limits.{most_vertices}
use Rattle.forest.specs.Paths.{Edges}
use Rattle.forest.specs.Components.{component_count}
use Rattle.forest.specs.Lowest.{lowest, is_lowest, bits, lowest_marks, marked, MarksLowest}
use Rattle.forest.proofs.Laws.Lowest.{lowest-none, lowest-some, lowest-count}

module _ (test : ℕ → Bool) where
  pub bits_none : (v : ℕ) → bits test v 0 ≡ 0
  unfolding bits
  bits_none v = refl

  pub bits-more : (v j : ℕ) → bits test v (suc j) ≡ cond (test v) 1 0 + 2 * bits test (v + 1) j
  unfolding bits
  bits-more v j = refl

  pub bits_fit : (v j : ℕ) → bits test v j < 2 ^ j
  bits_fit v zero = rw (bits_none v) (omega arith)
  bits_fit v (suc j) = rw (bits-more v j, pow-succ' 2 j) (go (test v) (bits_fit (v + 1) j))
    where
      go : (b : Bool) → bits test (v + 1) j < 2 ^ j → cond b 1 0 + 2 * bits test (v + 1) j < 2 * 2 ^ j
      go true h = omega arith
      go false h = omega arith

  halved : (b : Bool) (x : ℕ) → (cond b 1 0 + 2 * x) / 2 ≡ x
  halved true x = omega arith
  halved false x = omega arith

  lowest-bit : (b : Bool) (x : ℕ) → (cond b 1 0 + 2 * x) / 1 % 2 ≡ cond b 1 0
  lowest-bit true x = omega arith
  lowest-bit false x = omega arith

  bit_at : (j k v : ℕ) → k < j → bits test v j / 2 ^ k % 2 ≡ cond (test (v + k)) 1 0
  bit_at zero k v h = absurd (omega arith)
  bit_at (suc j) zero v h =
      let e : v + 0 ≡ v = omega arith in
      rw (bits-more v j, e) (lowest-bit (test v) (bits test (v + 1) j))
  bit_at (suc j) (suc k) v h =
      let e : v + suc k ≡ v + 1 + k = omega arith in
      rw (bits-more v j, pow-succ' 2 k, ← div-div-eq-div-mul, halved, e) (bit_at j k (v + 1) (omega arith))

module _ (n : ℕ) (early late : List ℕ) where
  pub mark_is : (v : ℕ) → v < most_vertices → marked (lowest_marks n early late) v ≡ is_lowest n early late v
  mark_is v h =
      let t = is_lowest n early late in
      let e : 64 * (v / 64) + v % 64 ≡ v = omega arith in
      rw (tabulate-at (λ k. bits t (64 * k) 64) 16 (v / 64) 0 (omega arith), bit_at t 64 (v % 64) (64 * (v / 64)) (omega arith), e) (whether (t v))
    where
      whether : (b : Bool) → eqb (cond b 1 0) 1 ≡ b
      whether true = refl
      whether false = refl

  inside : (v : ℕ) → v < n → is_lowest n early late v ≡ eqb (lowest early late (length early) v) v
  inside v h = rw (lt-ltb v n h)

  beyond : (v : ℕ) → n ≤ v → is_lowest n early late v ≡ false
  beyond v h = rw (le-ltb v n h)

  -- by paths
  pub marks-lowest : n ≤ most_vertices → MarksLowest n early late (lowest_marks n early late)
  marks-lowest few = record {
    sixteen = tabulate-length (λ k. bits (is_lowest n early late) (64 * k) 64) 16;
    set = λ v h e. lowest-none early late v (eqb-true _ _ (sym (at v h) ∙ e));
    clear = λ v h e. lowest-some early late v (eqb-false _ _ (sym (at v h) ∙ e));
    past = λ v h l. mark_is v l ∙ beyond v h;
  }
    where
      at : (v : ℕ) → v < n → marked (lowest_marks n early late) v ≡ eqb (lowest early late (length early) v) v
      at v h = mark_is v (omega arith) ∙ inside v h

  -- the count is the number of bits set
  pub marks-counted : Edges n early late → n ≤ most_vertices → count (marked (lowest_marks n early late)) most_vertices ≡ component_count n early late
  marks-counted E few =
      let e : n + (most_vertices - n) ≡ most_vertices = omega arith in
      count_ext _ _ most_vertices mark_is
      ∙ ap (count (is_lowest n early late)) (sym e)
      ∙ count_past (is_lowest n early late) n (most_vertices - n) beyond
      ∙ count_ext _ _ n inside
      ∙ lowest-count E
