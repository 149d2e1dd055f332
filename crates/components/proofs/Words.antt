-- A word that is made from its highest bit down, and the words of a forest whose roots are the lowest vertices.
use mathlib.Core.Path.{◌≡◌, sym, ap, ◌∙◌}
use mathlib.Core.Bool.{Bool, cond, ◌&&◌}
use mathlib.Core.List.{List}
use Prim.Native.Nat.{ℕ, zero, suc, ◌+◌, ◌-◌, ◌*◌, ◌^◌, ◌≤◌, ◌<◌}
use native.Mathlib.Decide.{ℕ_discrete, dec_lt}
use native.Mathlib.Nat.{lt_of_lt_of_le}
use native.Mathlib.Omega.{arith}
use lib.Dec.{eqb, ltb}
use lib.ListN.{length}
use lib.Pow.{pow_mono}
use borrow.Author.Tests.{eq-eqb, ne_eqb, lt-ltb, le-ltb}
use Rattle.list_laws.proofs.Laws.Tabulate.{tabulate_ext}
use Rattle.forest.specs.Lowest.{lowest, is_lowest, bits, lowest_marks}
use Rattle.union_find.specs.Forest.{parent, links, root, Labelled}
use Rattle.components.specs.Marks.{is_root, root_marks}
use Rattle.forest.proofs.Laws.Marks.{bits_none, bits-more, bits_fit}
use Rattle.union_find.proofs.Laws.Climb.{climb-own}

-- w has the bits from b on, and x is the bit below them
module _ (test : ℕ → Bool) (first b w x : ℕ) (some : 0 < b) (most : b ≤ 64) (W : w ≡ bits test (first + b) (64 - b))
    (X : x ≡ cond (test (first + (b - 1))) 1 0) where
  pub next_word : x + 2 * w ≡ bits test (first + (b - 1)) (64 - (b - 1))
  next_word =
      let e : 64 - (b - 1) ≡ suc (64 - b) = omega arith in
      let f : first + (b - 1) + 1 ≡ first + b = omega arith in
      rw (e, bits-more test (first + (b - 1)) (64 - b), f, W, X)

  pub word_fits : x + 2 * w < 2 ^ 64
  word_fits =
      let fits : 2 ^ (64 - (b - 1)) ≤ 2 ^ 64 = pow_mono {i = 64 - (b - 1)} {j = 64} (omega arith) in
      rw next_word (lt_of_lt_of_le (bits_fit test (first + (b - 1)) (64 - (b - 1))) (fits))

bits_ext : (s t : ℕ → Bool) → ((v : ℕ) → s v ≡ t v) → (v j : ℕ) → bits s v j ≡ bits t v j
bits_ext s t h v zero = bits_none s v ∙ sym (bits_none t v)
bits_ext s t h v (suc j) = rw (bits-more s v j, bits-more t v j, h v, bits_ext s t h (v + 1) j)

module _ (n : ℕ) (early late : List ℕ) {p : List ℕ} (L : Labelled n (lowest early late (length early)) p) where
  -- a vertex is its own parent exactly where it is its own root
  own_is : (v : ℕ) → v < n → eqb (parent p v) v ≡ eqb (root p v) v
  unfolding root
  own_is v h = at (ℕ_discrete (parent p v) v)
    where
      at : Dec (parent p v ≡ v) → eqb (parent p v) v ≡ eqb (root p v) v
      at (yes e) = eq-eqb _ _ e ∙ sym (eq-eqb _ _ (climb-own p (links 0 p) v e))
      at (no m) = ne_eqb _ _ m ∙ sym (ne_eqb (root p v) v (λ e. m (ap (parent p) (sym e) ∙ L.forest.settles v (rw L.len h) ∙ e)))

  root_is : (v : ℕ) → is_root p v ≡ is_lowest n early late v
  root_is v = rw L.len (go (dec_lt v n))
    where
      go : Dec (v < n) → (ltb v n && eqb (parent p v) v) ≡ is_lowest n early late v
      go (yes h) = rw (lt-ltb v n h) (own_is v h ∙ rw (L.roots v h))
      go (no m) = let l : n ≤ v = omega arith in rw (le-ltb v n l)

  pub roots-marked : root_marks p ≡ lowest_marks n early late
  roots-marked = tabulate_ext _ _ 16 (λ k l. bits_ext (is_root p) (is_lowest n early late) root_is (64 * k) 64)
