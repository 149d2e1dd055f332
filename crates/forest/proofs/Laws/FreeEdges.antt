-- Laws of what specs/FreeEdges defines.
use Rattle.std.specs.Prelude.{◌≡◌, refl, Bool, true, false, cond, List, ℕ, zero, suc, ◌+◌, ◌-◌, ◌≤◌, ◌<◌, eqb, length, get_or}
use Rattle.std.proofs.Math.Path.{sym, ap}
use Rattle.std.proofs.Common.{◌∙◌, true≢false, le_refl, arith, ext_get_or, eq-eqb, ne_eqb, eqb-true}
use Rattle.std.proofs.Math.Bool.{not}
use Rattle.std.proofs.Math.Decide.{ℕ_discrete, dec_lt}
use Rattle.std.proofs.Math.Numerals.{add-one}
use Rattle.std.proofs.lemmas.Bool.{not-false}
use Rattle.edge_bits.specs.Having.{tree, has_bit}
use Rattle.list_laws.specs.Count.{count}
use Rattle.list_laws.proofs.Laws.Count.{count_zero, count_hit, count_miss, count_most, count-both, count_ext}
use Rattle.list_laws.specs.Tabulate.{tabulate}
use Rattle.list_laws.proofs.Laws.Tabulate.{tabulate-length, tabulate-at}
use Rattle.forest.specs.Paths.{Edges}
use Rattle.forest.specs.Labels.{is_tree}
use Rattle.forest.proofs.Laws.Labels.{tree_open, free_closes}
use Rattle.forest.specs.Components.{component_count}
use Rattle.forest.proofs.Laws.Components.{trees_and_components}
use Rattle.forest.specs.FreeEdges.{free_before, free_count, bit_of, bits_of, at, cycles, ForestBits}

module _ (early late : List ℕ) where
  abbrev free : ℕ → Bool
  free e = not (is_tree early late e)

  abbrev before : ℕ → ℕ
  before = free_before early late

  -- ---- how many stand before an edge

  pub before-none : before 0 ≡ 0
  unfolding free_before
  before-none = count_zero free

  -- one edge more, as a loop counts it
  pub before_more : (e : ℕ) → before (e + 1) ≡ before e + cond (free e) 1 0
  unfolding free_before count
  before_more e = rw add-one

  pub before-most : (e : ℕ) → before e ≤ e
  unfolding free_before
  before-most e = count_most free e

  before-next : (e : ℕ) (b : Bool) → free e ≡ b → before (e + 1) ≡ before e + cond b 1 0
  before-next e b h = before_more e ∙ ap (λ (x : Bool). before e + cond x 1 0) h

  before-up : (e d : ℕ) → before e ≤ before (e + d)
  before-up e zero = let z : e + 0 ≡ e = omega arith in rw z (le_refl (before e))
  before-up e (suc d) = let z : e + suc d ≡ e + d + 1 = omega arith in rw (z, before_more (e + d)) (omega (arith, before-up e d))

  pub before_mono : (e m : ℕ) → e ≤ m → before e ≤ before m
  before_mono e m h = let z : e + (m - e) ≡ m = omega arith in rw z at (before-up e (m - e))

  -- more stand before any later edge
  before_less : (e m : ℕ) → e < m → is_tree early late e ≡ false → before e < before m
  before_less e m h t = omega (arith, before-next e true (ap not t), before_mono (e + 1) m (omega arith))

  -- some free edge has so many before it
  before-some : (m b : ℕ) → b < before m → (e : ℕ) × (e < m) × (is_tree early late e ≡ false) × (before e ≡ b)
  before-some zero b h = absurd (omega (arith, before-none))
  before-some (suc m) b h = go (before-some m b) (dec_lt b (before m)) (is_tree early late m) refl
    where
      step : before (suc m) ≡ before m + cond (free m) 1 0
      step = rw (add-one m) at (before_more m)

      go : (b < before m → (e : ℕ) × (e < m) × (is_tree early late e ≡ false) × (before e ≡ b)) → Dec (b < before m) → (t : Bool) → is_tree early late m ≡ t
          → (e : ℕ) × (e < suc m) × (is_tree early late e ≡ false) × (before e ≡ b)
      go ih (yes l) t q = let x = ih l in (x.0, omega (arith, x.1), x.2, x.3)
      go ih (no l) true q = absurd (omega (arith, step ∙ ap (λ (x : Bool). before m + cond (not x) 1 0) q))
      go ih (no l) false q = (m, le_refl (suc m), q, omega (arith, step ∙ ap (λ (x : Bool). before m + cond (not x) 1 0) q))

  -- ---- the bits

  pub bit-tree : (e : ℕ) → is_tree early late e ≡ true → bit_of early late e ≡ tree
  unfolding bit_of
  bit-tree e t = rw t

  pub bit-free : (e : ℕ) → is_tree early late e ≡ false → bit_of early late e ≡ before e
  unfolding bit_of
  bit-free e t = rw t

  -- an edge has a bit exactly where it is free
  pub has-bit : (e : ℕ) → e < tree → has_bit (bit_of early late e) ≡ free e
  has-bit e h = go (is_tree early late e) refl
    where
      go : (t : Bool) → is_tree early late e ≡ t → has_bit (bit_of early late e) ≡ free e
      go true t = rw (bit-tree e t, t) (ap not (eq-eqb tree tree refl))
      go false t = rw (bit-free e t, t) (ap not (ne_eqb (before e) tree (λ q. absurd (omega (arith, before-most e)))))

  pub free_where : (e : ℕ) → has_bit (bit_of early late e) ≡ true → is_tree early late e ≡ false
  free_where e t = go (is_tree early late e) refl
    where
      go : (b : Bool) → is_tree early late e ≡ b → is_tree early late e ≡ false
      go true q = absurd (true≢false (sym t ∙ ap has_bit (bit-tree e q) ∙ ap not (eq-eqb tree tree refl)))
      go false q = q

  -- a bit is below the count of the free edges
  pub bit_below : (e : ℕ) → e < length early → has_bit (bit_of early late e) ≡ true → bit_of early late e < free_count early late
  unfolding free_count
  bit_below e h t = let f = free_where e t in rw (bit-free e f) (before_less e (length early) h f)

  pub bits-long : length (bits_of early late) ≡ length early
  unfolding bits_of
  bits-long = tabulate-length (bit_of early late) (length early)

  pub bits_at : (e : ℕ) → e < length early → at (bits_of early late) e ≡ bit_of early late e
  unfolding bits_of
  bits_at e h = tabulate-at (bit_of early late) (length early) e 0 h

-- as many free edges as the edges and components are more than the vertices
pub free-edges : {n : ℕ} {early late : List ℕ} → Edges n early late → free_count early late ≡ cycles n early late
unfolding free_count free_before
free-edges {n} {early} {late} E = omega (arith, trees_and_components E, count-both (is_tree early late) (length early))

-- the list of bits says what it should, of edges that can be counted
module _ {n : ℕ} {early late : List ℕ} (E : Edges n early late) (few : length early < tree) where
  abbrev bits : List ℕ
  bits = bits_of early late

  having : (e : ℕ) → e < length early → has_bit (at bits e) ≡ not (is_tree early late e)
  having e h = ap has_bit (bits_at early late e h) ∙ has-bit early late e (omega arith)

  is_free : (e : ℕ) → e < length early → has_bit (at bits e) ≡ true → is_tree early late e ≡ false
  is_free e h t = free_where early late e (sym (ap has_bit (bits_at early late e h)) ∙ t)

  value : (e : ℕ) → e < length early → has_bit (at bits e) ≡ true → at bits e ≡ free_before early late e
  value e h t = bits_at early late e h ∙ bit-free early late e (is_free e h t)

  counted : (e : ℕ) → e < length early → free_before early late e ≡ count (λ i. has_bit (at bits i)) e
  unfolding free_before
  counted e h = count_ext _ _ e (λ i l. sym (having i (omega arith)))

  found : (b : ℕ) → b < cycles n early late → (e : ℕ) × (e < length early) × (has_bit (at bits e) ≡ true) × (at bits e ≡ b)
  unfolding free_count
  found b h =
      let x = before-some early late (length early) b (omega (arith, free-edges E)) in
      let t = having x.0 x.1 ∙ ap not x.2 in
      (x.0, x.1, t, value x.0 x.1 t ∙ x.3)

  once : (d e : ℕ) → d < length early → e < length early → has_bit (at bits d) ≡ true → at bits d ≡ at bits e → d ≡ e
  once d e k h t q = go (dec_lt d e) (dec_lt e d)
    where
      u : has_bit (at bits e) ≡ true
      u = ap has_bit (sym q) ∙ t

      same : free_before early late d ≡ free_before early late e
      same = sym (value d k t) ∙ q ∙ value e h u

      go : Dec (d < e) → Dec (e < d) → d ≡ e
      go (yes l) r = absurd (omega (arith, same, before_less early late d e l (is_free d k t)))
      go (no l) (yes r) = absurd (omega (arith, same, before_less early late e d r (is_free e h u)))
      go (no l) (no r) = omega arith

  pub forest-bits : ForestBits n early late bits
  forest-bits = record {
    each = bits-long early late;
    tree-edge = λ e h t. tree_open early late e (not-false _ (sym (having e h) ∙ t));
    free-edge = λ e h t. free_closes early late e (is_free e h t);
    position = λ e h t. value e h t ∙ counted e h;
    below = λ e h t. rw (bits_at early late e h, ← free-edges E) (bit_below early late e h (sym (ap has_bit (bits_at early late e h)) ∙ t));
    some-edge = found;
    one-edge = once;
  }

-- so the bits are determined: two lists that say so are equal
pub bits-only : {n : ℕ} {early late s t : List ℕ} → ForestBits n early late s → ForestBits n early late t → s ≡ t
bits-only {n} {early} {late} {s} {t} S T =
    ext_get_or 0 s t (S.each ∙ sym T.each) (λ e l. value e (rw S.each at l) (has_bit (at s e)) refl)
  where
    alike : (e : ℕ) → e < length early → (a : Bool) → has_bit (at s e) ≡ a → (b : Bool) → has_bit (at t e) ≡ b → a ≡ b
    alike e h true p true q = refl
    alike e h true p false q = absurd (T.tree-edge e h q (S.free-edge e h p))
    alike e h false p true q = absurd (S.tree-edge e h p (T.free-edge e h q))
    alike e h false p false q = refl

    same : (e : ℕ) → e < length early → has_bit (at s e) ≡ has_bit (at t e)
    same e h = alike e h _ refl _ refl

    value : (e : ℕ) → e < length early → (a : Bool) → has_bit (at s e) ≡ a → at s e ≡ at t e
    value e h true p =
        S.position e h p
        ∙ count_ext (λ i. has_bit (at s i)) (λ i. has_bit (at t i)) e (λ i l. same i (omega arith))
        ∙ sym (T.position e h (sym (same e h) ∙ p))
    value e h false p = eqb-true _ _ (not-false _ p) ∙ sym (eqb-true _ _ (not-false _ (sym (same e h) ∙ p)))
