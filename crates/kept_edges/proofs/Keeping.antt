-- The kept edges, one raw edge after the other, and the buffers that they are written to.
use mathlib.Core.Path.{◌≡◌, refl, sym, ap, ◌∙◌}
use mathlib.Core.Bool.{Bool, true, false, cond, not}
use mathlib.Core.List.{List, [], ◌∷◌, ◌++◌, map, map-append}
use Prim.Native.Nat.{ℕ, zero, suc, ◌+◌, ◌-◌, ◌≤◌, ◌<◌, min, max}
use native.Mathlib.Numerals.{add-one}
use native.Mathlib.Omega.{arith}
use lib.Ieee.{Float, nan, eq, ne}
use lib.ListN.{length, get_or, set, length-append, length-set, length-map}
use Rattle.list_laws.specs.Front.{over}
use Rattle.list_laws.proofs.Laws.Front.{over-more}
use Rattle.refusals.specs.Edges.{Kept, kept_at, kept_of, kept, is_zero}
use Rattle.kept_edges.specs.Keep.{Written, Holds}

module _ (a b : List ℕ) (m : List Float) where
  pub kept-dropped : (i : ℕ) → is_zero (get_or m i nan) ≡ true → kept_of a b m (i + 1) ≡ kept_of a b m i
  unfolding kept_of
  kept-dropped i z = rw (add-one, z)

  pub kept_more : (i : ℕ) → is_zero (get_or m i nan) ≡ false → kept_of a b m (i + 1) ≡ kept_of a b m i ++ (kept_at a b m i ∷ [])
  unfolding kept_of
  kept_more i z = rw (add-one, z)

  grown : (i : ℕ) → length (kept_of a b m i) ≤ length (kept_of a b m (suc i))
  unfolding kept_of
  grown i = go (is_zero (get_or m i nan))
    where
      go : (z : Bool) → length (kept_of a b m i) ≤ length (cond z (kept_of a b m i) (kept_of a b m i ++ (kept_at a b m i ∷ [])))
      go true = omega arith
      go false = omega (arith, length-append (kept_of a b m i) (kept_at a b m i ∷ []))

  -- more raw edges keep no fewer
  pub kept_grows : (i d : ℕ) → length (kept_of a b m i) ≤ length (kept_of a b m (i + d))
  kept_grows i zero = let e : i + 0 ≡ i = omega arith in rw e (omega arith)
  kept_grows i (suc d) =
      let e : i + suc d ≡ suc (i + d) = omega arith in
      rw e (omega (arith, kept_grows i d, grown (i + d)))

  -- before a kept edge there are fewer than in all
  pub kept-below : (n i : ℕ) → i < n → is_zero (get_or m i nan) ≡ false → length (kept_of a b m i) < length (kept_of a b m n)
  kept-below n i h z =
      let e = kept_more i z in
      let l = length-append (kept_of a b m i) (kept_at a b m i ∷ []) in
      let s : i + 1 + (n - (i + 1)) ≡ n = omega arith in
      let g : length (kept_of a b m (i + 1)) ≤ length (kept_of a b m n) = rw s at (kept_grows (i + 1) (n - (i + 1))) in
      omega (arith, ap length e)

-- one element more behind a buffer's front, which holds a column of the edges
pub column-more : {A : Type 0} (f : Kept → A) (es : List Kept) (e : Kept) (l l₀ : List A) (x : A) (k : ℕ) → l ≡ over (map f es) l₀
    → k ≡ length es → k < length l₀ → x ≡ f e → set l k x ≡ over (map f (es ++ (e ∷ []))) l₀
column-more f es e l l₀ x k h c r p =
    rw (h, p, map-append f es (e ∷ [])) (over-more (map f es) l₀ k (f e) (c ∙ sym (length-map es f)) r)

-- ---- what the loop knows: the kept edges of the first i stand at the fronts, and all of them would fit
pub record Keeping (a b : List ℕ) (m : List Float) (i k : ℕ) (early₀ early late₀ late : List ℕ) (mag₀ mag : List Float) : Type 0 where
  pub written : Written a b m i k early₀ early late₀ late mag₀ mag
  pub fits : Holds (length (kept a b m)) early₀ late₀ mag₀
  pub within : i ≤ length a
  pub earlies : length early ≡ length early₀
  pub lates : length late ≡ length late₀
  pub mags : length mag ≡ length mag₀

pub keep-none : (a b : List ℕ) (m : List Float) (early late : List ℕ) (mag : List Float) → Holds (length (kept a b m)) early late mag
    → Keeping a b m 0 0 early early late late mag mag
unfolding kept_of
keep-none a b m early late mag h =
    record {
      written = record { edges = refl; earlies = refl; lates = refl; mags = refl };
      fits = h;
      within = omega arith;
      earlies = refl;
      lates = refl;
      mags = refl;
    }

-- what was read is the magnitude at its place
pub zero_at : {x y : Float} {t : Bool} → x ≡ y → is_zero x ≡ t → is_zero y ≡ t
zero_at e h = ap is_zero (sym e) ∙ h

pub ne_eq : (x y : Float) (t : Bool) → ne x y ≡ not t → eq x y ≡ t
unfolding ne
ne_eq x y t h = go (eq x y) t h
  where
    go : (s t : Bool) → not s ≡ not t → s ≡ t
    go true true h = refl
    go true false h = sym h
    go false true h = sym h
    go false false h = refl

module _ {a b : List ℕ} {m : List Float} {i k : ℕ} {early₀ early late₀ late : List ℕ} {mag₀ mag : List Float}
    (K : Keeping a b m i k early₀ early late₀ late mag₀ mag) (i< : i < length a) where
  pub keep_not : is_zero (get_or m i nan) ≡ true → Keeping a b m (i + 1) k early₀ early late₀ late mag₀ mag
  keep_not z =
      let e = kept-dropped a b m i z in
      let w = K.written in
      record {
        written = record { edges = rw e w.edges; earlies = rw e w.earlies; lates = rw e w.lates; mags = rw e w.mags };
        fits = K.fits;
        within = omega arith;
        earlies = K.earlies;
        lates = K.lates;
        mags = K.mags;
      }

  -- a kept edge has room in each buffer
  keep-room : is_zero (get_or m i nan) ≡ false → k < length (kept a b m)
  keep-room z = let l = kept-below a b m (length a) i i< z in let w = K.written.edges in omega arith

  pub keep-rooms : is_zero (get_or m i nan) ≡ false → (k < length early) × (k < length late) × (k < length mag)
  keep-rooms z =
      let r = keep-room z in
      let f = K.fits in
      (omega (arith, f.earlies, K.earlies), omega (arith, f.lates, K.lates), omega (arith, f.mags, K.mags))

  pub keep_it : is_zero (get_or m i nan) ≡ false → (x y : ℕ) (s : Float) → x ≡ min (get_or a i 0) (get_or b i 0) → y ≡ max (get_or a i 0) (get_or b i 0) → s ≡ get_or m i nan
      → Keeping a b m (i + 1) (k + 1) early₀ (set early k x) late₀ (set late k y) mag₀ (set mag k s)
  keep_it z x y s p q o =
      let e = kept_more a b m i z in
      let w = K.written in
      let es = kept_of a b m i in
      let n = kept_at a b m i in
      let r = keep-room z in
      let f = K.fits in
      let c = w.edges in
      let re : k < length early₀ = omega (arith, f.earlies) in
      let rl : k < length late₀ = omega (arith, f.lates) in
      let rm : k < length mag₀ = omega (arith, f.mags) in
      record {
        written = record {
          edges = rw e (omega (arith, length-append es (n ∷ [])));
          earlies = rw e (column-more (λ u. u.early) es n early early₀ x k w.earlies c re p);
          lates = rw e (column-more (λ u. u.late) es n late late₀ y k w.lates c rl q);
          mags = rw e (column-more (λ u. u.magnitude) es n mag mag₀ s k w.mags c rm o);
        };
        fits = f;
        within = omega arith;
        earlies = length-set early k x ∙ K.earlies;
        lates = length-set late k y ∙ K.lates;
        mags = length-set mag k s ∙ K.mags;
      }

pub keep_all : {a b : List ℕ} {m : List Float} {i k : ℕ} {early₀ early late₀ late : List ℕ} {mag₀ mag : List Float}
    → Keeping a b m i k early₀ early late₀ late mag₀ mag → length a ≤ i → Written a b m (length a) k early₀ early late₀ late mag₀ mag
keep_all {a} {b} {m} {i} K h =
    let w = K.within in
    let e : i ≡ length a = omega arith in
    rw e at K.written
