-- The kept edges remember their raw places, and so does what is made of each.
use Rattle.std.specs.Prelude.{◌≡◌, refl, Bool, true, false, cond, List, [], ◌∷◌, ◌++◌, map, ℕ, zero, suc, ◌<◌, Float, length, get_or}
use Rattle.std.proofs.Common.{sym, ap, ◌∙◌, subst, true≢false, arith, length-append}
use Rattle.std.proofs.Math.Logic.{dite}
use Rattle.std.proofs.Math.Decide.{dec_lt}
use Rattle.std.specs.Float.{nan}
use Rattle.std.proofs.lemmas.List.{length-map, get_or_at}
use Rattle.std.proofs.Math.ListN.{get_or-append}
use Rattle.refusals.specs.Edges.{Kept, kept_at, kept_of, is_zero}
use Rattle.refusals.specs.Places.{edge_of, Remembers}

-- an entry of a column is the edge's
pub column-at : {A : Type 0} (f : Kept → A) (es : List Kept) (i : ℕ) (z : A) → i < length es → get_or (map f es) i z ≡ f (edge_of es i)
column-at f [] i z h = absurd (omega arith)
column-at f (e ∷ es) zero z h = refl
column-at f (e ∷ es) (suc i) z h = column-at f es i z (omega arith)

module _ {raw : ℕ → Kept} {n : ℕ} {es : List Kept} (R : Remembers raw n es) where
  -- one raw edge more, which is dropped
  more-dropped : is_zero (raw n).magnitude ≡ true → Remembers raw (suc n) es
  more-dropped z =
      record {
        rising = R.rising;
        inside = λ i h. let b = R.inside i h in omega arith;
        edge = R.edge;
        not_zero = R.not_zero;
        whole = λ p h k. R.whole p (earlier p h k (dec_lt p n)) k;
      }
    where
      earlier : (p : ℕ) → p < suc n → is_zero (raw p).magnitude ≡ false → Dec (p < n) → p < n
      earlier p h k (yes l) = l
      earlier p h k (no l) = let e : n ≡ p = omega arith in absurd (true≢false (sym (rw e at z) ∙ k))

  -- or kept: an edge before it is as it was, and the last is the new one
  module _ (z : is_zero (raw n).magnitude ≡ false) (here : (raw n).place ≡ n) where
    abbrev longer : List Kept
    longer = es ++ (raw n ∷ [])

    before : (i : ℕ) → i < length es → edge_of longer i ≡ edge_of es i
    before i h = get_or-append es (raw n ∷ []) _ i h

    last : (i : ℕ) → length es ≡ i → edge_of longer i ≡ raw n
    last i e = get_or_at es (raw n) [] _ i e

    -- what holds of both holds of each
    each : (P : Kept → Type 0) → ((i : ℕ) → i < length es → P (edge_of es i)) → P (raw n) → (i : ℕ) → i < length longer → P (edge_of longer i)
    each P f g i h =
        dite (dec_lt i (length es))
        (λ l. subst P (sym (before i l)) (f i l))
        (λ l. subst P (sym (last i (omega (arith, length-append es (raw n ∷ []))))) g)

    rises : (i j : ℕ) → i < j → j < length longer → (edge_of longer i).place < (edge_of longer j).place
    rises i j l h =
        let k : i < length es = omega (arith, length-append es (raw n ∷ [])) in
        let q : (edge_of longer i).place ≡ (edge_of es i).place = ap (λ e. e.place) (before i k) in
        let b = R.inside i k in
        dite (dec_lt j (length es))
        (λ m. let r = R.rising i j l m in omega (arith, ap (λ e. e.place) (before j m)))
        (λ m. omega (arith, ap (λ e. e.place) (last j (omega (arith, length-append es (raw n ∷ []))))))

    found : (p : ℕ) → p < suc n → is_zero (raw p).magnitude ≡ false → (i : ℕ) × (i < length longer) × ((edge_of longer i).place ≡ p)
    found p h k =
        dite (dec_lt p n)
        (λ l.
        let w = R.whole p l k in
        (w.0, omega (arith, w.1, length-append es (raw n ∷ [])), ap (λ e. e.place) (before w.0 w.1) ∙ w.2))
        (λ l. (length es, omega (arith, length-append es (raw n ∷ [])), omega (arith, ap (λ e. e.place) (last (length es) refl))))

    more-kept : Remembers raw (suc n) longer
    more-kept =
        record {
          rising = rises;
          inside = each (λ e. e.place < suc n) (λ i h. let b = R.inside i h in omega arith) (omega arith);
          edge = each (λ e. e ≡ raw e.place) R.edge (ap raw (sym here));
          not_zero = each (λ e. is_zero e.magnitude ≡ false) R.not_zero z;
          whole = found;
        }

-- the kept ones of the first n raw edges
pub kept_remember : (a b : List ℕ) (m : List Float) (n : ℕ) → Remembers (kept_at a b m) n (kept_of a b m n)
unfolding kept_of
kept_remember a b m zero =
    record {
      rising = λ i j l h. absurd (omega arith);
      inside = λ i h. absurd (omega arith);
      edge = λ i h. absurd (omega arith);
      not_zero = λ i h. absurd (omega arith);
      whole = λ p h k. absurd (omega arith);
    }
kept_remember a b m (suc n) = go (kept_remember a b m n) (is_zero (get_or m n nan)) refl
  where
    go : Remembers (kept_at a b m) n (kept_of a b m n) → (z : Bool) → is_zero (get_or m n nan) ≡ z
        → Remembers (kept_at a b m) (suc n) (cond z (kept_of a b m n) (kept_of a b m n ++ (kept_at a b m n ∷ [])))
    go R true z = more-dropped R z
    go R false z = more-kept R z refl

-- edges changed one by one, whose magnitudes and places stay
pub changed_remember : (f : Kept → Kept) → ((e : Kept) → (f e).place ≡ e.place) → ((e : Kept) → (f e).magnitude ≡ e.magnitude)
    → {raw : ℕ → Kept} {n : ℕ} {es : List Kept} → Remembers raw n es → Remembers (λ p. f (raw p)) n (map f es)
changed_remember f p q {raw} {n} {es} R =
    record {
      rising = λ i j l h. let k : j < length es = fewer j h in rw (place i (omega arith), place j k) (R.rising i j l k);
      inside = λ i h. rw (place i (fewer i h)) (R.inside i (fewer i h));
      edge = λ i h. let k = fewer i h in rw (place i k) (at i k ∙ ap f (R.edge i k));
      not_zero = λ i h. let k = fewer i h in rw (at i k, q (edge_of es i)) (R.not_zero i k);
      whole = λ u h k.
          let w = R.whole u h (rw (q (raw u)) at k) in
          (w.0, omega (arith, w.1, length-map es f), place w.0 w.1 ∙ w.2);
    }
  where
    fewer : (i : ℕ) → i < length (map f es) → i < length es
    fewer i h = omega (arith, length-map es f)

    at : (i : ℕ) → i < length es → edge_of (map f es) i ≡ f (edge_of es i)
    at i h = column-at f es i _ h

    place : (i : ℕ) → i < length es → (edge_of (map f es) i).place ≡ (edge_of es i).place
    place i h = ap (λ e. e.place) (at i h) ∙ p (edge_of es i)

-- raw edges told by another rule that agrees
pub agreeing_remember : {raw raw' : ℕ → Kept} {n : ℕ} {es : List Kept} → ((p : ℕ) → p < n → raw p ≡ raw' p) → Remembers raw n es → Remembers raw' n es
agreeing_remember q R =
    record {
      rising = R.rising;
      inside = R.inside;
      edge = λ i h. R.edge i h ∙ q _ (R.inside i h);
      not_zero = R.not_zero;
      whole = λ p h k. R.whole p h (rw (q p h) k);
    }
