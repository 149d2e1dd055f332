-- The places of the kept edges go by their magnitudes alone.
use Rattle.std.specs.Prelude.{◌≡◌, refl, Bool, true, false, cond, List, [], ◌∷◌, ◌++◌, ℕ, zero, suc, Float, length, get_or}
use Rattle.std.proofs.lemmas.List.{map-append, length-map}
use Rattle.std.specs.Float.{nan}
use Rattle.refusals.specs.Edges.{Kept, kept_at, kept_of, is_zero, places}
use Rattle.kept_edges.specs.Keep.{places_of}

pub places-alone : (a b : List ℕ) (m : List Float) (i : ℕ) → places_of m i ≡ places (kept_of a b m i)
unfolding kept_of
places-alone a b m zero = refl
places-alone a b m (suc i) = go (places-alone a b m i) (is_zero (get_or m i nan))
  where
    more : (u v : List Kept) (e f : Kept) → places u ≡ places v → e.place ≡ f.place → places (u ++ (e ∷ [])) ≡ places (v ++ (f ∷ []))
    more u v e f p q = rw (map-append (λ k. k.place) u (e ∷ []), map-append (λ k. k.place) v (f ∷ []), p, q)

    go : places_of m i ≡ places (kept_of a b m i) → (z : Bool)
        → places (cond z (kept_of [] [] m i) (kept_of [] [] m i ++ (kept_at [] [] m i ∷ [])))
        ≡ places (cond z (kept_of a b m i) (kept_of a b m i ++ (kept_at a b m i ∷ [])))
    go p true = p
    go p false = more (kept_of [] [] m i) (kept_of a b m i) (kept_at [] [] m i) (kept_at a b m i) p refl

-- there are as many as kept edges
pub places-length : (a b : List ℕ) (m : List Float) (i : ℕ) → length (places_of m i) ≡ length (kept_of a b m i)
places-length a b m i = rw (places-alone a b m i) (length-map (kept_of a b m i) (λ e. e.place))
