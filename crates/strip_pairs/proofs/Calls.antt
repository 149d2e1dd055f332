-- What refuses a call for the pair set, from what the checks' functions answered.
use mathlib.Core.Path.{◌≡◌, refl}
use mathlib.Core.Bool.{Bool, true, false, ◌||◌}
use mathlib.Core.List.{List}
use Prim.Native.Nat.{ℕ, ◌*◌}
use native.Mathlib.Omega.{arith}
use lib.Dec.{eqb, ltb}
use lib.ListN.{length}
use borrow.Author.Tests.{ltb-false}
use Rattle.refusals.proofs.Laws.First.{here, past, told}
use Rattle.list_laws.proofs.Laws.Search.{or-false}
use Rattle.strip_pairs.specs.PairSet.{pair_set, label_bytes, pairs_refusal}
use Rattle.strip_pairs.specs.PairListing.{PairRoom}
use Rattle.strip.specs.declared.strip.Strip.{Strip}

pairs_short : Strip → List ℕ → List ℕ → List ℕ → Bool
pairs_short s us vs labels = ltb (length us) (length (pair_set s)) || ltb (length vs) (length (pair_set s)) || ltb (length labels) (length (label_bytes (pair_set s)))

module _ (s : Strip) (us vs labels : List ℕ) {sides : Bool} (p : sides ≡ (eqb s.w 0 || eqb s.l 0 || ltb 1024 (s.w * s.l))) where
  pub pairs-15 : sides ≡ true → 15 ≡ pairs_refusal s us vs labels
  unfolding pairs_refusal
  pairs-15 t = here _ _ _ (told p t)

  module _ (p' : sides ≡ false) {pairs bytes : ℕ} (n : pairs ≡ length (pair_set s)) (m : bytes ≡ length (label_bytes (pair_set s))) {short : Bool}
      (r : short ≡ (ltb (length us) pairs || ltb (length vs) pairs || ltb (length labels) bytes)) where
    pairs-short-is : short ≡ pairs_short s us vs labels
    unfolding pairs_short
    pairs-short-is = rw (← n, ← m) r

    pub pairs-12 : short ≡ true → 12 ≡ pairs_refusal s us vs labels
    unfolding pairs_refusal pairs_short
    pairs-12 t = past _ _ _ _ (told p p') (here _ _ _ (told pairs-short-is t))

    pub pairs-0 : short ≡ false → 0 ≡ pairs_refusal s us vs labels
    unfolding pairs_refusal pairs_short
    pairs-0 t = past _ _ _ _ (told p p') (past _ _ _ _ (told pairs-short-is t) refl)

    pub pairs-room : short ≡ false → PairRoom (pair_set s) (record { pairs = 0; bytes = 0 }) us vs labels
    pairs-room t =
        let q = or-false (ltb (length us) pairs || ltb (length vs) pairs) (ltb (length labels) bytes) (told r t) in
        let o = or-false (ltb (length us) pairs) (ltb (length vs) pairs) q.0 in
        let a = ltb-false (length us) pairs o.0 in
        let b = ltb-false (length vs) pairs o.1 in
        let c = ltb-false (length labels) bytes q.1 in
        record { firsts = omega arith; seconds = omega arith; bytes = omega arith }
