-- The ends of the first pairs of a list, as they grow by one pair after another.
use mathlib.Core.Path.{◌≡◌, refl, sym, ap, subst, ◌∙◌}
use mathlib.Core.List.{List, ◌∷◌, ◌++◌, map}
use Prim.Native.Nat.{ℕ, suc, ◌-◌, ◌≤◌, ◌<◌}
use native.Mathlib.Numerals.{add-one}
use native.Mathlib.Omega.{arith}
use lib.ListN.{length, get_or, take, set, replicate, length-map, get_or-map}
use lib.Seq.{take-suc, set_at, append_snoc, length-take-le}
use Rattle.c_pair_records.specs.declared.Pair.{Pair}
use Rattle.c_pair_records.specs.declared.Ends.{Ends}
use Rattle.c_pair_records.specs.Columns.{firsts, seconds, most_copied, padded, ends_of, pushed}

-- what a list of pairs has past its end, for `get_or`
abbrev pub none : Pair
none = record { u = 0; v = 0 }

zeros_less : (i : ℕ) → i < most_copied → replicate {A = ℕ} (most_copied - i) 0 ≡ 0 ∷ replicate (most_copied - suc i) 0
zeros_less i h = ap (λ (k : ℕ). replicate k 0) (one_less i h)
  where
    one_less : (i : ℕ) → i < most_copied → most_copied - i ≡ suc (most_copied - suc i)
    one_less i h = omega arith

-- the store of the next end
padded-more : (ends : List ℕ) (i : ℕ) → i < length ends → i < most_copied → set (padded ends i) i (get_or ends i 0) ≡ padded ends (suc i)
padded-more ends i h k =
    ap (λ (l : List ℕ). set (take i ends ++ l) i (get_or ends i 0)) (zeros_less i k)
    ∙ set_at (take i ends) 0 (replicate (most_copied - suc i) 0) (get_or ends i 0) i (length-take-le i ends (before i (length ends) h))
    ∙ sym (append_snoc (take i ends) (get_or ends i 0) (replicate (most_copied - suc i) 0))
    ∙ ap (λ (l : List ℕ). l ++ replicate (most_copied - suc i) 0) (sym (take-suc ends i 0 h))
  where
    before : (i n : ℕ) → i < n → i ≤ n
    before i n l = omega arith

-- of one end of the pairs
column-more : (end : Pair → ℕ) (pairs : List Pair) (i : ℕ) → end none ≡ 0 → i < length pairs → i < most_copied
    → set (padded (map end pairs) i) i (end (get_or pairs i none)) ≡ padded (map end pairs) (suc i)
column-more end pairs i z h k =
    ap (λ (x : ℕ). set (padded (map end pairs) i) i x) (sym (get_or-map end pairs i none) ∙ ap (λ (d : ℕ). get_or (map end pairs) i d) z)
    ∙ padded-more (map end pairs) i (subst (λ (n : ℕ). i < n) (sym (length-map pairs end)) h) k

pub pair-more : (pairs : List Pair) (i : ℕ) (e e' : Ends) → i < length pairs → i < most_copied → e ≡ ends_of pairs i
    → e' ≡ pushed e (get_or pairs i none).u (get_or pairs i none).v → e' ≡ ends_of pairs (suc i)
pair-more pairs i e e' h k held more =
    more
    ∙ ap (λ (x : Ends). pushed x (get_or pairs i none).u (get_or pairs i none).v) held
    ∙ ap (λ (n : ℕ). ends n (set (padded (firsts pairs) i) i (get_or pairs i none).u) (set (padded (seconds pairs) i) i (get_or pairs i none).v)) (add-one i)
    ∙ ap (λ (l : List ℕ). ends (suc i) l (set (padded (seconds pairs) i) i (get_or pairs i none).v)) (column-more (λ (p : Pair). p.u) pairs i refl h k)
    ∙ ap (λ (l : List ℕ). ends (suc i) (padded (firsts pairs) (suc i)) l) (column-more (λ (p : Pair). p.v) pairs i refl h k)
  where
    ends : ℕ → List ℕ → List ℕ → Ends
    ends n us vs = record { count = n; us = us; vs = vs }
