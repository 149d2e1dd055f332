-- The ends that are held are those of the first 257 pairs.
use Rattle.std.specs.Prelude.{◌≡◌, List, ℕ, ◌-◌, ◌≤◌, min, length, take, replicate}
use Rattle.std.proofs.Common.{sym, ap, subst, ◌∙◌, le_of_eq, length-take, take_at, take-take, take_all, length-take-le}
use Rattle.std.proofs.Math.Nat.{min-le_left, min-le_right, min_comm}
use Rattle.std.proofs.lemmas.List.{length-map}
use Rattle.c_pair_records.specs.declared.Pair.{Pair}
use Rattle.c_pair_records.specs.declared.Ends.{Ends}
use Rattle.c_pair_records.specs.Columns.{firsts, seconds, most_copied, padded, gathered, first_ends, second_ends}

-- of a list, no more than it has is taken
take_min : (l : List ℕ) (n k : ℕ) → length l ≡ n → take (min n k) l ≡ take k l
take_min l n k e =
    sym (take-take (min n k) k l (min-le_right n k))
    ∙ take_all (min n k) (take k l) (le_of_eq (length-take k l ∙ ap (min k) e ∙ min_comm k n))

held : (ends : List ℕ) (n : ℕ) → length ends ≡ n → take (min n most_copied) (padded ends (min n most_copied)) ≡ take most_copied ends
held ends n e =
    let k = min n most_copied in
    take_at (take k ends) (replicate (most_copied - k) 0) k (length-take-le k ends (subst (λ (j : ℕ). k ≤ j) (sym e) (min-le_left n most_copied)))
    ∙ take_min ends n most_copied e

module _ (pairs : List Pair) (e : Ends) (g : e ≡ gathered pairs) where
  pub few-held : e.count ≤ most_copied
  few-held = subst (λ (x : Ends). x.count ≤ most_copied) (sym g) (min-le_right (length pairs) most_copied)

  pub first-ends-held : first_ends e ≡ take most_copied (firsts pairs)
  first-ends-held = ap first_ends g ∙ held (firsts pairs) (length pairs) (length-map pairs (λ (p : Pair). p.u))

  pub second-ends-held : second_ends e ≡ take most_copied (seconds pairs)
  second-ends-held = ap second_ends g ∙ held (seconds pairs) (length pairs) (length-map pairs (λ (p : Pair). p.v))
