-- What is counted list by list is counted in all that is lent.
use Rattle.std.specs.Prelude.{◌≡◌, Bool, List, Float, length, get_or}
use Rattle.std.proofs.Math.Path.{refl}
use Rattle.std.proofs.Common.{sym, ap, ◌∙◌, arith}
use Prim.Native.Nat.{ℕ, zero, suc, ◌+◌, ◌≤◌}
use Rattle.std.specs.Float.{nan}
use Rattle.list_laws.specs.Count.{count}
use Rattle.list_laws.specs.Part.{part}
use Rattle.list_laws.proofs.Laws.Count.{count_ext}
use Rattle.list_laws.proofs.Laws.Part.{part_length, part_at}
use Rattle.shares.specs.Lists.{counted_in}
use Rattle.shares.specs.Shares.{at, start_of, counted}
use Rattle.shares.proofs.Laws.Counting.{count_run}

module _ (test : Float → Bool) (stored : List Float) (lengths : List ℕ) where
  -- in a list as where it lies
  in_list : (start n : ℕ) → start + n ≤ length stored → counted test (part stored start n) ≡ count (λ i. test (at stored (start + i))) n
  in_list start n h =
      ap (count _) (part_length stored start n h)
      ∙ count_ext _ _ n (λ i l. ap test (part_at stored start n i nan l))

  pub in_lists : (n : ℕ) → start_of lengths n ≤ length stored → counted_in test stored lengths n ≡ count (λ i. test (at stored i)) (start_of lengths n)
  unfolding counted_in start_of count
  in_lists zero h = refl
  in_lists (suc n) h =
      rw (in_lists n (omega arith), in_list (start_of lengths n) (get_or lengths n 0) h)
      (sym (count_run (λ i. test (at stored i)) (start_of lengths n) (get_or lengths n 0)))
