-- The answer by its cases, in the order of the tests.
use Rattle.std.specs.Prelude.{◌≡◌, true, false, List, ℕ, ◌+◌, ◌-◌, Float}
use Rattle.std.proofs.Common.{arith}
use Rattle.std.proofs.Math.ListN.{length}
use Rattle.std.specs.declared.result.Result.TheVariants.{Ok, Err}
use Rattle.list_laws.specs.Search.{some}
use Rattle.list_laws.proofs.Laws.Search.{none-at}
use Rattle.refusals.specs.declared.Refusal.TheVariants as R
use Rattle.shares.specs.declared.answer.Shares.{Shares}
use Rattle.shares.specs.Shares.{at, is_above, is_zero, is_below, is_half, bad_entry, bad_lists, counted, fractions, shares_of}
use Rattle.shares.proofs.Laws.Counting.{count-three, count_none, count-some}
use Rattle.shares.proofs.Laws.Kinds.{one-kind}

-- of good entries: those above zero, zero and below it are all
pub all_kinds : (stored : List Float) → some (λ i. bad_entry (at stored i)) (length stored) ≡ false
    → counted is_above stored + counted is_zero stored + counted is_below stored ≡ length stored
all_kinds stored h = count-three _ _ _ (length stored) (λ i l. one-kind (at stored i) (none-at _ (length stored) i l h))

pub none-bad : (stored : List Float) → counted bad_entry stored ≡ 0
    → counted is_above stored + counted is_zero stored + counted is_below stored ≡ length stored
none-bad stored e = all_kinds stored (count_none _ (length stored) e)

module _ (stored : List Float) (lengths : List ℕ) where
  pub refused-lists : bad_lists lengths (length stored) ≡ true → Err R.Shares ≡ shares_of stored lengths
  unfolding shares_of
  refused-lists h = rw h

  module _ (h : bad_lists lengths (length stored) ≡ false) where
    pub refused-entry : (counted bad_entry stored ≡ 0 → ⊥) → Err R.Shares ≡ shares_of stored lengths
    unfolding shares_of
    refused-entry e = rw (h, count-some _ (length stored) e)

    pub accepted : counted bad_entry stored ≡ 0 → (s : Shares)
        → s ≡ fractions (counted is_above stored) (length stored - counted is_above stored - counted is_below stored) (counted is_below stored) (counted is_half stored) (length stored)
        → Ok s ≡ shares_of stored lengths
    unfolding shares_of
    accepted e s f =
        let good = count_none (λ i. bad_entry (at stored i)) (length stored) e in
        let zeros : length stored - counted is_above stored - counted is_below stored ≡ counted is_zero stored = omega (arith, none-bad stored e) in
        rw (h, good, f, zeros)
