-- The ends that are held are the fronts of their lists.
use mathlib.Core.Path.{◌≡◌, sym, ap}
use mathlib.Core.List.{List}
use Prim.Native.Nat.{ℕ, ◌≤◌}
use native.Mathlib.Omega.{arith}
use lib.ListN.{length, take}
use lib.Seq.{length-take-le}
use borrow.Author.Rules.{rules}
use Rattle.c_pair_records.specs.Columns.{most_copied}
use Rattle.c_values.specs.declared.options.Options.{Options}
use Rattle.c_correlations.proofs.correlations_between.Goals as goal

front_fits : (l : List ℕ) (k : ℕ) → length l ≡ most_copied → k ≤ most_copied → k ≤ length l
front_fits l k e h = omega arith

front_length : (l : List ℕ) (k : ℕ) → length l ≡ most_copied → k ≤ most_copied → k ≡ length (take k l)
front_length l k e h = sym (length-take-le k l (front_fits l k e h))

pub slice_bounds-us-end : goal.slice_bounds-us-end
slice_bounds-us-end c = search (rules, front_fits)

pub slice_bounds-correlations-end : goal.slice_bounds-correlations-end
slice_bounds-correlations-end c = search (rules, front_length)

pub slice_bounds-vs-end : goal.slice_bounds-vs-end
slice_bounds-vs-end c = search (rules, front_fits)

pub slice_bounds-correlations-end-2 : goal.slice_bounds-correlations-end-2
slice_bounds-correlations-end-2 c = search (rules, front_length)

pub returns : goal.returns
returns c =
    let asked = c.options_numbered-asked.ensures in
    rw (← (ap (λ (o : Options). o.manner) asked), ← (ap (λ (o : Options). o.arrangement) asked), ← (ap (λ (o : Options). o.caller) asked)) c.correlations.ensures
