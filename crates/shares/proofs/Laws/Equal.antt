-- Lists of one length, end to end, whose entries are all good.
use Rattle.std.specs.Prelude.{◌≡◌, false, List, Float, length, get_or, replicate}
use Prim.Native.Nat.{ℕ, zero, suc, ◌*◌, ◌≤◌, ◌<◌}
use native.Mathlib.Omega.{arith}
use Rattle.std.proofs.lemmas.List.{length-replicate}
use Rattle.std.proofs.Math.ListN.{get_or-replicate}
use Rattle.std.proofs.Common.{eq-eqb, ne_eqb, le-ltb}
use Rattle.list_laws.proofs.Laws.Search.{none_of}
use Rattle.shares.specs.Shares.{at, most_lists, most_entries, bad_entry, bad_length, bad_lists, start_of, refuses}

module _ (lists entries : ℕ) where
  starts : (k : ℕ) → k ≤ lists → start_of (replicate lists entries) k ≡ k * entries
  unfolding start_of
  starts zero h = omega arith
  starts (suc k) h = rw (starts k (omega arith), get_or-replicate lists k entries 0 h) (omega arith)

  good_lists : 0 < lists → lists ≤ most_lists → 0 < entries → entries ≤ most_entries → bad_lists (replicate lists entries) (lists * entries) ≡ false
  good_lists l m e f =
      let n = length-replicate lists entries in
      let fits : (k : ℕ) → k < lists → bad_length (get_or (replicate lists entries) k 0) ≡ false =
      λ k h. rw (get_or-replicate lists k entries 0 h, ne_eqb entries 0 (λ z. omega arith), le-ltb most_entries entries f) in
      rw (n, ne_eqb lists 0 (λ z. omega arith), le-ltb most_lists lists m, none_of _ lists fits, eq-eqb _ (lists * entries) (starts lists (omega arith)))

  pub equal_lists : (stored : List Float) → 0 < lists → lists ≤ most_lists → 0 < entries → entries ≤ most_entries → length stored ≡ lists * entries
      → ((i : ℕ) → i < lists * entries → bad_entry (at stored i) ≡ false) → refuses stored (replicate lists entries) ≡ false
  equal_lists stored l m e f n g = rw (n, good_lists l m e f, none_of _ (lists * entries) g)
