-- A list that a loop fills from the front by a rule.
use Rattle.std.specs.Prelude.{◌≡◌, List, ℕ, ◌+◌, ◌≤◌, ◌<◌, length, get_or, set}
use Rattle.std.proofs.Common.{◌∙◌, not-suc-le-zero, arith, length-set, get_or-set_same, get_or-set_other}
use Rattle.std.proofs.Math.Decide.{ℕ_discrete}
use Rattle.list_laws.specs.Tabulate.{tabulate}
use Rattle.list_laws.proofs.Laws.Tabulate.{tabulated}

-- of the list's entries, n in all, the first i are the rule's
pub record Filled {A : Type 0} (z : A) (rule : ℕ → A) (n i : ℕ) (l : List A) : Type 0 where
  pub len : length l ≡ n
  pub front : (j : ℕ) → j < i → get_or l j z ≡ rule j

module _ {A : Type 0} {z : A} {rule : ℕ → A} {n : ℕ} where
  pub filled_none : (l : List A) → length l ≡ n → Filled z rule n 0 l
  filled_none l e = record { len = e; front = λ j h. absurd (not-suc-le-zero h) }

  pub filled_more : {i : ℕ} {l : List A} {x : A} → Filled z rule n i l → i < n → x ≡ rule i → Filled z rule n (i + 1) (set l i x)
  filled_more {i} {l} {x} F h e = record { len = length-set l i x ∙ F.len; front = λ j k. go j k (ℕ_discrete j i) }
    where
      go : (j : ℕ) → j < i + 1 → Dec (j ≡ i) → get_or (set l i x) j z ≡ rule j
      go j k (yes q) = rw q (get_or-set_same l i x z (rw F.len h) ∙ e)
      go j k (no m) = get_or-set_other l i j x z m ∙ F.front j (omega arith)

  pub filled_all : {i : ℕ} {l : List A} → Filled z rule n i l → n ≤ i → l ≡ tabulate rule n
  filled_all {i} {l} F h = tabulated z l rule n F.len (λ j k. F.front j (omega arith))
