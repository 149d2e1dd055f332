-- A list that a loop fills from the front by a rule.
use Rattle.std.specs.Prelude.{◌≡◌, List, [], ◌∷◌, ◌++◌, ℕ, ◌+◌, ◌≤◌, ◌<◌, length, set}
use Rattle.std.proofs.Math.Path.{refl}
use Rattle.std.proofs.Common.{sym, ap, ◌∙◌, append-nil, add-one, arith, drop_of_length-le}
use Rattle.list_laws.specs.Front.{over}
use Rattle.list_laws.proofs.Laws.Front.{over-more, over-length}
use Rattle.list_laws.specs.Tabulate.{tabulate}
use Rattle.list_laws.proofs.Laws.Tabulate.{tabulate_suc, tabulate-length}

module _ {A : Type 0} (rule : ℕ → A) where
  pub loaded_none : (l : List A) → l ≡ over (tabulate rule 0) l
  unfolding tabulate
  loaded_none l = refl

  pub loaded_more : (l₀ l : List A) (i : ℕ) (x : A) → i < length l₀ → l ≡ over (tabulate rule i) l₀ → x ≡ rule i → set l i x ≡ over (tabulate rule (i + 1)) l₀
  loaded_more l₀ l i x h e q =
      ap (λ (m : List A). set m i x) e
      ∙ over-more (tabulate rule i) l₀ i x (sym (tabulate-length rule i)) h
      ∙ ap (λ (m : List A). over m l₀) (ap (λ (y : A). tabulate rule i ++ (y ∷ [])) q ∙ sym (tabulate_suc rule i) ∙ ap (tabulate rule) (sym (add-one i)))

  pub loaded_length : (l₀ l : List A) (i : ℕ) → i ≤ length l₀ → l ≡ over (tabulate rule i) l₀ → length l ≡ length l₀
  loaded_length l₀ l i h e = ap length e ∙ over-length (tabulate rule i) l₀ (omega (arith, tabulate-length rule i))

  pub loaded_all : (l₀ l : List A) (i : ℕ) → i ≡ length l₀ → l ≡ over (tabulate rule i) l₀ → l ≡ tabulate rule (length l₀)
  loaded_all l₀ l i n e =
      e ∙ ap (λ (m : List A). tabulate rule i ++ m) (drop_of_length-le l₀ {i = length (tabulate rule i)} (omega (arith, tabulate-length rule i))) ∙ append-nil (tabulate rule i) ∙ ap (tabulate rule) n
