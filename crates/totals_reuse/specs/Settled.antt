-- What stays of a configuration's factors when the next one comes.
use Rattle.std.specs.Prelude.{◌≡◌, false, List, ℕ, ◌≤◌, ◌<◌, get_or}
use Rattle.edge_bits.specs.Having.{has_bit}
use Rattle.plan_steps.specs.Layout.{Holds, near_count}
use Rattle.sweep_places.specs.Reuse.{Reads}

-- No edge past `last` changed its sign, and none without a bit did: edge e is one of them.
abbrev pub Settled : List ℕ → ℕ → ℕ → Type 0
Settled bits last e = e ≤ last → has_bit (get_or bits e 0) ≡ false

-- What the plan says of the edges of n vertices can be read, and is of m edges.
pub record EdgesIn (plan : List ℕ) (m n : ℕ) : Type 0 where
  pub holds : Holds plan n
  pub few : (t : ℕ) → t < n → near_count plan t ≤ 4
  pub reads : (t : ℕ) → t < n → Reads plan t (λ e. e < m)

-- The edges of the steps above vertex c kept their signs.
abbrev pub SettledAbove : (plan bits : List ℕ) (last n c : ℕ) → Type 0
SettledAbove plan bits last n c = (t : ℕ) → c < t → t < n → Reads plan t (Settled bits last)

-- Before configuration j of a run: where j is the first, no vertex lies at c or past it.
pub record StandingFrom (plan bits : List ℕ) (last n j c : ℕ) : Type 0 where
  pub first : j ≡ 0 → n ≤ c
  pub then : 0 < j → SettledAbove plan bits last n c
