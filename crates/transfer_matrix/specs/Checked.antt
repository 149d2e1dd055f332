-- What a job that passes the checks is known to be: the theorems assume this of it and nothing else.
use Rattle.std.specs.Prelude.{◌≡◌, List, [], ◌∷◌, ℕ, ◌+◌, ◌≤◌, ◌<◌}
use Rattle.transfer_matrix.specs.Job.{Edge, Job}

-- A fact of every element of a list.
abbrev pub All : {A : Type 0} → (A → Type 0) → List A → Type 0
All P [] = Unit
All P (x ∷ xs) = P x × All P xs

-- A kept edge has its smaller end first and both inside the graph, is no longer than the window, and has a factor that passed (P).
pub record Kept {K : Type 0} (P : K → Type 0) (J : Job K) (e : Edge K) : Type 0 where
  pub ordered : e.early < e.late
  pub inside : e.late ≤ J.last
  pub reached : e.late ≤ e.early + J.window
  pub passed : P e.factor

abbrev pub SameEnds : {K : Type 0} → Edge K → Edge K → Type 0
SameEnds e f = (e.early ≡ f.early) × (e.late ≡ f.late)

-- No two of the edges join the same vertices.
abbrev pub Apart : {K : Type 0} → List (Edge K) → Type 0
Apart [] = Unit
Apart (e ∷ es) = All (λ f. SameEnds e f → ⊥) es × Apart es

pub record Checked {K : Type 0} (P : K → Type 0) (J : Job K) : Type 0 where
  pub window : 1 ≤ J.window
  pub edges : All (Kept P J) J.edges
  pub apart : Apart J.edges
