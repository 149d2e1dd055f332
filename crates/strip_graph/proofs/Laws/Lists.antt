-- The fronts of lists, and what is kept of them.
use Rattle.std.specs.Prelude.{◌≡◌, List, ℕ, Float, length, take, drop}
use Rattle.std.proofs.Common.{sym, ◌∙◌, take_at}
use Rattle.list_laws.specs.Front.{over}
use Rattle.refusals.specs.Edges.{kept}

-- the front of a buffer is what was written there
pub front : {A : Type 0} (new old l : List A) (k n : ℕ) → length new ≡ n → k ≡ n → l ≡ over new old → take k l ≡ new
front new old l k n p q e = rw e (take_at new (drop (length new) old) k (p ∙ sym q))

-- the kept edges of equal lists
pub same_kept : {a a' b b' : List ℕ} {m m' : List Float} → a ≡ a' → b ≡ b' → m ≡ m' → kept a b m ≡ kept a' b' m'
same_kept p q r = rw (p, q, r)
