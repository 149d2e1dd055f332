-- From what is proved of a stored correlation to an entry that belongs.
use Rattle.std.specs.Prelude.{◌≡◌, refl, Bool, true, false, not, ◌&&◌, List, ℕ, T, Float, length}
use Rattle.std.proofs.Common.{ap, ◌∙◌, eq-eqb}
use Rattle.std.specs.Float.Ieee.{neg, le, of_bits}
use Rattle.list_laws.specs.Tabulate.{tabulate}
use Rattle.list_laws.proofs.Laws.Tabulate.{tabulate-length}
use Rattle.entry_correlations.specs.Correlations.{settled}
use Rattle.demands.specs.OneJob.{InUnit}
use Rattle.shares.specs.Shares.{+1·0, bad_entry}

both_hold : (p q : Bool) → T p → T q → not (p && q) ≡ false
both_hold true true s t = refl
both_hold false q s t = elim s [ ]
both_hold true false s t = elim t [ ]

-- what lies in [-1, 1] is no bad entry
pub good_entry : (x : Float) → InUnit x → bad_entry x ≡ false
unfolding of_bits
good_entry x u = both_hold (le (neg +1·0) x) (le x +1·0) u.above u.below

-- an accepted call leaves as many correlations as its rule has
pub settled-length : (refused : ℕ) (f : ℕ → Float) (size : ℕ) (old new : List Float) → refused ≡ 0 → new ≡ settled refused (tabulate f size) old
    → length new ≡ size
unfolding settled
settled-length refused f size old new e is =
    let kept : settled refused (tabulate f size) old ≡ tabulate f size = rw (eq-eqb refused 0 e) in
    ap length (is ∙ kept) ∙ tabulate-length f size
