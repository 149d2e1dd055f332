-- The largest of what was filled in, read where it stands.
use Rattle.std.specs.Prelude.{◌≡◌, List, ℕ, ◌+◌, ◌≤◌, ◌<◌, length, get_or, Float}
use Rattle.std.proofs.Common.{sym, ap, ◌∙◌, arith}
use Rattle.std.specs.Float.{nan}
use Rattle.list_laws.specs.Part.{put}
use Rattle.list_laws.proofs.Laws.Part.{part-put, part_at}
use Rattle.list_laws.specs.Tabulate.{tabulate}
use Rattle.list_laws.proofs.Laws.Tabulate.{tabulate-length, tabulate-at, tabulate_ext}
use Rattle.transfer_matrix.specs.Rounded.{ieee}
use Rattle.transfer_matrix.specs.Sweep as S
use Rattle.step_tables.specs.Rule.{entries}
use Rattle.largest_entry.specs.Top.{top}

pub filled_top : (d v : List Float) (at : ℕ) (f : ℕ → Float) (n : ℕ) → at + n ≤ length d → v ≡ put d at (tabulate f n) → top f n ≡ top (entries v at) n
filled_top d v at f n fits e =
    let l = tabulate-length f n in
    let read : (i : ℕ) → i < n → f i ≡ entries v at i =
    λ i b.
    rw e
    (sym
    (sym (part_at (put d at (tabulate f n)) at (length (tabulate f n)) i nan (omega arith))
    ∙ ap (λ (x : List Float). get_or x i nan) (part-put d at (tabulate f n) (omega arith))
    ∙ tabulate-at f n i nan b)) in
    ap (S.largest ieee ieee.𝟘) (tabulate_ext f (entries v at) n read)
