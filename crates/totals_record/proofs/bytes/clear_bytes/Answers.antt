use mathlib.Core.Path.{◌∙◌}
use lib.ListN.{length, replicate}
use Rattle.std.proofs.lemmas.List.{length-replicate, get_or-replicate}
use Rattle.list_laws.proofs.Laws.Tabulate.{tabulated}
use Rattle.totals_record.proofs.bytes.clear_bytes.Goals as goal

pub returns : goal.returns
returns c =
    let n = length c.args.bytes.now in
    c.fill.ensures.after (λ y e. e) ∙ tabulated 0 (replicate n 0) (λ _. 0) n (length-replicate n 0) (λ i b. get_or-replicate n i 0 0 b)
