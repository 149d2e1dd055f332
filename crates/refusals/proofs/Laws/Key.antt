-- Laws of what specs/Key defines.
use Rattle.std.specs.Prelude.{◌≡◌, refl, true, List, [], ◌∷◌}
use Rattle.std.proofs.Common.{eqb-true}
use Rattle.refusals.specs.Key.{Key, rank, same, among}

-- of two equal keys both are among these, or neither
pub among_same : (js : List Key) (j k : Key) → same j k ≡ true → among js j ≡ among js k
among_same [] j k e = refl
among_same (i ∷ js) j k e =
    let r : rank j ≡ rank k = eqb-true (rank j) (rank k) e in
    rw (r, among_same js j k e)
