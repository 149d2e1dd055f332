-- Laws of what specs/Powers defines.
use Rattle.std.specs.Prelude.{◌≡◌, List, ℕ, ◌+◌, ◌*◌, ◌/◌, ◌%◌, ◌<◌, Float, length}
use Rattle.std.proofs.Common.{ap, ◌∙◌, add-zero, mod-eq_of_lt, arith}
use Rattle.std.proofs.Math.Nat.{mul-add-div_right, mul-add-mod_self_right, div-eq_of_lt}
use Rattle.list_laws.specs.Search.{some}
use Rattle.transfer_matrix.specs.Job.{Job}
use Rattle.totals_configuration.specs.Powers.{pair_at, correlation_at}

-- It is that of pair p of beta b.
pub pair-numbered : (J : ℕ → Job Float) (us vs : List ℕ) (b p : ℕ) → p < length us → pair_at (J b) us vs p ≡ correlation_at J us vs (b * length us + p)
pair-numbered J us vs b p l =
    let some : 0 < length us = omega arith in
    let d : (b * length us + p) / length us ≡ b = mul-add-div_right some b p ∙ ap (λ (k : ℕ). b + k) (div-eq_of_lt l) ∙ add-zero b in
    let m : (b * length us + p) % length us ≡ p = mul-add-mod_self_right b (length us) p ∙ mod-eq_of_lt l in
    rw (d, m)
