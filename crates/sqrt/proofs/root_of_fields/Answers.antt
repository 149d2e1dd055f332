-- The pattern is that of the root: Answer.
use native.Mathlib.Omega.{arith}
use Rattle.sqrt.proofs.Answer.{Answer, answer, no_nan}
use Rattle.sqrt.proofs.root_of_fields.Goals as goal

pub overflow_add-result : goal.overflow_add-result
overflow_add-result c = let h = ((let it : (let a = c.args in Answer a.exponent a.digits c.raised-p.result.power c.whole_root-halves.result) = let a = c.args in
    let p = c.raised-p in
    answer a.exponent a.digits p.result.significand p.result.power c.whole_root-halves.result c.requires p.ensures.0
    p.ensures.1 c.whole_root-halves.ensures in it)).short in omega arith

pub float_from_bits-result : goal.float_from_bits-result
float_from_bits-result c = let h = ((let it : (let a = c.args in Answer a.exponent a.digits c.raised-p.result.power c.whole_root-halves.result) = let a = c.args in
    let p = c.raised-p in
    answer a.exponent a.digits p.result.significand p.result.power c.whole_root-halves.result c.requires p.ensures.0
    p.ensures.1 c.whole_root-halves.ensures in it)).short in let k = ((let it : (let a = c.args in Answer a.exponent a.digits c.raised-p.result.power c.whole_root-halves.result) = let a = c.args in
    let p = c.raised-p in
    answer a.exponent a.digits p.result.significand p.result.power c.whole_root-halves.result c.requires p.ensures.0
    p.ensures.1 c.whole_root-halves.ensures in it)).low in no_nan _ (omega arith)

pub returns : goal.returns
returns c = ((let it : (let a = c.args in Answer a.exponent a.digits c.raised-p.result.power c.whole_root-halves.result) = let a = c.args in
    let p = c.raised-p in
    answer a.exponent a.digits p.result.significand p.result.power c.whole_root-halves.result c.requires p.ensures.0
    p.ensures.1 c.whole_root-halves.ensures in it)).is
