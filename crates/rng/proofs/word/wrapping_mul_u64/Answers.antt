-- The product of the halves wraps to the product.
use Rattle.rng.proofs.Product.{digits_fit, by_halves}
use Rattle.std.proofs.Common.{◌∙◌, rules}
use Rattle.rng.proofs.word.wrapping_mul_u64.Goals as goal

pub overflow_mul-mid : goal.overflow_mul-mid
overflow_mul-mid c = record { fits = digits_fit (search rules) (search rules) }

pub overflow_mul-mid-2 : goal.overflow_mul-mid-2
overflow_mul-mid-2 c = record { fits = digits_fit (search rules) (search rules) }

pub overflow_mul-a0 : goal.overflow_mul-a0
overflow_mul-a0 c = record { fits = digits_fit (search rules) (search rules) }

pub returns : goal.returns
returns c = c.wrapping_add_u64.ensures.value ∙ by_halves c.args.a c.args.b
