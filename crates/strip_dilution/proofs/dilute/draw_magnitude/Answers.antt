-- Two uniforms, and the magnitude by the first.
use mathlib.Core.Path.{ap, ◌∙◌}
use Rattle.strip_dilution.specs.Diluted.{advanced}
use Rattle.strip_dilution.proofs.Drawing.{uniform-is, advanced-is, kept-magnitude, dropped-magnitude}
use borrow.Author.Rules.{rules}
use Rattle.strip_dilution.proofs.dilute.draw_magnitude.Goals as goal

pub uniform-first-requires : goal.uniform-first-requires
uniform-first-requires c = search rules

pub uniform-second-requires : goal.uniform-second-requires
uniform-second-requires c = search rules

pub returns-then-first-keep : goal.returns-then-first-keep
returns-then-first-keep c = let s = c.args.start.s in let u = c.uniform-first.ensures.fact in let t = c.uniform-first.result.rng.s in let v = c.uniform-second.ensures.fact in (kept-magnitude _ s (uniform-is s u.0) (advanced-is s u.1) (uniform-is t v.0) c.if-first-keep.true, advanced-is t v.1 ∙ ap advanced (advanced-is s u.1))

pub returns : goal.returns
returns c = let s = c.args.start.s in let u = c.uniform-first.ensures.fact in let t = c.uniform-first.result.rng.s in let v = c.uniform-second.ensures.fact in (dropped-magnitude _ s (uniform-is s u.0) (advanced-is s u.1) (uniform-is t v.0) c.if-first-keep.false, advanced-is t v.1 ∙ ap advanced (advanced-is s u.1))
