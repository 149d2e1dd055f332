use Rattle.std.proofs.Common.{sym, ◌∙◌}
use Rattle.euclid.proofs.Laws.Turns.{gcd_zero, gcd-rest}
use Rattle.euclid.proofs.+gcd.Goals as goal

pub returns-then-b-eq0 : goal.returns-then-b-eq0
returns-then-b-eq0 t c = sym (gcd_zero c.args.a c.args.b c.if-b-eq0.true)

pub returns-else-b-eq0 : goal.returns-else-b-eq0
returns-else-b-eq0 t c = c.gcd.ensures ∙ sym (gcd-rest c.args.a c.args.b)
