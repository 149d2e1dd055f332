-- By Euclid's rule. The measure is b: a remainder is below what it is taken by.
use Rattle.euclid.proofs.+gcd.Given as goal

abbrev pub decreases-gcd : goal.decreases-gcd
decreases-gcd l = l.b
