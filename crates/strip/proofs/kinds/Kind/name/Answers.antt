-- The name of each kind.
use Rattle.strip.proofs.kinds.Kind.name.Goals as goal

pub returns-in-Square : goal.returns-in-Square
returns-in-Square c = rw c.in-Square.is c.six.ensures

pub returns-in-Tri : goal.returns-in-Tri
returns-in-Tri c = rw c.in-Tri.is c.six-in-Tri.ensures

pub returns-in-Honey : goal.returns-in-Honey
returns-in-Honey c = rw c.in-Honey.is c.six-in-Honey.ensures

pub returns-in-Eight : goal.returns-in-Eight
returns-in-Eight c = rw c.in-Eight.is c.six-in-Eight.ensures
