-- When two fractions as written are the same.
use Rattle.std.specs.Prelude.{◌≡◌, ◌+◌, ◌*◌}
use Rattle.fraction.specs.Raw.{Raw, bottom}

infixl 20 ◌~◌
abbrev pub ◌~◌ : Raw → Raw → Type 0
◌~◌ x y = x.plus * bottom y + y.minus * bottom x ≡ y.plus * bottom x + x.minus * bottom y
