-- A kind's number, and the kind and the strip that numbers name.
use Rattle.std.specs.Prelude.{Bool, ℕ, zero, suc}
use Rattle.strip.specs.declared.kinds.Kind.{Kind}
use Rattle.strip.specs.declared.kinds.Kind.TheVariants.{Square, Tri, Honey, Eight}
use Rattle.strip.specs.declared.strip.Strip.{Strip}

abbrev pub number_of : Kind → ℕ
number_of Square = 0
number_of Tri = 1
number_of Honey = 2
number_of Eight = 3

-- 0 is square, 1 triangular, 3 eight, any other number honeycomb.
abbrev pub kind_numbered : ℕ → Kind
kind_numbered zero = Square
kind_numbered (suc zero) = Tri
kind_numbered (suc (suc zero)) = Honey
kind_numbered (suc (suc (suc zero))) = Eight
kind_numbered (suc (suc (suc (suc k)))) = Honey

abbrev pub strip_numbered : ℕ → ℕ → ℕ → Bool → Strip
strip_numbered kind w l periodic = record { kind = kind_numbered kind; w = w; l = l; periodic = periodic }
