-- The options of a call over C, as one number: a sum of bits. Those that are not named here are not read, so that no number is a bad one.
use Rattle.std.specs.Prelude.{cond, ℕ, ◌/◌, ◌%◌, eqb}
use Rattle.limits.specs.declared.Caller.{Caller}
use Rattle.limits.specs.declared.Caller.TheVariants.{Desk, Tester}
use Rattle.plan_layout.specs.declared.Arrangement.{Arrangement}
use Rattle.plan_layout.specs.declared.Arrangement.TheVariants.{KeepAll, LessRoom}
use Rattle.entry_correlations.specs.declared.Manner.{Manner}
use Rattle.entry_correlations.specs.declared.Manner.TheVariants.{Block, PerElement}
use Rattle.c_values.specs.declared.options.Options.{Options}

-- 1 is block, else the manner is per element.
abbrev pub manner_in : ℕ → Manner
manner_in number = cond (eqb (number % 2) 1) Block PerElement

-- 2 takes less room, else every kept vector has its place.
abbrev pub arrangement_in : ℕ → Arrangement
arrangement_in number = cond (eqb (number / 2 % 2) 1) LessRoom KeepAll

-- 4 is the tester, else the desk calls.
abbrev pub caller_in : ℕ → Caller
caller_in number = cond (eqb (number / 4 % 2) 1) Tester Desk

abbrev pub options_numbered : ℕ → Options
options_numbered number = record { manner = manner_in number; arrangement = arrangement_in number; caller = caller_in number }
