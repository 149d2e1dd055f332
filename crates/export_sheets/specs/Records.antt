-- What a record leaves in references: its parts, and what they held where it has none.
use Rattle.std.specs.Prelude.{◌≡◌, ℕ}
use Rattle.std.specs.declared.result.Result.{Result}
use Rattle.job_sheet.specs.Records.{number_of, kind_of, next_of, first_of, second_of, value_of}
use Rattle.job_sheet.specs.declared.record.Record.{Record}

pub record Tells (record' : Result Record ℕ) (place r kind kind' next next' first first' second second' value value' : ℕ) : Type 0 where
  pub number : r ≡ number_of record'
  pub kinds : kind' ≡ kind_of record' kind
  pub nexts : next' ≡ next_of record' place next
  pub firsts : first' ≡ first_of record' first
  pub seconds : second' ≡ second_of record' second
  pub values : value' ≡ value_of record' value
