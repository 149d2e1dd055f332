-- The requests of the calls for a strip.
use Rattle.std.specs.Prelude.{Bool, ◌&&◌, ◌%◌, eqb}
use Rattle.refusals.specs.StripRequest.{StripRequest, Dilution, undiluted}
use Rattle.strip.specs.Kinds.{is_honey}
use Rattle.strip.specs.declared.strip.Strip.{Strip}

abbrev pub odd_cylinder : Strip → Bool
odd_cylinder s = is_honey s.kind && s.periodic && eqb (s.w % 2) 1

abbrev pub diluted_request : Strip → Dilution → Bool → StripRequest
diluted_request s d misfit = record { width = s.w; columns = s.l; odd_cylinder = odd_cylinder s; dilution = d; misfit = misfit }

abbrev pub strip_request : Strip → Bool → StripRequest
strip_request s misfit = diluted_request s undiluted misfit
