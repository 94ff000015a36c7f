-- Values that the code passes between the steps of a dispatch, in terms of the model.
use Rattle.std.specs.Prelude.{◌≡◌, ℕ, Bool, true, false, List, codes, decimal, length, Option, Some, None, slice_index_or}
use Rattle.sv_component.specs.Standing.{is_gone}
use Rattle.sv_component.specs.declared.standing.Standing.TheVariants.{Gone}
use Rattle.sv_dispatch.specs.declared.parts.ErrorField.{ErrorField}
use Rattle.sv_dispatch.specs.declared.parts.ErrorField.TheVariants as fields
use Rattle.sv_exchange.specs.Changing.{Write, has_room}
use Rattle.sv_exchange.specs.declared.error.KeptField.{KeptField}
use Rattle.sv_tree.specs.Does.{Does, ◌>>◌, choose, gives, makes, sees}
use Rattle.sv_tree.specs.Filters.{Afters}
use Rattle.sv_tree.specs.State.{State}
use Rattle.sv_tree.specs.declared.finished.Finished.{Finished}

-- The header field of an error (RFC 9110, sections 10.2.1 and 10.2.3).
abbrev pub field_of : ErrorField → Option KeptField
field_of fields.Nothing = None
field_of fields.Allow = Some record { name = codes "allow"; value = codes "GET, HEAD" }
field_of (fields.RetryAfter seconds) = Some record { name = codes "retry-after"; value = decimal seconds }

-- Writes the bytes if the body has room for them, and gives whether it has.
abbrev pub offers : List ℕ → Does Bool
offers bytes = sees λ state. choose (has_room (length bytes) state.exchange) (makes (Write bytes) >> gives true) (gives false)

-- Calls the filters that passed once more, and gives the end of the dispatch.
abbrev pub closes : ℕ → List ℕ → Finished → Does Finished
closes listeners passed finished = Afters listeners passed >> gives finished

-- The servlet at this index is not gone, though it may be temporarily unavailable.
abbrev pub IsHere : ℕ → State → Type 0
IsHere place state = is_gone (slice_index_or state.standings place Gone) ≡ false
