-- Dispatches that end in an error or a failure (Jakarta Servlet 6.0, sections 9.5 and 10.9).
use Rattle.std.specs.Prelude.{ℕ, ◌&&◌, nat_le, List, codes, decimal, Option, None, Some, if◌then◌else◌}
use Rattle.sv_exchange.specs.Dispatches.{is_within_include}
use Rattle.sv_tree.specs.Does.{Does, ◌>>◌, choose, gives, sees, tries}
use Rattle.sv_tree.specs.Faults.{fault_name}
use Rattle.sv_tree.specs.Site.{Resource, Site, name_of}
use Rattle.sv_tree.specs.State.{KeptError, KeptField, with_kept}
use Rattle.sv_tree.specs.declared.finished.DispatchFault.{DispatchFault}
use Rattle.sv_tree.specs.declared.finished.Finished.{Finished}
use Rattle.sv_tree.specs.declared.finished.Finished.TheVariants.{Done, Error, Failed}
use Rattle.sv_tree.specs.declared.limits.TheConstants.{INTERNAL_SERVER_ERROR, LEAST_ERROR, MAX_ERROR, METHOD_NOT_ALLOWED, NOT_FOUND, SERVICE_UNAVAILABLE}
use Rattle.sv_message.specs.Phrases.{phrase_of}

-- The status of an error, for the code that a servlet gives.
abbrev pub error_status : ℕ → ℕ
error_status code = if nat_le LEAST_ERROR code && nat_le code MAX_ERROR then code else INTERNAL_SERVER_ERROR

-- Keeps the error for the response.
abbrev pub keeps : KeptError → Does (Unit {0})
keeps kept = tries (with_kept kept)

module _ (site : Site) where
  -- An error. Within an include, at any depth, it counts as done.
  abbrev pub errs : Resource → ℕ → List ℕ → Option KeptField → Does Finished
  errs resource status text field = sees λ state. choose (is_within_include state.exchange) (gives Done) do
    keeps record { status = status; text = text; servlet = Some (name_of site resource); field = field }
    gives (Error status text)

  -- An error raised by the container. Its text is the reason phrase of its status.
  abbrev pub errs_with : Resource → ℕ → Option KeptField → Does Finished
  errs_with resource status field = errs resource status (phrase_of status) field

  abbrev pub is_missing : Resource → Does Finished
  is_missing resource = errs_with resource NOT_FOUND None

  abbrev pub is_not_allowed : Resource → Does Finished
  is_not_allowed resource = errs_with resource METHOD_NOT_ALLOWED (Some record { name = codes "allow"; value = codes "GET, HEAD" })

  abbrev pub is_away_for : Resource → ℕ → Does Finished
  is_away_for resource seconds = errs_with resource SERVICE_UNAVAILABLE (Some record { name = codes "retry-after"; value = decimal seconds })

  -- A failure, also within an include.
  abbrev pub fails : Resource → List ℕ → List ℕ → Does Finished
  fails resource kind text = do
    keeps record { status = INTERNAL_SERVER_ERROR; text = text; servlet = Some (name_of site resource); field = None }
    gives (Failed kind text)

  -- A failure raised by the container.
  abbrev pub faults : Resource → DispatchFault → Does Finished
  faults resource fault = fails resource (fault_name fault) (fault_name fault)
