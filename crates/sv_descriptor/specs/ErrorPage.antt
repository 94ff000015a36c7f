-- Jakarta Servlet 6.0 section 10.9.2: error pages.
use Rattle.std.specs.Prelude.{ℕ, List, [], ◌∷◌, codes, Option, Some, None, Ok}
use Rattle.toml.specs.Data.{Members}
use Rattle.sv_text.specs.Steps.{◌>>=◌, ◌>>◌}
use Rattle.sv_descriptor.specs.Fault.{Located, refuse, within}
use Rattle.sv_descriptor.specs.Table.{required, optional}
use Rattle.sv_descriptor.specs.Value.{name, number_between, text_of, whole_of}
use Rattle.sv_descriptor.specs.declared.fault.FaultCode.TheVariants.{BadValue}
use Rattle.sv_descriptor.specs.declared.fault.ValueStep.TheVariants.{Key}
use Rattle.sv_descriptor.specs.Ignored.{element_keys}
use Rattle.sv_descriptor.specs.Location.{location}
use Rattle.sv_descriptor.specs.declared.error_page.ErrorPage.{ErrorPage}
use Rattle.sv_descriptor.specs.declared.error_page.PageFor.{PageFor}
use Rattle.sv_descriptor.specs.declared.error_page.PageFor.TheVariants.{Status, Exception, Any}
use Rattle.sv_descriptor.specs.declared.limits.TheConstants.{MIN_ERROR_CODE, MAX_ERROR_CODE}

-- A page is for a status, for an exception, or for all errors that have no other page.
abbrev pub page_for : Option ℕ → Option (List ℕ) → Located PageFor
page_for None None = Ok Any
page_for (Some status) None = Ok (Status status)
page_for None (Some exception) = Ok (Exception exception)
page_for (Some status) (Some exception) = within (Key (codes "exception-type")) (refuse BadValue (codes "exception-type"))

abbrev pub error_page : Members → Located ErrorPage
error_page table = do
  element_keys (codes "error-code" ∷ codes "exception-type" ∷ codes "location" ∷ []) table
  status ← optional (whole_of (number_between MIN_ERROR_CODE MAX_ERROR_CODE)) (codes "error-code") table
  exception ← optional (text_of name) (codes "exception-type") table
  its_errors ← page_for status exception
  page ← required (text_of location) (codes "location") table
  Ok (record { page_for = its_errors; location = page })
