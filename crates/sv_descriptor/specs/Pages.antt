-- Jakarta Servlet 6.0 sections 10.9.2 and 10.10: error pages and welcome files.
use Rattle.std.specs.Prelude.{[], codes, Ok}
use Rattle.toml.specs.Data.{Members}
use Rattle.sv_text.specs.Steps.{◌>>=◌}
use Rattle.sv_descriptor.specs.Fault.{Located}
use Rattle.sv_descriptor.specs.Table.{optional_or}
use Rattle.sv_descriptor.specs.Value.{table_of}
use Rattle.sv_descriptor.specs.ErrorPage.{error_page}
use Rattle.sv_descriptor.specs.Tables.{tables}
use Rattle.sv_descriptor.specs.WelcomeFile.{welcome_file_list}
use Rattle.sv_descriptor.specs.declared.pages.Pages.{Pages}

abbrev pub pages : Members → Located Pages
pages table = do
  its_welcome_files ← optional_or [] (table_of welcome_file_list) (codes "welcome-file-list") table
  its_error_pages ← optional_or [] (tables error_page) (codes "error-page") table
  Ok (record { welcome_files = its_welcome_files; error_pages = its_error_pages })
