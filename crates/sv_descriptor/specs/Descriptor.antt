-- Jakarta Servlet 6.0 chapter 14: deployment descriptors.
use Rattle.std.specs.Prelude.{ℕ, List, Ok}
use Rattle.toml.specs.Data.{Members}
use Rattle.sv_descriptor.specs.Document.{document}
use Rattle.sv_text.specs.Steps.{◌>>=◌, ◌>>◌}
use Rattle.sv_descriptor.specs.Fault.{Located, Reads, without_place}
use Rattle.sv_descriptor.specs.Agreement.{elements_agree}
use Rattle.sv_descriptor.specs.WebApp.{web_app}
use Rattle.sv_descriptor.specs.declared.web_app.WebApp.{WebApp}

-- The elements of a table: each is read independently, and then all are checked together.
abbrev pub descriptor : Members → Located WebApp
descriptor table = do
  elements ← web_app table
  elements_agree elements
  Ok elements

-- The elements of a text, or the first fault with its place.
unfoldable pub located_descriptor : List ℕ → Located WebApp
located_descriptor = document descriptor

-- The elements of a text.
unfoldable pub descriptor_of : List ℕ → Reads WebApp
descriptor_of text = without_place (located_descriptor text)
