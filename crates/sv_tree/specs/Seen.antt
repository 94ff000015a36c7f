-- The results of the code as terms of the dispatch model.
use Rattle.std.specs.Prelude.{◌<◌, length}
use Rattle.std.specs.Option.{option_copied}
use Rattle.sv_tree.specs.declared.site.Chosen as code
use Rattle.sv_tree.specs.declared.file_found.FileFound as found
use Rattle.sv_tree.specs.declared.file_found.FileFound.TheVariants as founds
use Rattle.sv_tree.specs.Site.{Chosen, FileAnswer, File, Redirect, Missing, NotAllowed, Site}
use Rattle.sv_tree.specs.declared.site.Resource.{Resource}
use Rattle.sv_tree.specs.declared.site.Resource.TheVariants.{Servlet, Files}

abbrev pub chosen_seen : code.Chosen → Chosen
chosen_seen chosen = record {
  resource = chosen.resource;
  servlet_path = chosen.servlet_path.now;
  path_info = option_copied chosen.path_info;
}

abbrev pub found_seen : found.FileFound → FileAnswer
found_seen (founds.File content_type bytes) = File content_type.now bytes.now
found_seen (founds.Redirect location) = Redirect location
found_seen founds.Missing = Missing
found_seen founds.NotAllowed = NotAllowed

-- The resource is the file servlet or one of the site's servlets.
abbrev pub IsThere : Site → Resource → Type 0
IsThere site (Servlet place) = place < length site.names
IsThere site Files = Unit {0}
