-- Laws of files and pages: only the paths of files matter (Jakarta Servlet 6.0, sections 10.9.2, 10.10 and 12.2).
use Rattle.std.specs.Prelude.{◌≡◌, ℕ, List, [], map, Some}
use Rattle.sv_files.specs.Fault.{list_faults}
use Rattle.sv_files.specs.declared.files.File.{File}
use Rattle.sv_mapping.specs.declared.kind.Kind.{Kind}
use Rattle.sv_mapping.specs.declared.kind.Kind.TheVariants.{Request}
use Rattle.sv_uri.specs.Canonical.{canonical}
use Rattle.sv_uri.specs.declared.path.Canon.{Canon}
use Rattle.sv_explanation.specs.ContextFiles.{answer_in, known_files}
use Rattle.sv_explanation.specs.Entries.{file_responder, responder_by}
use Rattle.sv_explanation.specs.Pages.{is_missing, is_vacant_at}
use Rattle.sv_explanation.specs.declared.site_context.SiteContext.{SiteContext}

-- The files of a server's context have the paths that are known.
pub record HasFiles (context : SiteContext) (files : List File) : Type 0 where
  pub paths : context.files ≡ Some (map (λ file. file.path) files)
  pub faultless : list_faults files ≡ []

-- Where no servlet takes the path, the explanation follows from the answer of the file servlet over these files.
abbrev pub FilesAnswerAsExplained : Type 0
FilesAnswerAsExplained = (context : SiteContext) (files : List File) (method : List ℕ) (canon : Canon)
    → HasFiles context files
    → file_responder context (known_files context) method canon
    ≡ responder_by context (known_files context) canon (answer_in context.descriptor files canon.path method Request)

-- A page is explained as missing exactly if nothing answers at its path over these files.
abbrev pub PagesAreMissingAsExplained : Type 0
PagesAreMissingAsExplained = (context : SiteContext) (files : List File) (kind : Kind) (location : List ℕ)
    → HasFiles context files
    → is_missing context.descriptor (known_files context) kind location ≡ is_vacant_at context.descriptor kind files (canonical location)
