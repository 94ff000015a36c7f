-- The static files of a context, and what the file servlet answers (Jakarta Servlet 6.0, sections 10.10 and 12.2).
use Rattle.std.specs.Prelude.{ℕ, List, [], map, option_and_then, Option}
use Rattle.std.specs.Result.{result_ok}
use Rattle.sv_descriptor.specs.Agreement.{servlet_patterns}
use Rattle.sv_descriptor.specs.declared.web_app.WebApp.{WebApp}
use Rattle.sv_files.specs.Answer.{Answer, file_answer}
use Rattle.sv_files.specs.Fault.{files_of}
use Rattle.sv_files.specs.declared.files.File.{File}
use Rattle.sv_mapping.specs.declared.kind.Kind.{Kind}
use Rattle.sv_explanation.specs.declared.site_context.SiteContext.{SiteContext}

-- A file with this path. Its bytes do not matter.
abbrev pub file_with : List ℕ → File
file_with its_path = record { path = its_path; bytes = [] }

-- The files with these paths; none if no context has such files.
abbrev pub files_with : List (List ℕ) → Option (List File)
files_with paths = result_ok (files_of (map file_with paths))

-- The files of a context, if they are known.
abbrev pub known_files : SiteContext → Option (List File)
known_files context = option_and_then files_with context.files

-- The file servlet's answer to a dispatch of this kind to a path within the context.
abbrev pub answer_in : WebApp → List File → List ℕ → List ℕ → Kind → Answer
answer_in app files path method kind = file_answer files path method kind app.welcome_files (servlet_patterns app)
