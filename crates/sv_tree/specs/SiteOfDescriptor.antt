-- What a dispatch asks of its context, as defined by the descriptor and the context's files: Jakarta Servlet 6.0,
-- sections 6.2.4 (filters), 10.9.2 (error pages), 10.10 (welcome files) and 12.1 (servlets).
use Rattle.std.specs.Prelude.{ℕ, List, length, Option}
use Rattle.std.specs.Option.{option_and_then}
use Rattle.std.specs.Result.{result_ok}
use Rattle.sv_chain.specs.FilterChain.{filter_chain}
use Rattle.sv_descriptor.specs.Agreement.{servlet_names, servlet_patterns}
use Rattle.sv_descriptor.specs.declared.web_app.WebApp.{WebApp}
use Rattle.sv_error_pages.specs.Choice.{page_for}
use Rattle.sv_files.specs.Answer.{file_answer}
use Rattle.sv_files.specs.declared.files.File.{File}
use Rattle.sv_mapping.specs.declared.kind.Kind.{Kind}
use Rattle.sv_tree.specs.FileServlet.{answered}
use Rattle.sv_tree.specs.ServletMappings.{mappings_of}
use Rattle.sv_tree.specs.Site.{FileAnswer, Site}
use Rattle.sv_uri.specs.Canonical.{canonical}
use Rattle.sv_uri.specs.declared.path.Canon.{Canon}

-- The context's path, which is empty for the root context, its descriptor and its files.
pub record Content : Type 0 where
  pub context_path : List ℕ
  pub app : WebApp
  pub files : List File

-- The file servlet's result for a path with its query, a method and a kind of dispatch.
abbrev pub file_for : Content → Canon → List ℕ → Kind → FileAnswer
file_for content canon method kind =
    answered content.context_path canon (file_answer content.files canon.path method kind content.app.welcome_files (servlet_patterns content.app))

-- The error page for a status and the kind of a failure, as the path and the query of its location.
abbrev pub error_page : Content → ℕ → Option (List ℕ) → Option Canon
error_page content status kind = option_and_then (λ page. result_ok (canonical page)) (page_for content.app.error_pages status kind)

abbrev pub site_of : Content → Site
site_of content = record {
  mappings = mappings_of content.app;
  names = servlet_names content.app;
  chain = filter_chain content.app;
  file = file_for content;
  page = error_page content;
  listeners = length content.app.listeners;
}
