-- The contents of an application's context, built call by call (Jakarta Servlet 6.0, sections 4.4 and 14.4).
use Rattle.std.specs.Prelude.{ℕ, List, [], ◌∷◌, ◌++◌, bytes_eq, codes, if◌then◌else◌}
use Rattle.std.specs.Borrow.{Bor}
use Rattle.sv_component.specs.declared.components.Named.{Named}
use Rattle.sv_files.specs.declared.files.File.{File}
use Rattle.sv_web.specs.Elements.{filter_elements, listener_elements, servlet_elements}
use Rattle.sv_web.specs.declared.deployment.Content.{Content}

module _ {S F L : Type 0} where
  -- an empty context at a path
  abbrev pub at_path : List ℕ → Content S F L
  at_path path = record {
    path = if bytes_eq path (codes "/") then [] else path;
    descriptor = [];
    servlets = [];
    filters = [];
    listeners = [];
    files = [];
    users = [];
  }

  -- with more descriptor elements, added at the end
  abbrev pub with_elements : List ℕ → Content S F L → Content S F L
  with_elements text content = record content { descriptor = content.descriptor ++ text ++ codes "\n" }

  -- with one more servlet, filter or listener, declared last
  abbrev pub with_servlet : List ℕ → List (Bor (List ℕ)) → S → Content S F L → Content S F L
  with_servlet name patterns servlet content = record content {
    descriptor = content.descriptor ++ servlet_elements name patterns;
    servlets = content.servlets ++ record { name = name; component = servlet } ∷ [];
  }

  abbrev pub with_filter : List ℕ → List (Bor (List ℕ)) → F → Content S F L → Content S F L
  with_filter name patterns filter content = record content {
    descriptor = content.descriptor ++ filter_elements name patterns;
    filters = content.filters ++ record { name = name; component = filter } ∷ [];
  }

  abbrev pub with_listener : L → Content S F L → Content S F L
  with_listener listener content = record content {
    descriptor = content.descriptor ++ listener_elements;
    listeners = content.listeners ++ listener ∷ [];
  }

  -- with one more static file
  abbrev pub with_file : List ℕ → List ℕ → Content S F L → Content S F L
  with_file path bytes content = record content { files = content.files ++ record { path = path; bytes = bytes } ∷ [] }

  -- with the users of a users file, instead of earlier ones
  abbrev pub with_users : List ℕ → Content S F L → Content S F L
  with_users text content = record content { users = text }
