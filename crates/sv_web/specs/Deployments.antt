-- The deployments of an application's contexts (Jakarta Servlet 6.0, sections 4.4 and 14.4).
use Rattle.std.specs.Prelude.{ℕ, List, [], ◌∷◌, codes, Option, Some, None, Result, Ok, Err}
use Rattle.sv_text.specs.Gives.{Gives}
use Rattle.sv_text.specs.Steps.{◌>>=◌}
use Rattle.sv_component.specs.declared.components.Named.{Named}
use Rattle.sv_lifecycle.specs.declared.deployment.Deployment as context
use Rattle.sv_descriptor.specs.declared.web_app.WebApp.{WebApp}
use Rattle.sv_deployments.specs.FilesFault.{served_files}
use Rattle.sv_deployments.specs.Results.{both}
use Rattle.sv_files.specs.declared.files.File.{File}
use Rattle.sv_program.specs.CommandFault.{command_fault}
use Rattle.sv_program.specs.Configuration.{Step, descriptor_in, each, users_in}
use Rattle.sv_program.specs.declared.command_fault.CommandFault.{CommandFault}
use Rattle.sv_program.specs.declared.configuration.ContextTexts.{ContextTexts}
use Rattle.sv_realm.specs.declared.account.User.{User}
use Rattle.sv_web.specs.declared.deployment.Content.{Content}

-- a context has a users file if its text is not empty
abbrev pub users_name : List ℕ → Option (List ℕ)
users_name [] = None
users_name (first ∷ rest) = Some (codes "users")

-- the texts of a context's files
abbrev pub texts_of : List ℕ → List ℕ → List ℕ → ContextTexts
texts_of path descriptor users = record {
  context = record { path = path; descriptor = codes "descriptor"; files = []; users = users_name users };
  descriptor = Ok descriptor;
  users = Ok users;
}

-- the descriptor and the users that these texts give
abbrev pub configured : ContextTexts → Step (WebApp × List User)
configured texts = both (descriptor_in texts) (users_in texts)

-- the descriptor, the users and the files, or the first fault among them
abbrev pub read_of : List ℕ → List ℕ → List ℕ → List File → Step ((WebApp × List User) × List File)
read_of path descriptor users files = both (configured (texts_of path descriptor users)) (served_files path files)

-- the deployment of a context, with its components as lists
pub record Deployed (S F L : Type 0) : Type 0 where
  pub path : List ℕ
  pub descriptor : WebApp
  pub files : List File
  pub users : List User
  pub servlets : List (Named S)
  pub filters : List (Named F)
  pub listeners : List L

module _ {S F L : Type 0} where
  abbrev pub deployed : context.Deployment S F L → Deployed S F L
  deployed given = record {
    path = given.path;
    descriptor = given.descriptor;
    files = given.files;
    users = given.users;
    servlets = given.parts.servlets.items;
    filters = given.parts.filters.items;
    listeners = given.parts.listeners.items;
  }

  -- the descriptor and the users from their texts, the files if they can be served, and the components unchanged
  abbrev pub deployment_of : Content S F L → Step (Deployed S F L)
  deployment_of content = do
    read ← read_of content.path content.descriptor content.users content.files
    Ok (record {
      path = content.path;
      descriptor = read.0.0;
      files = read.1;
      users = read.0.1;
      servlets = content.servlets;
      filters = content.filters;
      listeners = content.listeners;
    })

  -- the deployments of all contexts, or the first fault
  abbrev pub deployments_of : List (Content S F L) → Step (List (Deployed S F L))
  deployments_of contents = each deployment_of contents

  -- an application with a fault does not run; the result is the fault, unless memory ran out
  abbrev pub IsRefusedBy : Step (List (Deployed S F L)) → Result (Unit {0}) CommandFault → Type 0
  IsRefusedBy (Ok all) result = Unit {0}
  IsRefusedBy (Err fault) result = Gives command_fault result (Err fault)
