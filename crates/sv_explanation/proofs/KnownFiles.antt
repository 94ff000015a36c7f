-- Known files answer as all files with their paths.
use Rattle.std.proofs.Common.{◌≡◌, ◌&&◌, ℕ, List, Option, Some, refl, sym, ap, ◌∙◌, subst}
use Rattle.std.specs.Prelude.{Ok, Err, Result, codes, is_none, option_and_then}
use Rattle.sv_descriptor.specs.Agreement.{servlet_patterns}
use Rattle.sv_descriptor.specs.declared.web_app.WebApp.{WebApp}
use Rattle.sv_files.specs.Answer.{Answer, Content, Welcome, Slash, Missing, Method}
use Rattle.sv_files.specs.declared.files.File.{File}
use Rattle.sv_mapping.specs.declared.kind.Kind.{Kind}
use Rattle.sv_mapping.specs.declared.kind.Kind.TheVariants.{Request}
use Rattle.sv_uri.specs.Canonical.{canonical}
use Rattle.sv_uri.specs.declared.fault.PathFault.{PathFault}
use Rattle.sv_uri.specs.declared.path.Canon.{Canon}
use Rattle.sv_explanation.specs.ContextFiles.{answer_in, files_with, known_files}
use Rattle.sv_explanation.specs.Entries.{file_responder, responder_by}
use Rattle.sv_explanation.specs.FileLaws.{HasFiles}
use Rattle.sv_explanation.specs.Pages.{is_missing, is_nothing, is_vacant_at}
use Rattle.sv_explanation.specs.Servlets.{servlet_at}
use Rattle.sv_explanation.specs.declared.site_context.SiteContext.{SiteContext}
use Rattle.sv_explanation.proofs.BareFiles.{bare, bytes_do_not_matter, faultless_paths, without_bytes}

known_is : (context : SiteContext) (files : List File) → HasFiles context files → known_files context ≡ Some (bare files)
known_is context files has = ap (option_and_then files_with) has.paths ∙ faultless_paths files has.faultless

answer_bare : (app : WebApp) (files : List File) (path method : List ℕ) (kind : Kind)
    → answer_in app (bare files) path method kind ≡ without_bytes (answer_in app files path method kind)
answer_bare app files path method kind = bytes_do_not_matter files path method kind app.welcome_files (servlet_patterns app)

responder_bare : (context : SiteContext) (known : Option (List File)) (canon : Canon) (its : Answer)
    → responder_by context known canon (without_bytes its) ≡ responder_by context known canon its
responder_bare context known canon (Content bytes) = refl
responder_bare context known canon (Welcome path) = refl
responder_bare context known canon Slash = refl
responder_bare context known canon Missing = refl
responder_bare context known canon Method = refl

pub responders : (context : SiteContext) (files : List File) (method : List ℕ) (canon : Canon) → HasFiles context files
    → file_responder context (known_files context) method canon
    ≡ responder_by context (known_files context) canon (answer_in context.descriptor files canon.path method Request)
responders context files method canon has =
    let its = answer_in context.descriptor files canon.path method Request in
    subst (λ known. file_responder context known method canon ≡ responder_by context known canon its) (sym (known_is context files has))
    (ap (responder_by context (Some (bare files)) canon) (answer_bare context.descriptor files canon.path method Request)
    ∙ responder_bare context (Some (bare files)) canon its)

nothing_bare : (its : Answer) → is_nothing (without_bytes its) ≡ is_nothing its
nothing_bare (Content bytes) = refl
nothing_bare (Welcome path) = refl
nothing_bare Slash = refl
nothing_bare Missing = refl
nothing_bare Method = refl

vacant_bare : (app : WebApp) (files : List File) (kind : Kind) (target : Result Canon PathFault)
    → is_vacant_at app kind (bare files) target ≡ is_vacant_at app kind files target
vacant_bare app files kind (Err fault) = refl
vacant_bare app files kind (Ok canon) =
    ap (λ nothing. is_none (servlet_at app.servlet_mappings canon.path) && nothing)
    (ap is_nothing (answer_bare app files canon.path (codes "GET") kind) ∙ nothing_bare (answer_in app files canon.path (codes "GET") kind))

pub missing_pages : (context : SiteContext) (files : List File) (kind : Kind) (location : List ℕ) → HasFiles context files
    → is_missing context.descriptor (known_files context) kind location ≡ is_vacant_at context.descriptor kind files (canonical location)
missing_pages context files kind location has =
    ap (λ known. is_missing context.descriptor known kind location) (known_is context files has)
    ∙ vacant_bare context.descriptor files kind (canonical location)
