-- The file servlet's result, computed from the arguments that the code passes.
use Rattle.std.proofs.Common.{ℕ, ◌≡◌, List, ap, ◌∙◌}
use Rattle.sv_descriptor.specs.Agreement.{servlet_patterns}
use Rattle.sv_descriptor.specs.declared.web_app.WebApp.{WebApp}
use Rattle.sv_files.specs.Answer.{Answer, file_answer}
use Rattle.sv_files.specs.declared.files.File.{File}
use Rattle.sv_mapping.specs.declared.kind.Kind.{Kind}
use Rattle.sv_tree.specs.FileServlet.{answered}
use Rattle.sv_tree.specs.ServletMappings.{mappings_of}
use Rattle.sv_tree.specs.SiteOfDescriptor.{Content, file_for}
use Rattle.sv_tree.proofs.Beside.{texts-mappings, texts_of}
use Rattle.sv_tree.specs.Site.{Mapping}
use Rattle.sv_uri.specs.declared.path.Canon.{Canon}

pub file-is : (content : Content) (canon : Canon) (method : List ℕ) (kind : Kind) (context_path path : List ℕ) (files : List File) (welcome patterns : List (List ℕ)) (answer : Answer)
    → context_path ≡ content.context_path → path ≡ canon.path → files ≡ content.files → welcome ≡ content.app.welcome_files → patterns ≡ servlet_patterns content.app
    → answer ≡ file_answer files path method kind welcome patterns → answered context_path canon answer ≡ file_for content canon method kind
file-is content canon method kind context_path path files welcome patterns answer its_context its_path its_files its_welcome its_patterns its_answer =
    ap (answered context_path canon) its_answer
    ∙ (ap (λ text. answered text canon (file_answer files path method kind welcome patterns)) its_context
    ∙ (ap (λ text. answered content.context_path canon (file_answer files text method kind welcome patterns)) its_path
    ∙ (ap (λ listed. answered content.context_path canon (file_answer listed canon.path method kind welcome patterns)) its_files
    ∙ (ap (λ names. answered content.context_path canon (file_answer content.files canon.path method kind names patterns)) its_welcome
    ∙ ap (λ texts. answered content.context_path canon (file_answer content.files canon.path method kind content.app.welcome_files texts)) its_patterns))))

-- The texts of all patterns of a descriptor.
pub texts-are : (app other : WebApp) (mappings : List Mapping) (texts : List (List ℕ)) → texts ≡ texts_of mappings → mappings ≡ mappings_of other → other ≡ app → texts ≡ servlet_patterns app
texts-are app other mappings texts its_texts its_mappings same =
    its_texts ∙ (ap texts_of its_mappings ∙ (ap (λ its. texts_of (mappings_of its)) same ∙ texts-mappings app.servlets app.servlet_mappings))
