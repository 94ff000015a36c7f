use Rattle.std.proofs.Common.{◌≡◌, IfOk, ℕ, List, ap, subst, ◌∙◌}
use Rattle.sv_descriptor.specs.Agreement.{servlet_patterns}
use Rattle.sv_descriptor.specs.declared.servlet.ServletMapping.{ServletMapping}
use Rattle.sv_descriptor.specs.declared.web_app.WebApp.{WebApp}
use Rattle.sv_files.specs.Answer.{answer_seen, file_answer}
use Rattle.sv_explanation.specs.Servlets.{mapped_patterns}
use Rattle.sv_explanation.proofs.context_files.answer_in.Goals as goal

pub returns : goal.returns
returns c =
    let app = c.args.descriptor.now in
    let Answers : List (List ℕ) → List (List ℕ) → Type 0 =
    λ names patterns. IfOk c.answer.result (λ answer. answer_seen answer ≡ file_answer c.args.files.now c.args.path.now c.args.method.now c.args.kind names patterns) in
    let names : c.as_slice-welcome.result.now ≡ app.welcome_files =
    c.as_slice-welcome.ensures ∙ ap (λ (its : WebApp). its.welcome_files) c.web_app-app.ensures.value in
    let mappings : c.as_slice.result.now ≡ app.servlet_mappings =
    c.as_slice.ensures ∙ ap (λ (its : WebApp). its.servlet_mappings) c.web_app-app.ensures.value in
    let patterns : c.as_slice-2.result.now ≡ servlet_patterns app =
    c.as_slice-2.ensures.value ∙ c.in_ok-patterns.ensures ∙ ap (λ (its : List ServletMapping). mapped_patterns its) mappings in
    subst (λ texts. Answers texts (servlet_patterns app)) names (subst (λ texts. Answers c.as_slice-welcome.result.now texts) patterns c.answer.ensures)
