use Rattle.std.proofs.Common.{◌≡◌, ap, ◌∙◌}
use Rattle.std.proofs.lemmas.Result.{IfOk-weaker}
use Rattle.sv_files.specs.Answer.{answer_seen}
use Rattle.sv_tree.specs.FileServlet.{answered}
use Rattle.sv_tree.specs.Seen.{found_seen}
use Rattle.sv_tree.specs.SiteOfDescriptor.{file_for}
use Rattle.sv_tree.proofs.Filing.{file-is, texts-are}
use Rattle.sv_tree.proofs.site.Site.file.Goals as goal

pub returns : goal.returns
returns c =
    let view = c.self.view_is in
    let app = ap (λ content. content.app) view in
    let welcome = c.as_slice-welcome.ensures ∙ (ap (λ its. its.welcome_files) c.web_app.ensures.value ∙ ap (λ its. its.welcome_files) app) in
    let patterns = texts-are c.args.self.now.app c.self.inside.descriptor c.self.inside.patterns c.patterns-patterns.result.now c.patterns-patterns.ensures c.self.invariant.0 app in
    let same =
    file-is c.args.self.now c.args.canon.now c.args.method.now c.args.kind c.as_str.result.now c.as_str-path.result.now c.self.inside.files c.as_slice-welcome.result.now c.patterns-patterns.result.now
    (answer_seen c.in_ok-answer.answer) (c.as_str.ensures ∙ ap (λ content. content.context_path) view) c.as_str-path.ensures (ap (λ content. content.files) view) welcome patterns c.in_ok-answer.ensures in
    IfOk-weaker c.answered.result (λ found. found_seen found ≡ answered c.as_str.result.now c.args.canon.now (answer_seen c.in_ok-answer.answer)) (λ found. found_seen found ≡ file_for c.args.self.now c.args.canon.now c.args.method.now c.args.kind)
    (λ found its. its ∙ same) c.answered.ensures
