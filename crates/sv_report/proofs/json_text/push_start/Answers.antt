use Rattle.std.proofs.Common.{ap, string_bytes, ◌++◌, ◌∙◌}
use Rattle.serde_json.specs.Data.{string}
use Rattle.serde_json.specs.Written.{compact_text}
use Rattle.sv_uri.specs.ContextPath.{shown_context}
use Rattle.sv_report.proofs.JsonTexts.{places_of_parts}
use Rattle.sv_report.proofs.json_text.push_start.Goals as goal

pub returns : goal.returns
returns c =
    places_of_parts (shown_context c.args.context.now.path) c.args.context.now.file _ _ _ _ _ _ c.in_ok-push_str.ensures.bytes
    (c.in_ok-push_text.ensures ∙ ap (λ path. string_bytes c.push_str.new.self ++ compact_text (string path)) (c.shown_context.ensures ∙ ap shown_context c.as_str.ensures))
    c.in_ok-push_str-2.ensures.bytes (c.in_ok-push_text-2.ensures ∙ ap (λ file. string_bytes c.push_str-2.new.self ++ compact_text (string file)) c.as_str-2.ensures)
    c.in_ok-push_str-3.ensures.bytes
