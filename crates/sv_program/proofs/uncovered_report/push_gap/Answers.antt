use Rattle.std.proofs.Common.{ap, codes, ◌∙◌, ◌++◌}
use Rattle.std.specs.String.{string_bytes}
use Rattle.sv_uri.specs.ContextPath.{shown_context}
use Rattle.sv_program.specs.Uncovered.{methods_text}
use Rattle.sv_program.proofs.Lines.{seven}
use Rattle.sv_program.proofs.uncovered_report.push_gap.Goals as goal

pub returns : goal.returns
returns c =
    seven (string_bytes c.args.lines.now) (string_bytes c.push_str.new.self) (string_bytes c.push_str-2.new.self) (string_bytes c.push_str-3.new.self) (string_bytes c.push_str-4.new.self) (string_bytes c.push_str-5.new.self) (string_bytes c.push_methods.new.line) (string_bytes c.push_str-6.new.self)
    (codes "uncovered context=") (shown_context c.args.path.now) (codes " pattern=") c.args.gap.now.pattern (codes " methods=") (methods_text c.args.gap.now.methods) (codes "\n")
    c.in_ok-push_str.ensures.bytes
    (c.in_ok-push_str-2.ensures.bytes ∙ ap (λ t. string_bytes c.push_str.new.self ++ t) c.shown_context.ensures)
    c.in_ok-push_str-3.ensures.bytes
    (c.in_ok-push_str-4.ensures.bytes ∙ ap (λ t. string_bytes c.push_str-3.new.self ++ t) c.text.ensures.value)
    c.in_ok-push_str-5.ensures.bytes
    c.in_ok-push_methods.ensures
    c.in_ok-push_str-6.ensures.bytes
