use Rattle.std.proofs.Common.{codes}
use Rattle.std.specs.String.{string_bytes}
use Rattle.guestbook_components.specs.Paragraph.{opening}
use Rattle.guestbook_components.proofs.Pushes.{three}
use Rattle.guestbook_components.proofs.paragraph.push_opening.Goals as goal

pub returns : goal.returns
unfolding opening
returns c =
    three (string_bytes c.args.page.now) (string_bytes c.push_str.new.self) (string_bytes c.push_str-2.new.self) (string_bytes c.push_str-3.new.self)
    (codes "<p class=\"") c.args.class.now (codes "\" dir=\"auto\">")
    c.in_ok-push_str.ensures.bytes
    c.in_ok-push_str-2.ensures.bytes
    c.in_ok-push_str-3.ensures.bytes
