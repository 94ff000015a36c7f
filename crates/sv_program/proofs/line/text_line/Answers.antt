use Rattle.std.proofs.Common.{◌≡◌, ◌≤◌, IfOk, None, length, take, rules}
use Rattle.std.proofs.lemmas.Result.{IfOk-weaker}
use Rattle.toml.specs.Parse.{parse_document}
use Rattle.sv_program.specs.Detail.{IsTextLine, line_with_place}
use Rattle.sv_program.proofs.line.text_line.Goals as goal

pub returns : goal.returns
returns c =
    let text = c.args.text.now in
    let place = c.in-Some.span.start in
    let words = c.message.result.now in
    let refused : parse_document text ≡ None = search rules in
    let within : place ≤ length text = search rules in
    let placed = line_with_place c.args.name.now (take place text) words in
    let exact : IfOk c.line_with_place.result (λ line. line ≡ placed) = search rules in
    let told = IsTextLine c.args.name.now text c.args.found.now in
    IfOk-weaker c.line_with_place.result (λ line. line ≡ placed) told (λ line same. rw refused (place, words, within, same)) exact
