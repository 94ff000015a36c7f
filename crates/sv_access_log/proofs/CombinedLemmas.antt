-- The parts of a line in the combined format.
use Rattle.std.proofs.Common.{◌≡◌, ℕ, ◌+◌, List, [], ◌∷◌, ◌++◌, codes, refl, sym, ap, ◌∙◌, Option, None, Some, decimal, append_assoc, cond, ◌==◌}
use Rattle.std.proofs.lemmas.List.Sums.{sum_by-append}
use Rattle.sv_access_log.proofs.DateLemmas.{log_date_part}
use Rattle.sv_access_log.proofs.Parts.{IsPart, decimal_part, join, part_join, quoted_part, word_part}
use Rattle.sv_access_log.specs.Combined.{agent_of, answer_text, client_text, combined_line, quoted_text, referer_of, request_line, request_text, word_text}
use Rattle.sv_access_log.specs.LineLaws.{CombinedLinesAreWhole, quotation_marks}
use Rattle.sv_access_log.specs.declared.circumstances.Circumstances.{Circumstances}
use Rattle.sv_run.specs.declared.access.Access.{Access}
use Rattle.sv_run.specs.declared.access.LoggedRequest.{LoggedRequest}

blank : IsPart 0 (codes " ")
blank = record { printable = refl; count = refl }

mark : IsPart 1 (codes "\"")
mark = record { printable = refl; count = refl }

word : (text : Option (List ℕ)) → IsPart 0 (word_text text)
word None = record { printable = refl; count = refl }
word (Some text) = word_part text

quoted : (text : Option (List ℕ)) → IsPart 2 (quoted_text text)
quoted None = record { printable = refl; count = refl }
quoted (Some text) = part_join 1 1 _ _ (part_join 1 0 _ _ mark (quoted_part text)) mark

line_part : (request : LoggedRequest) → IsPart 2 (request_line request)
line_part request =
    let target = part_join 1 0 _ _ (part_join 1 0 _ _ (part_join 1 0 _ _ mark (quoted_part request.method)) blank) (quoted_part request.target) in
    let version : IsPart 0 (codes " HTTP/1.") = record { printable = refl; count = refl } in
    part_join 1 1 _ _ (part_join 1 0 _ _ (part_join 1 0 _ _ target version) (decimal_part request.minor)) mark

request_part : (request : Option LoggedRequest) → IsPart 2 (request_text request)
request_part None = record { printable = refl; count = refl }
request_part (Some request) = line_part request

client_part : (around : Circumstances) → IsPart 0 (client_text around)
client_part around =
    let dash : IsPart 0 (codes " - ") = record { printable = refl; count = refl } in
    let begins : IsPart 0 (codes " [") = record { printable = refl; count = refl } in
    let ends : IsPart 0 (codes "] ") = record { printable = refl; count = refl } in
    join (join (join (join (join (word around.address) dash) (word around.user)) begins) (log_date_part around.date)) ends

answer_part : (access : Access) → IsPart 0 (answer_text access)
answer_part access = join (join (join (join blank (decimal_part access.status)) blank) (decimal_part access.sent)) blank

-- The line without its line feed.
abbrev content : Access → Circumstances → List ℕ
content access around =
    client_text around ++ request_text access.request ++ answer_text access
    ++ (quoted_text (referer_of access.request) ++ codes " " ++ quoted_text (agent_of access.request))

content_part : (access : Access) (around : Circumstances) → IsPart 6 (content access around)
content_part access around =
    part_join 2 4 _ _ (part_join 2 0 _ _ (part_join 0 2 _ _ (client_part around) (request_part access.request)) (answer_part access))
    (part_join 2 2 _ _ (part_join 2 0 _ _ (quoted (referer_of access.request)) blank) (quoted (agent_of access.request)))

with_end : (access : Access) (around : Circumstances) → combined_line access around ≡ content access around ++ codes "\n"
with_end access around = sym (append_assoc (client_text around ++ request_text access.request ++ answer_text access) _ (codes "\n"))

pub combined_is_whole : CombinedLinesAreWhole
combined_is_whole access around =
    let part = content_part access around in (
      (content access around, with_end access around, part.printable),
      ap quotation_marks (with_end access around) ∙ sum_by-append (λ b. cond (b == 34) 1 0) (content access around) (codes "\n") ∙ ap (λ n. n + 0) part.count,
    )
