-- The lines of roles in a file of lines.
use Rattle.std.proofs.Common.{◌≡◌, ◌∙◌, ℕ, ◌+◌, ◌<◌, List, [], ◌∷◌, ◌++◌, length, map, take, get_or, append-nil, ap, sym, Option, Some, None, Bor, filter_map}
use Rattle.std.specs.List.{cons_option}
use Rattle.std.proofs.lemmas.List.{map-append, map_more}
use Rattle.std.proofs.lemmas.List.Elements.{filter_map-append}
use Rattle.sv_audited_contexts.specs.LineFile.{number, role_lines, role_number}

-- The lines of roles among one more line.
role_more : (lines : List (Bor (List ℕ))) (i : ℕ) (other : Bor (List ℕ)) (found : Option (List ℕ)) → i < length lines → role_number (get_or lines i other).now ≡ found
    → role_lines (map (λ line. line.now) (take (i + 1) lines)) ≡ role_lines (map (λ line. line.now) (take i lines)) ++ map number (cons_option found [])
role_more lines i other found within is =
    let before = map (λ line. line.now) (take i lines) in
    ap role_lines (map_more (λ line. line.now) lines i other within)
    ∙ ap (map number) (filter_map-append role_number before ((get_or lines i other).now ∷ []) ∙ ap (λ found. filter_map role_number before ++ cons_option found []) is)
    ∙ map-append number (filter_map role_number before) (cons_option found [])

-- One more line, which is of a constraint.
pub no_role : (lines : List (Bor (List ℕ))) (i : ℕ) (other : Bor (List ℕ)) (numbers : List (Option ℕ)) → i < length lines → None ≡ role_number (get_or lines i other).now
    → numbers ≡ role_lines (map (λ line. line.now) (take i lines)) → numbers ≡ role_lines (map (λ line. line.now) (take (i + 1) lines))
no_role lines i other numbers within none known =
    known ∙ sym (append-nil (role_lines (map (λ line. line.now) (take i lines)))) ∙ sym (role_more lines i other None within (sym none))

-- One more line, which is of a role.
pub one_role : (lines : List (Bor (List ℕ))) (i : ℕ) (other : Bor (List ℕ)) (numbers next : List (Option ℕ)) (text : List ℕ) (line : Option ℕ) → i < length lines
    → Some text ≡ role_number (get_or lines i other).now → line ≡ number text → next ≡ numbers ++ line ∷ []
    → numbers ≡ role_lines (map (λ line. line.now) (take i lines)) → next ≡ role_lines (map (λ line. line.now) (take (i + 1) lines))
one_role lines i other numbers next text line within some is pushed known =
    pushed ∙ ap (λ numbers. numbers ++ line ∷ []) known
    ∙ ap (λ line. role_lines (map (λ line. line.now) (take i lines)) ++ line ∷ []) is
    ∙ sym (role_more lines i other (Some text) within (sym some))
