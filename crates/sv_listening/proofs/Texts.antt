-- The text that is written for an event with entries is not empty.
use Rattle.std.proofs.Common.{◌≡◌, ℕ, ◌<◌, ◌+◌, List, [], ◌∷◌, ◌++◌, Option, length, codes, refl, arith}
use Rattle.std.proofs.lemmas.List.{length-append}
use Rattle.sv_journal.specs.declared.entry.Entry.{Entry}
use Rattle.sv_listening.specs.Lines.{event_line, event_lines, lost_lines, place_text, recorded_text, shown_entry}

one_byte : length (codes "\n") ≡ 1
one_byte = refl

pub some_text : (lost moment : ℕ) (connection : Option ℕ) (entries : List Entry) → 0 < length entries → 0 < length (recorded_text lost moment connection entries)
some_text lost moment connection [] some = let none : ⊥ = omega arith in absurd none
some_text lost moment connection (entry ∷ entries) some =
    let end = one_byte in
    let line : length (event_line moment connection entry) ≡ length (place_text moment connection ++ shown_entry entry) + length (codes "\n") = length-append _ _ in
    let first : length (event_lines moment connection (entry ∷ entries)) ≡ length (event_line moment connection entry) + length (event_lines moment connection entries) = length-append _ _ in
    let all : length (recorded_text lost moment connection (entry ∷ entries)) ≡ length (lost_lines moment lost) + length (event_lines moment connection (entry ∷ entries)) = length-append _ _ in
    omega arith
