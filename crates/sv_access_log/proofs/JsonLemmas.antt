-- A line in JSON has no line feed before its end.
use Rattle.std.proofs.Common.{◌≡◌, ℕ, ◌+◌, ◌/◌, ◌%◌, ◌<◌, Bool, true, false, ◌==◌, ◌||◌, not, List, [], ◌∷◌, ◌++◌, codes, cond, refl, sym, subst, ap, ap₂, ◌∙◌, arith, Option, None, Some, decimal, nat_lt, option_map}
use Rattle.std.specs.List.{flat_map, list_all, list_any}
use Rattle.std.specs.Char.{digit_char}
use Rattle.std.proofs.lemmas.Bool.{and_from, and_parts, eqb-true, leb-true, ne_eqb}
use Rattle.std.proofs.lemmas.List.Folds.{list_any-append}
use Rattle.json.specs.Print.{escape, escape_byte, escape_letter, quoted}
use Rattle.serde_json.specs.Data.{Data, Members, member, no_members, null, number, object, string, unsigned}
use Rattle.serde_json.specs.Written.{comma_if, compact_text, members_text}
use Rattle.sv_access_log.proofs.Parts.{IsPart, decimal_part}
use Rattle.sv_access_log.specs.Combined.{agent_of, referer_of}
use Rattle.sv_access_log.specs.Dates.{internet_date}
use Rattle.sv_access_log.specs.Escaping.{escaped, is_printable}
use Rattle.sv_access_log.specs.Json.{bytes_value, line_value, method_of, target_of, text_value, version_of}
use Rattle.sv_access_log.specs.LineLaws.{JsonLinesAreWhole}
use Rattle.sv_access_log.specs.declared.circumstances.Circumstances.{Circumstances}
use Rattle.sv_access_log.specs.declared.escaping.Place.TheVariants.{Json}
use Rattle.sv_run.specs.declared.access.Access.{Access}
use Rattle.sv_uri.specs.ContextPath.{shown_context}

abbrev has_feed : List ℕ → Bool
has_feed text = list_any (λ b. b == 10) text

-- A text without a line feed.
record NoFeed (text : List ℕ) : Type 0 where
  is : has_feed text ≡ false

nil : NoFeed []
nil = record { is = refl }

more : (b : ℕ) {text : List ℕ} → (b == 10) ≡ false → NoFeed text → NoFeed (b ∷ text)
more b first later = record { is = ap₂ (λ x y. x || y) first later.is }

both : {xs ys : List ℕ} → NoFeed xs → NoFeed ys → NoFeed (xs ++ ys)
both {xs} {ys} first second = record { is = list_any-append (λ b. b == 10) xs ys ∙ ap₂ (λ x y. x || y) first.is second.is }

-- ---- Strings

letter_feed : (b : ℕ) → (b == 10) ≡ false → (escape_letter b == 10) ≡ false
letter_feed b other = by_mark (b == 34) (b == 92) (b == 8) (b == 12) (b == 10) (b == 13) (b == 9)
  where
    by_mark : (q s t u v w x : Bool) → (cond (q || s) b (cond t 98 (cond u 102 (cond v 110 (cond w 114 (cond x 116 0))))) == 10) ≡ false
    by_mark true s t u v w x = other
    by_mark false true t u v w x = other
    by_mark false false true u v w x = refl
    by_mark false false false true v w x = refl
    by_mark false false false false true w x = refl
    by_mark false false false false false true x = refl
    by_mark false false false false false false true = refl
    by_mark false false false false false false false = refl

digit_feed : (d : ℕ) → (digit_char d == 10) ≡ false
digit_feed d = by_test (nat_lt d 10)
  where
    by_test : (t : Bool) → (cond t (48 + d) (87 + d) == 10) ≡ false
    by_test true = ne_eqb (48 + d) 10 (λ e. omega (arith, e))
    by_test false = ne_eqb (87 + d) 10 (λ e. omega (arith, e))

chosen_feed : (t u : Bool) {xs ys zs : List ℕ} → NoFeed xs → NoFeed ys → NoFeed zs → NoFeed (cond t xs (cond u ys zs))
chosen_feed true u first second third = first
chosen_feed false true first second third = second
chosen_feed false false first second third = third

other_feed : (b : ℕ) → (b == 10) ≡ false → NoFeed (escape_byte b)
unfolding escape_byte
other_feed b other =
    chosen_feed (nat_lt 0 (escape_letter b)) (nat_lt b 32) (more 92 refl (more (escape_letter b) (letter_feed b other) nil))
    (more 92 refl (more 117 refl (more 48 refl (more 48 refl (more (digit_char (b / 16)) (digit_feed (b / 16)) (more (digit_char (b % 16)) (digit_feed (b % 16)) nil))))))
    (more b other nil)

feed_feed : NoFeed (escape_byte 10)
unfolding escape_byte
feed_feed = record { is = refl }

byte_feed : (b : ℕ) → NoFeed (escape_byte b)
byte_feed b = by_test (b == 10) refl
  where
    by_test : (t : Bool) → (b == 10) ≡ t → NoFeed (escape_byte b)
    by_test true is = subst (λ n. NoFeed (escape_byte n)) (sym (eqb-true b 10 is)) feed_feed
    by_test false other = other_feed b other

escape_feed : (text : List ℕ) → NoFeed (escape text)
escape_feed [] = nil
escape_feed (b ∷ text) = both (byte_feed b) (escape_feed text)

quoted_feed : (text : List ℕ) → NoFeed (quoted text)
quoted_feed text = more 34 refl (both (escape_feed text) (more 34 refl nil))

-- ---- Values

record PlainData (value : Data) : Type 0 where
  text : NoFeed (compact_text value)

record PlainMembers (members : Members) : Type 0 where
  text : (later : Bool) → NoFeed (members_text later members)

plain_string : (text : List ℕ) → PlainData (string text)
plain_string text = record { text = quoted_feed text }

plain_text : (text : Option (List ℕ)) → PlainData (text_value text)
plain_text None = record { text = record { is = refl } }
plain_text (Some text) = plain_string text

plain_bytes : (bytes : Option (List ℕ)) → PlainData (bytes_value bytes)
plain_bytes bytes = plain_text (option_map (escaped Json) bytes)

printable_feed : (text : List ℕ) → list_all is_printable text ≡ true → NoFeed text
printable_feed [] all = nil
printable_feed (b ∷ text) all = more b (by_byte b (and_parts _ _ all).0) (printable_feed text (and_parts _ _ all).1)
  where
    by_byte : (b : ℕ) → is_printable b ≡ true → (b == 10) ≡ false
    by_byte b is = ne_eqb b 10 (λ e. omega (arith, leb-true 32 b (and_parts _ _ is).0, e))

plain_number : (n : ℕ) → PlainData (number (unsigned n))
plain_number n = record { text = printable_feed (decimal n) (decimal_part n).printable }

plain_end : PlainMembers no_members
plain_end = record { text = λ later. record { is = refl } }

plain_member : (name : List ℕ) {value : Data} {others : Members} → PlainData value → PlainMembers others → PlainMembers (member name value others)
plain_member name first last =
    record { text = λ later. both (comma_feed later) (both (quoted_feed name) (more 58 refl (both first.text (last.text true)))) }
  where
    comma_feed : (later : Bool) → NoFeed (comma_if later)
    comma_feed true = record { is = refl }
    comma_feed false = nil

plain_object : {members : Members} → PlainMembers members → PlainData (object members)
plain_object members = record { text = more 123 refl (members.text false) }

plain_line : (access : Access) (around : Circumstances) → PlainData (line_value access around)
unfolding line_value
plain_line access around =
    plain_object
    (plain_member (codes "address") (plain_text around.address)
    (plain_member (codes "agent") (plain_bytes (agent_of access.request))
    (plain_member (codes "bytes") (plain_number access.sent)
    (plain_member (codes "context") (plain_text (option_map shown_context around.context))
    (plain_member (codes "method") (plain_bytes (method_of access.request))
    (plain_member (codes "micros") (plain_number around.micros)
    (plain_member (codes "outcome") (plain_text around.outcome)
    (plain_member (codes "referer") (plain_bytes (referer_of access.request))
    (plain_member (codes "status") (plain_number access.status)
    (plain_member (codes "target") (plain_bytes (target_of access.request))
    (plain_member (codes "time") (plain_string (internet_date around.date))
    (plain_member (codes "user") (plain_text around.user)
    (plain_member (codes "version") (plain_text (version_of access.request)) plain_end)))))))))))))

pub json_is_whole : JsonLinesAreWhole
json_is_whole access around = (compact_text (line_value access around), refl, (plain_line access around).text.is)
